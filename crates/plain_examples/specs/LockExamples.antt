-- Examples of acts that are accepted, and of acts that are refused since one condition fails: the condition is named above each.
use Rattle.std.specs.Prelude.{[], ◌∷◌}
use Rattle.plain_orders.specs.declared.act.Act.TheVariants.{Release, Grant, Granted, GiveUp, Quit, Free}
use Rattle.plain_orders.specs.declared.mode.Mode.TheVariants.{Exclusive, Shared}
use Rattle.plain_examples.specs.Leads.{Accepted, MayNotCome, FailsAt, below_x, long_key, open_saved, met, server_crashed, closed, closed_saved, met_dead}
use Rattle.plain_examples.specs.JobLeads.{barred, barred_granted}
use Rattle.plain_examples.specs.LockLeads.{lock_granted, answered, given, quitted, issued_quit, both_held, both_shared, both_below, stranger_granted, granted_quit, granted_dead, answered_dead, granted_released, answered_released, answered_again, given_released, issued_given, given_issued}

-- release
abbrev pub ReleaseExamples : Type 0
ReleaseExamples =
    Accepted closed_saved (Release 0 2)
    -- closed: the Close is not synced
    × FailsAt 0 closed (Release 0 2)
    -- closed: there is no Close
    × FailsAt 0 met (Release 0 2)

-- grant
abbrev pub GrantExamples : Type 0
GrantExamples =
    Accepted met (Grant 0 2 0 Exclusive (120 ∷ 0 ∷ []) 2)
    -- is_live
    × FailsAt 0 met (Grant 0 3 0 Exclusive (120 ∷ 0 ∷ []) 2)
    -- up
    × FailsAt 1 server_crashed (Grant 0 2 0 Exclusive (120 ∷ 0 ∷ []) 4)
    -- here
    × FailsAt 2 met (Grant 0 2 0 Exclusive (120 ∷ 0 ∷ []) 3)
    -- free: both are exclusive
    × FailsAt 3 both_held (Grant 0 3 1 Exclusive (120 ∷ 0 ∷ []) 3)
    -- free: shared beside exclusive
    × FailsAt 3 both_held (Grant 0 3 1 Shared (120 ∷ 0 ∷ []) 3)
    -- free: exclusive beside shared
    × FailsAt 3 both_shared (Grant 0 3 1 Exclusive (120 ∷ 0 ∷ []) 3)
    -- free: a node below
    × FailsAt 3 both_held (Grant 0 3 1 Exclusive below_x 3)
    -- free: a node above
    × FailsAt 3 both_below (Grant 0 3 1 Exclusive (120 ∷ 0 ∷ []) 3)
    -- free: another job of the same session
    × FailsAt 3 both_held (Grant 0 2 2 Exclusive (120 ∷ 0 ∷ []) 3)
    -- the same holder
    × Accepted both_held (Grant 0 2 0 Exclusive (120 ∷ 0 ∷ []) 3)
    -- shared beside shared
    × Accepted both_shared (Grant 0 3 1 Shared (120 ∷ 0 ∷ []) 3)
    -- another node
    × Accepted both_held (Grant 0 3 1 Exclusive (121 ∷ 0 ∷ []) 3)
    -- a request that was given up
    × Accepted quitted (Grant 0 2 0 Exclusive (120 ∷ 0 ∷ []) 2)
    -- is_key
    × FailsAt 4 met (Grant 0 2 0 Exclusive [] 2)
    -- within
    × FailsAt 5 met (Grant 0 2 0 Exclusive long_key 2)

-- granted
abbrev pub GrantedExamples : Type 0
GrantedExamples =
    Accepted lock_granted (Granted 0 5 0 2)
    -- a hold that is no longer in force
    × Accepted granted_released (Granted 0 5 0 2)
    -- known
    × FailsAt 0 stranger_granted (Granted 3 5 0 2)
    -- alive
    × FailsAt 1 granted_dead (Granted 0 5 0 2)
    -- free
    × FailsAt 2 barred_granted (Granted 0 6 0 4)
    -- session, and with it sent
    × MayNotCome open_saved (Granted 0 5 0 2)
    -- sent: there is no hold
    × FailsAt 4 met (Granted 0 5 0 2)
    -- sent: it is the hold of another job
    × FailsAt 4 lock_granted (Granted 2 5 0 2)
    -- sent: it has another number
    × FailsAt 4 lock_granted (Granted 0 5 0 1)
    -- sent: it was answered
    × FailsAt 4 answered (Granted 0 6 0 2)
    -- sent: it was given up
    × FailsAt 4 granted_quit (Granted 0 6 0 2)
    -- synced
    × FailsAt 5 both_held (Granted 0 5 0 3)

-- giveup
abbrev pub GiveUpExamples : Type 0
GiveUpExamples =
    Accepted answered (GiveUp 0 6 0 Exclusive (120 ∷ 0 ∷ []))
    -- a hold that is no longer in force
    × Accepted answered_released (GiveUp 0 6 0 Exclusive (120 ∷ 0 ∷ []))
    -- known, and with it answered
    × MayNotCome answered (GiveUp 3 6 0 Exclusive (120 ∷ 0 ∷ []))
    -- alive
    × FailsAt 1 answered_dead (GiveUp 0 6 0 Exclusive (120 ∷ 0 ∷ []))
    -- free, and with it answered
    × MayNotCome barred (GiveUp 0 6 0 Exclusive (120 ∷ 0 ∷ []))
    -- session, and with it answered
    × MayNotCome open_saved (GiveUp 0 6 0 Exclusive (120 ∷ 0 ∷ []))
    -- answered: it is not
    × FailsAt 4 lock_granted (GiveUp 0 6 0 Exclusive (120 ∷ 0 ∷ []))
    -- answered: it is the hold of another job
    × FailsAt 4 answered (GiveUp 2 6 0 Exclusive (120 ∷ 0 ∷ []))
    -- answered: it has another mode
    × FailsAt 4 answered (GiveUp 0 6 0 Shared (120 ∷ 0 ∷ []))
    -- answered: it is of another node
    × FailsAt 4 answered (GiveUp 0 6 0 Exclusive (121 ∷ 0 ∷ []))
    -- answered: it is of an earlier session
    × FailsAt 4 answered_again (GiveUp 0 8 0 Exclusive (120 ∷ 0 ∷ []))
    -- answered: it was given up
    × FailsAt 4 given (GiveUp 0 7 0 Exclusive (120 ∷ 0 ∷ []))

-- quit
abbrev pub QuitExamples : Type 0
QuitExamples =
    Accepted met (Quit 0 5 0 Exclusive (120 ∷ 0 ∷ []))
    × Accepted lock_granted (Quit 0 5 0 Exclusive (120 ∷ 0 ∷ []))
    -- known
    × FailsAt 0 met (Quit 3 6 0 Exclusive (120 ∷ 0 ∷ []))
    -- alive
    × FailsAt 1 met_dead (Quit 0 6 0 Exclusive (120 ∷ 0 ∷ []))
    -- free
    × FailsAt 2 barred (Quit 0 6 0 Exclusive (120 ∷ 0 ∷ []))
    -- session
    × FailsAt 3 open_saved (Quit 0 5 0 Exclusive (120 ∷ 0 ∷ []))
    -- is_key
    × FailsAt 4 met (Quit 0 5 0 Exclusive [])
    -- within
    × FailsAt 5 met (Quit 0 5 0 Exclusive long_key)

-- free
abbrev pub FreeExamples : Type 0
FreeExamples =
    Accepted given (Free 0 2 0 Exclusive (120 ∷ 0 ∷ []))
    × Accepted quitted (Free 0 2 0 Exclusive (120 ∷ 0 ∷ []))
    -- an item that was issued later is on its way
    × Accepted given_issued (Free 0 2 0 Exclusive (120 ∷ 0 ∷ []))
    -- given: it is not
    × FailsAt 0 answered (Free 0 2 0 Exclusive (120 ∷ 0 ∷ []))
    -- given: by another job
    × FailsAt 0 given (Free 0 2 2 Exclusive (120 ∷ 0 ∷ []))
    -- given: with another mode
    × FailsAt 0 given (Free 0 2 0 Shared (120 ∷ 0 ∷ []))
    -- given: of another node
    × FailsAt 0 given (Free 0 2 0 Exclusive (121 ∷ 0 ∷ []))
    -- given: in another session
    × FailsAt 0 given (Free 0 3 0 Exclusive (120 ∷ 0 ∷ []))
    -- given: a request, by another job
    × FailsAt 0 quitted (Free 0 2 2 Exclusive (120 ∷ 0 ∷ []))
    -- given: a request, with another mode
    × FailsAt 0 quitted (Free 0 2 0 Shared (120 ∷ 0 ∷ []))
    -- given: a request, of another node
    × FailsAt 0 quitted (Free 0 2 0 Exclusive (121 ∷ 0 ∷ []))
    -- given: a request, in another session
    × FailsAt 0 quitted (Free 0 3 0 Exclusive (120 ∷ 0 ∷ []))
    -- given: it is no longer in force
    × FailsAt 0 given_released (Free 0 2 0 Exclusive (120 ∷ 0 ∷ []))
    -- entered: after a request
    × FailsAt 1 issued_quit (Free 0 2 0 Exclusive (120 ∷ 0 ∷ []))
    -- entered: after a hold
    × FailsAt 1 issued_given (Free 0 2 0 Exclusive (120 ∷ 0 ∷ []))
