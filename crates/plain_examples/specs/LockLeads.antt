-- Short trails that the examples begin with: locks.
use Rattle.std.specs.Prelude.{List, ◌++◌, [], ◌∷◌}
use Rattle.plain_orders.specs.declared.act.Act.{Act}
use Rattle.plain_orders.specs.declared.act.Act.TheVariants.{Enter, Synced, Shut, Release, Met, Issue, Grant, Granted, GiveUp, Quit, Refused as RefusedAct, Lose, Died}
use Rattle.plain_orders.specs.declared.entry.Entry.TheVariants.{Opened as OpenEntry}
use Rattle.plain_orders.specs.declared.mode.Mode.TheVariants.{Exclusive, Shared}
use Rattle.plain_orders.specs.declared.causes.ShutCause.TheVariants.{Replaced}
use Rattle.plain_orders.specs.declared.causes.Loss.TheVariants.{Reset as ByReset}
use Rattle.plain_orders.specs.declared.op.Op.TheVariants.{Set}
use Rattle.plain_orders.specs.declared.item.Item.TheVariants.{Op}
use Rattle.plain_orders.specs.declared.refused.Refused.TheVariants.{Network}
use Rattle.plain_orders.specs.declared.refused.ReasonName.TheVariants.{Reset}
use Rattle.plain_orders.specs.declared.refused.LinkName.TheVariants.{Recovery}
use Rattle.plain_examples.specs.Leads.{below_x, met, issued}

-- a lock is granted
abbrev pub lock_granted : List Act
lock_granted = met ++ Grant 0 2 0 Exclusive (120 ∷ 0 ∷ []) 2 ∷ []

-- and answered
abbrev pub answered : List Act
answered = lock_granted ++ Granted 0 5 0 2 ∷ []

-- and given up
abbrev pub given : List Act
given = answered ++ GiveUp 0 6 0 Exclusive (120 ∷ 0 ∷ []) ∷ []

-- a request is given up
abbrev pub quitted : List Act
quitted = met ++ Quit 0 5 0 Exclusive (120 ∷ 0 ∷ []) ∷ []

-- a request is given up after an issue
abbrev pub issued_quit : List Act
issued_quit = issued ++ Quit 0 6 0 Exclusive (120 ∷ 0 ∷ []) ∷ []

-- another application server has a session
abbrev pub both : List Act
both = met ++ Enter 0 (OpenEntry 3 1) ∷ []

-- and the first one a lock
abbrev pub both_held : List Act
both_held = both ++ Grant 0 2 0 Exclusive (120 ∷ 0 ∷ []) 3 ∷ []

-- a lock is granted to a job that is not there
abbrev pub stranger_granted : List Act
stranger_granted = met ++ Grant 0 2 3 Exclusive (120 ∷ 0 ∷ []) 2 ∷ []

-- an application server dies after a grant
abbrev pub granted_dead : List Act
granted_dead = lock_granted ++ Died 0 ∷ []

-- or after its answer
abbrev pub answered_dead : List Act
answered_dead = answered ++ Died 0 ∷ []

-- or after a request that was given up
abbrev pub quitted_dead : List Act
quitted_dead = quitted ++ Died 0 ∷ []

-- the session of a lock that was given up is closed
abbrev pub given_closed : List Act
given_closed = given ++ Shut 0 2 Replaced ∷ []

-- and the Close is synced
abbrev pub given_saved : List Act
given_saved = given_closed ++ Synced 0 3 ∷ []

-- and the locks of the session are released
abbrev pub given_released : List Act
given_released = given_saved ++ Release 0 2 ∷ []

-- the first one has a shared lock
abbrev pub both_shared : List Act
both_shared = both ++ Grant 0 2 0 Shared (120 ∷ 0 ∷ []) 3 ∷ []

-- or one on a node below
abbrev pub both_below : List Act
both_below = both ++ Grant 0 2 0 Exclusive below_x 3 ∷ []

-- the request of a granted lock is given up
abbrev pub granted_quit : List Act
granted_quit = lock_granted ++ Quit 0 5 0 Exclusive (120 ∷ 0 ∷ []) ∷ []

-- the session of a granted lock is closed, and its locks are released
abbrev pub granted_released : List Act
granted_released = lock_granted ++ Shut 0 2 Replaced ∷ Synced 0 3 ∷ Release 0 2 ∷ []

-- or that of an answered one
abbrev pub answered_released : List Act
answered_released = answered ++ Shut 0 2 Replaced ∷ Synced 0 3 ∷ Release 0 2 ∷ []

-- or it is lost, another one is met, and the job is told
abbrev pub answered_again : List Act
answered_again =
    answered
    ++ Shut 0 2 Replaced ∷ Synced 0 3 ∷ Lose 0 0 (ByReset 3) ∷ Enter 0 (OpenEntry 4 0) ∷ Synced 0 4 ∷ Met 0 0 4
    ∷ RefusedAct 0 7 (Network 0 Recovery Reset) ∷ []

-- a set is issued under an answered lock
abbrev pub answered_issued : List Act
answered_issued = answered ++ Issue 0 6 0 1 (Op (Set (120 ∷ 0 ∷ []) (53 ∷ []))) ∷ []

-- and the lock given up
abbrev pub issued_given : List Act
issued_given = answered_issued ++ GiveUp 0 6 0 Exclusive (120 ∷ 0 ∷ []) ∷ []

-- a set is issued after a lock that was given up
abbrev pub given_issued : List Act
given_issued = given ++ Issue 0 7 0 1 (Op (Set (120 ∷ 0 ∷ []) (53 ∷ []))) ∷ []
