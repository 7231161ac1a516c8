-- Locks and unlocks.
use Rattle.std.specs.Prelude.{[], ◌∷◌, ◌++◌, Some, None, true, false}
use Rattle.plain_orders.specs.declared.act.Act.TheVariants.{Granted, GiveUp, Quit, Level, Done, Refused, Tick}
use Rattle.app_job.specs.declared.answer.Answer.TheVariants.{Granted as GrantedAnswer, Done as DoneAnswer, Refused as RefusedAnswer}
use Rattle.app_job.specs.declared.refusal.Refusal.TheVariants.{RollbackOnly as RollbackOnlyRefusal, LockTimeout as LockTimeoutRefusal}
use Rattle.app_job.specs.declared.command.Command.TheVariants.{Lock, Unlock}
use Rattle.fit_examples.specs.Groups.{at_x, at_y, held_x, shared_x, held_y, past_with, past_at, met, Does, DoesHeld, DoesAs}
use Rattle.script_fits.specs.Locking.{no_past}
use Rattle.plain_orders.specs.declared.mode.Mode.TheVariants.{Exclusive, Shared}
use Rattle.plain_orders.specs.declared.refused.Refused.TheVariants.{TooDeep, RollbackOnly, LockTimeout}
use Rattle.fit_examples.specs.Trails.{locked, locked_y, locked_both, locked_shared, kept, kept_within, kept_broke, kept_untold, barred}

-- a lock that is granted
abbrev pub LockExamples : Type 0
LockExamples =
    Does locked (Lock at_x Exclusive None) (Granted 0 5 0 2 ∷ []) (GrantedAnswer 2)
    -- a lock with a time to wait
    × Does locked (Lock at_x Exclusive (Some 3)) (Granted 0 5 0 2 ∷ []) (GrantedAnswer 2)
    -- another line
    × (¬ Does locked (Lock at_x Exclusive None) (Granted 0 6 0 2 ∷ []) (GrantedAnswer 2))
    -- another job's acts
    × (¬ DoesAs 2 (Lock at_x Exclusive None) (Granted 2 5 0 2 ∷ []) (GrantedAnswer 2))
    -- another server
    × (¬ Does locked (Lock at_x Exclusive None) (Granted 0 5 1 2 ∷ []) (GrantedAnswer 2))
    -- the hold is of another node
    × (¬ Does locked_y (Lock at_x Exclusive None) (Granted 0 5 0 2 ∷ []) (GrantedAnswer 2))
    -- an earlier hold with this number, of another node, is meant
    × (¬ Does locked_both (Lock at_x Exclusive None) (Granted 0 5 0 2 ∷ []) (GrantedAnswer 2))
    -- the hold is of another mode
    × (¬ Does locked_shared (Lock at_x Exclusive None) (Granted 0 5 0 2 ∷ []) (GrantedAnswer 2))
    -- another mode is asked for
    × (¬ Does locked (Lock at_x Shared None) (Granted 0 5 0 2 ∷ []) (GrantedAnswer 2))
    -- the answer has another number
    × (¬ Does locked (Lock at_x Exclusive None) (Granted 0 5 0 2 ∷ []) (GrantedAnswer 3))
    -- another answer
    × (¬ Does locked (Lock at_x Exclusive None) (Granted 0 5 0 2 ∷ []) DoneAnswer)
    -- an act more
    × (¬ Does locked (Lock at_x Exclusive None) (Granted 0 5 0 2 ∷ Done 0 5 ∷ []) (GrantedAnswer 2))
    -- an act less
    × (¬ Does locked (Lock at_x Exclusive None) [] (GrantedAnswer 2))
    -- an unlock held back
    × (¬ DoesHeld locked no_past (Lock at_x Exclusive None) (Granted 0 5 0 2 ∷ []) (GrantedAnswer 2) (held_x ∷ []))

-- a lock that is given up
abbrev pub LockEndExamples : Type 0
LockEndExamples =
    -- its time is over
    DoesHeld (met ++ Tick 13 ∷ []) (past_at 10) (Lock at_x Exclusive (Some 3)) (Quit 0 5 0 Exclusive at_x.key ∷ Refused 0 5 LockTimeout ∷ []) (RefusedAnswer LockTimeoutRefusal) []
    -- one tick is missing
    × (¬ DoesHeld (met ++ Tick 12 ∷ []) (past_at 10) (Lock at_x Exclusive (Some 3)) (Quit 0 5 0 Exclusive at_x.key ∷ Refused 0 5 LockTimeout ∷ []) (RefusedAnswer LockTimeoutRefusal) [])
    -- the job had no act before
    × DoesHeld (met ++ Tick 3 ∷ []) no_past (Lock at_x Exclusive (Some 3)) (Quit 0 5 0 Exclusive at_x.key ∷ Refused 0 5 LockTimeout ∷ []) (RefusedAnswer LockTimeoutRefusal) []
    -- the job had no act before, and one tick is missing
    × (¬ DoesHeld (met ++ Tick 2 ∷ []) no_past (Lock at_x Exclusive (Some 3)) (Quit 0 5 0 Exclusive at_x.key ∷ Refused 0 5 LockTimeout ∷ []) (RefusedAnswer LockTimeoutRefusal) [])
    -- there is no time to wait
    × (¬ DoesHeld (met ++ Tick 13 ∷ []) (past_at 10) (Lock at_x Exclusive None) (Quit 0 5 0 Exclusive at_x.key ∷ Refused 0 5 LockTimeout ∷ []) (RefusedAnswer LockTimeoutRefusal) [])
    -- another line of the quit
    × (¬ DoesHeld (met ++ Tick 13 ∷ []) (past_at 10) (Lock at_x Exclusive (Some 3)) (Quit 0 6 0 Exclusive at_x.key ∷ Refused 0 5 LockTimeout ∷ []) (RefusedAnswer LockTimeoutRefusal) [])
    -- another line of the refusal
    × (¬ DoesHeld (met ++ Tick 13 ∷ []) (past_at 10) (Lock at_x Exclusive (Some 3)) (Quit 0 5 0 Exclusive at_x.key ∷ Refused 0 6 LockTimeout ∷ []) (RefusedAnswer LockTimeoutRefusal) [])
    -- another server
    × (¬ DoesHeld (met ++ Tick 13 ∷ []) (past_at 10) (Lock at_x Exclusive (Some 3)) (Quit 0 5 1 Exclusive at_x.key ∷ Refused 0 5 LockTimeout ∷ []) (RefusedAnswer LockTimeoutRefusal) [])
    -- another mode
    × (¬ DoesHeld (met ++ Tick 13 ∷ []) (past_at 10) (Lock at_x Exclusive (Some 3)) (Quit 0 5 0 Shared at_x.key ∷ Refused 0 5 LockTimeout ∷ []) (RefusedAnswer LockTimeoutRefusal) [])
    -- another node
    × (¬ DoesHeld (met ++ Tick 13 ∷ []) (past_at 10) (Lock at_x Exclusive (Some 3)) (Quit 0 5 0 Exclusive at_y.key ∷ Refused 0 5 LockTimeout ∷ []) (RefusedAnswer LockTimeoutRefusal) [])
    -- the quit alone
    × (¬ DoesHeld (met ++ Tick 13 ∷ []) (past_at 10) (Lock at_x Exclusive (Some 3)) (Quit 0 5 0 Exclusive at_x.key ∷ []) (RefusedAnswer LockTimeoutRefusal) [])
    -- the refusal alone
    × (¬ DoesHeld (met ++ Tick 13 ∷ []) (past_at 10) (Lock at_x Exclusive (Some 3)) (Refused 0 5 LockTimeout ∷ []) (RefusedAnswer LockTimeoutRefusal) [])
    -- the refusal comes first
    × (¬ DoesHeld (met ++ Tick 13 ∷ []) (past_at 10) (Lock at_x Exclusive (Some 3)) (Refused 0 5 LockTimeout ∷ Quit 0 5 0 Exclusive at_x.key ∷ []) (RefusedAnswer LockTimeoutRefusal) [])
    -- an act more
    × (¬ DoesHeld (met ++ Tick 13 ∷ []) (past_at 10) (Lock at_x Exclusive (Some 3)) (Quit 0 5 0 Exclusive at_x.key ∷ Refused 0 5 LockTimeout ∷ Done 0 5 ∷ []) (RefusedAnswer LockTimeoutRefusal) [])
    -- another answer
    × (¬ DoesHeld (met ++ Tick 13 ∷ []) (past_at 10) (Lock at_x Exclusive (Some 3)) (Quit 0 5 0 Exclusive at_x.key ∷ Refused 0 5 LockTimeout ∷ []) (RefusedAnswer RollbackOnlyRefusal) [])
    -- the job has to roll back
    × DoesHeld (met ++ Tick 0 ∷ []) (past_at 10) (Lock at_x Exclusive None) (Quit 0 5 0 Exclusive at_x.key ∷ Refused 0 5 RollbackOnly ∷ []) (RefusedAnswer RollbackOnlyRefusal) []
    -- the job has to roll back, and the answer says that the time is over
    × (¬ DoesHeld (met ++ Tick 13 ∷ []) (past_at 10) (Lock at_x Exclusive (Some 3)) (Quit 0 5 0 Exclusive at_x.key ∷ Refused 0 5 RollbackOnly ∷ []) (RefusedAnswer LockTimeoutRefusal) [])
    -- another refusal
    × (¬ DoesHeld (met ++ Tick 13 ∷ []) (past_at 10) (Lock at_x Exclusive (Some 3)) (Quit 0 5 0 Exclusive at_x.key ∷ Refused 0 5 TooDeep ∷ []) (RefusedAnswer LockTimeoutRefusal) [])
    -- an unlock held back
    × (¬ DoesHeld (met ++ Tick 13 ∷ []) (past_at 10) (Lock at_x Exclusive (Some 3)) (Quit 0 5 0 Exclusive at_x.key ∷ Refused 0 5 LockTimeout ∷ []) (RefusedAnswer LockTimeoutRefusal) (held_x ∷ []))

-- an unlock
abbrev pub UnlockExamples : Type 0
UnlockExamples =
    DoesHeld kept no_past (Unlock at_x Exclusive false) (GiveUp 0 5 0 Exclusive at_x.key ∷ Done 0 5 ∷ []) DoneAnswer []
    -- another line of the giveup
    × (¬ DoesHeld kept no_past (Unlock at_x Exclusive false) (GiveUp 0 6 0 Exclusive at_x.key ∷ Done 0 5 ∷ []) DoneAnswer [])
    -- another line of the end
    × (¬ DoesHeld kept no_past (Unlock at_x Exclusive false) (GiveUp 0 5 0 Exclusive at_x.key ∷ Done 0 6 ∷ []) DoneAnswer [])
    -- another job's acts
    × (¬ DoesAs 2 (Unlock at_x Exclusive false) (Done 2 5 ∷ []) DoneAnswer)
    -- another server
    × (¬ DoesHeld kept no_past (Unlock at_x Exclusive false) (GiveUp 0 5 1 Exclusive at_x.key ∷ Done 0 5 ∷ []) DoneAnswer [])
    -- another mode
    × (¬ DoesHeld kept no_past (Unlock at_x Exclusive false) (GiveUp 0 5 0 Shared at_x.key ∷ Done 0 5 ∷ []) DoneAnswer [])
    -- another node
    × (¬ DoesHeld kept no_past (Unlock at_x Exclusive false) (GiveUp 0 5 0 Exclusive at_y.key ∷ Done 0 5 ∷ []) DoneAnswer [])
    -- the lock is held, and not given up
    × (¬ DoesHeld kept no_past (Unlock at_x Exclusive false) (Done 0 5 ∷ []) DoneAnswer [])
    -- the giveup alone
    × (¬ DoesHeld kept no_past (Unlock at_x Exclusive false) (GiveUp 0 5 0 Exclusive at_x.key ∷ []) DoneAnswer [])
    -- the giveup comes last
    × (¬ DoesHeld kept no_past (Unlock at_x Exclusive false) (Done 0 5 ∷ GiveUp 0 5 0 Exclusive at_x.key ∷ []) DoneAnswer [])
    -- an act more
    × (¬ DoesHeld kept no_past (Unlock at_x Exclusive false) (GiveUp 0 5 0 Exclusive at_x.key ∷ Done 0 5 ∷ Done 0 5 ∷ []) DoneAnswer [])
    -- no act
    × (¬ DoesHeld kept no_past (Unlock at_x Exclusive false) [] DoneAnswer [])
    -- another answer
    × (¬ DoesHeld kept no_past (Unlock at_x Exclusive false) (GiveUp 0 5 0 Exclusive at_x.key ∷ Done 0 5 ∷ []) (GrantedAnswer 2) [])
    -- at level 0 nothing is held back
    × (¬ DoesHeld kept no_past (Unlock at_x Exclusive false) (GiveUp 0 5 0 Exclusive at_x.key ∷ Done 0 5 ∷ []) DoneAnswer (held_x ∷ []))
    -- within a transaction it is held back
    × DoesHeld kept_within no_past (Unlock at_x Exclusive false) (Done 0 5 ∷ []) DoneAnswer (held_x ∷ [])
    -- within a transaction it is not given up
    × (¬ DoesHeld kept_within no_past (Unlock at_x Exclusive false) (GiveUp 0 5 0 Exclusive at_x.key ∷ Done 0 5 ∷ []) DoneAnswer [])
    -- within a transaction it is not forgotten
    × (¬ DoesHeld kept_within no_past (Unlock at_x Exclusive false) (Done 0 5 ∷ []) DoneAnswer [])
    -- what is held back has the lock's mode
    × (¬ DoesHeld kept_within no_past (Unlock at_x Exclusive false) (Done 0 5 ∷ []) DoneAnswer (shared_x ∷ []))
    -- it comes last of those held back
    × DoesHeld kept_within (past_with (held_y ∷ [])) (Unlock at_x Exclusive false) (Done 0 5 ∷ []) DoneAnswer (held_y ∷ held_x ∷ [])
    -- it comes first
    × (¬ DoesHeld kept_within (past_with (held_y ∷ [])) (Unlock at_x Exclusive false) (Done 0 5 ∷ []) DoneAnswer (held_x ∷ held_y ∷ []))
    -- within a transaction one with now is done at once
    × DoesHeld kept_within no_past (Unlock at_x Exclusive true) (GiveUp 0 5 0 Exclusive at_x.key ∷ Done 0 5 ∷ []) DoneAnswer []
    -- one with now is not held back
    × (¬ DoesHeld kept_within no_past (Unlock at_x Exclusive true) (Done 0 5 ∷ []) DoneAnswer (held_x ∷ []))
    -- a lock that is not held
    × DoesHeld met no_past (Unlock at_x Exclusive false) (Done 0 5 ∷ []) DoneAnswer []
    -- a lock that is not held is given up
    × (¬ DoesHeld met no_past (Unlock at_x Exclusive false) (GiveUp 0 5 0 Exclusive at_x.key ∷ Done 0 5 ∷ []) DoneAnswer [])
    -- a lock that is not held is held back
    × (¬ DoesHeld (met ++ Level 0 3 1 ∷ []) no_past (Unlock at_x Exclusive false) (Done 0 5 ∷ []) DoneAnswer (held_x ∷ []))
    -- the lock has another mode
    × DoesHeld kept no_past (Unlock at_x Shared false) (Done 0 5 ∷ []) DoneAnswer []
    -- a lock that was not answered is not held
    × DoesHeld locked no_past (Unlock at_x Exclusive false) (Done 0 5 ∷ []) DoneAnswer []
    -- its application server's end is broke
    × (¬ DoesHeld kept_broke no_past (Unlock at_x Exclusive false) (GiveUp 0 5 0 Exclusive at_x.key ∷ Done 0 5 ∷ []) DoneAnswer [])
    -- the pair has no session
    × (¬ DoesHeld barred no_past (Unlock at_x Exclusive false) (Done 0 5 ∷ []) DoneAnswer [])
    -- the job was not told that its session was lost
    × (¬ DoesHeld kept_untold no_past (Unlock at_x Exclusive false) (Done 0 5 ∷ []) DoneAnswer [])
