-- Commands that were begun, and commands that were refused.
use Rattle.std.specs.Prelude.{pos, [], ◌∷◌, ◌++◌, Some, None, true, false}
use Rattle.plain_orders.specs.declared.act.Act.TheVariants.{Enter, Synced, Shut, Issue, Read, GiveUp, Quit, Counted, Committed, Reached, Level, Refused, Lose}
use Rattle.plain_orders.specs.declared.item.Item.TheVariants.{Op as OpItem, Commit as CommitItem, Rollback as RollbackItem}
use Rattle.plain_orders.specs.declared.op.Op.TheVariants.{Set as SetOp, Add as AddOp}
use Rattle.app_job.specs.declared.answer.Answer.TheVariants.{Refused as RefusedAnswer}
use Rattle.app_job.specs.declared.refusal.Refusal.TheVariants.{Network as NetworkRefusal, RollbackOnly as RollbackOnlyRefusal, NoTransaction as NoTransactionRefusal, TooDeep as TooDeepRefusal, LockTimeout as LockTimeoutRefusal}
use Rattle.app_job.specs.declared.command.Command.TheVariants.{Set, Get, Incr, Lock, Unlock, Start, Commit, Rollback, Sync}
use Rattle.fit_examples.specs.Groups.{at_x, x_at_1, two, group, five, held_x, past_with, met, Begins, IsRefused}
use Rattle.plain_orders.specs.declared.entry.Entry.TheVariants.{Update}
use Rattle.script_fits.specs.Locking.{no_past}
use Rattle.plain_orders.specs.declared.mode.Mode.TheVariants.{Exclusive}
use Rattle.plain_orders.specs.declared.causes.ShutCause.TheVariants.{Replaced}
use Rattle.plain_orders.specs.declared.causes.Loss.TheVariants.{Reset as ByReset}
use Rattle.plain_orders.specs.declared.refused.Refused.TheVariants.{NoTransaction, TooDeep, RollbackOnly, LockTimeout, Network}
use Rattle.plain_orders.specs.declared.refused.ReasonName.TheVariants.{Reset}
use Rattle.plain_orders.specs.declared.refused.LinkName.TheVariants.{Recovery, Trouble}
use Rattle.app_job.specs.declared.reason.Reason.TheVariants.{Reset as ResetReason, NoWay as NoWayReason}
use Rattle.fit_examples.specs.Trails.{commits_enter, within, kept, set_one, set_both, set_lost, barred}
use Rattle.plain_orders.specs.declared.question.Question.TheVariants.{Get as GetQuestion}
use Rattle.plain_orders.specs.declared.via.Via.TheVariants.{Fetched}
use Rattle.script_fits.specs.Commands.{Part, RefusedAfter}

-- a command that was begun
abbrev pub PartExamples : Type 0
PartExamples =
    -- nothing of a set
    Begins met (Set at_x five) []
    -- a set without its end
    × (¬ Begins met (Set at_x five) (Issue 0 5 0 1 (OpItem (SetOp at_x.key five)) ∷ []))
    -- nothing of an increment
    × Begins met (Incr at_x (pos 3)) []
    -- its issue
    × Begins met (Incr at_x (pos 3)) (Issue 0 5 0 1 (OpItem (AddOp at_x.key (pos 3))) ∷ [])
    -- the issue of another amount
    × (¬ Begins met (Incr at_x (pos 3)) (Issue 0 5 0 1 (OpItem (AddOp at_x.key (pos 4))) ∷ []))
    -- the issue at another line
    × (¬ Begins met (Incr at_x (pos 3)) (Issue 0 6 0 1 (OpItem (AddOp at_x.key (pos 3))) ∷ []))
    -- its issue twice
    × (¬ Begins met (Incr at_x (pos 3)) (Issue 0 5 0 1 (OpItem (AddOp at_x.key (pos 3))) ∷ Issue 0 5 0 2 (OpItem (AddOp at_x.key (pos 3))) ∷ []))
    -- an increment with its end
    × (¬ Begins met (Incr at_x (pos 3)) (Issue 0 5 0 1 (OpItem (AddOp at_x.key (pos 3))) ∷ Enter 0 (Update 2 1 0 0 (AddOp at_x.key (pos 3))) ∷ Synced 0 3 ∷ Counted 0 5 0 3 (pos 3) ∷ []))
    -- nothing of a commit that waits
    × Begins set_both (Commit true) []
    -- its items and its level
    × Begins set_both (Commit true) (Issue 0 5 0 2 (CommitItem 1) ∷ Issue 0 5 1 2 (CommitItem 1) ∷ Level 0 5 0 ∷ [])
    -- one of its items and its level
    × (¬ Begins set_both (Commit true) (Issue 0 5 0 2 (CommitItem 1) ∷ Level 0 5 0 ∷ []))
    -- its items alone
    × (¬ Begins set_both (Commit true) (Issue 0 5 0 2 (CommitItem 1) ∷ Issue 0 5 1 2 (CommitItem 1) ∷ []))
    -- one of its ends
    × (¬ Begins set_both (Commit true) (Issue 0 5 0 2 (CommitItem 1) ∷ Issue 0 5 1 2 (CommitItem 1) ∷ Level 0 5 0 ∷ commits_enter ++ Committed 0 5 0 4 ∷ []))
    -- the level of one without updates
    × (¬ Begins within (Commit true) (Level 0 5 0 ∷ []))
    -- the items of a commit that nobody waits for
    × (¬ Begins set_both (Commit false) (Issue 0 5 0 2 (CommitItem 1) ∷ Issue 0 5 1 2 (CommitItem 1) ∷ Level 0 5 0 ∷ []))
    -- the items and the level of a rollback
    × Begins set_both Rollback (Issue 0 5 0 2 (RollbackItem 1) ∷ Issue 0 5 1 2 (RollbackItem 1) ∷ Level 0 5 0 ∷ [])
    -- its items and its level, and the job was not told that a session was lost
    × (¬ Begins set_lost Rollback (Issue 0 5 1 2 (RollbackItem 1) ∷ Level 0 5 0 ∷ []))
    -- one of its items and its level
    × (¬ Begins set_both Rollback (Issue 0 5 0 2 (RollbackItem 1) ∷ Level 0 5 0 ∷ []))
    -- the items of a commit
    × (¬ Begins set_both Rollback (Issue 0 5 0 2 (CommitItem 1) ∷ Issue 0 5 1 2 (CommitItem 1) ∷ Level 0 5 0 ∷ []))
    -- the quit of a lock
    × (¬ Begins met (Lock at_x Exclusive None) (Quit 0 5 0 Exclusive at_x.key ∷ []))
    -- the giveup of an unlock
    × (¬ Begins kept (Unlock at_x Exclusive false) (GiveUp 0 5 0 Exclusive at_x.key ∷ []))
    -- the level of a transaction that begins
    × (¬ Begins met Start (Level 0 5 1 ∷ []))
    -- the number of a sync
    × (¬ Begins met (Sync 0) (Reached 0 5 0 2 ∷ []))
    -- an unlock held back
    × (¬ Part two 0 5 (Set at_x five) no_past [] (held_x ∷ []))

-- a command that was refused
abbrev pub RefusalExamples : Type 0
RefusalExamples =
    -- a session was lost
    IsRefused barred (Set at_x five) (Refused 0 5 (Network 0 Recovery Reset) ∷ []) (RefusedAnswer (NetworkRefusal 0 Recovery (ResetReason 3)))
    -- the numbers of the reason stand in no act
    × IsRefused barred (Set at_x five) (Refused 0 5 (Network 0 Recovery Reset) ∷ []) (RefusedAnswer (NetworkRefusal 0 Recovery (ResetReason 9)))
    -- another line
    × (¬ IsRefused barred (Set at_x five) (Refused 0 6 (Network 0 Recovery Reset) ∷ []) (RefusedAnswer (NetworkRefusal 0 Recovery (ResetReason 3))))
    -- the command is about another data server
    × (¬ IsRefused barred (Set x_at_1 five) (Refused 0 5 (Network 0 Recovery Reset) ∷ []) (RefusedAnswer (NetworkRefusal 0 Recovery (ResetReason 3))))
    -- the command is about none
    × (¬ IsRefused barred Start (Refused 0 5 (Network 0 Recovery Reset) ∷ []) (RefusedAnswer (NetworkRefusal 0 Recovery (ResetReason 3))))
    -- the answer names another data server
    × (¬ IsRefused barred (Set at_x five) (Refused 0 5 (Network 0 Recovery Reset) ∷ []) (RefusedAnswer (NetworkRefusal 1 Recovery (ResetReason 3))))
    -- the answer names another state
    × (¬ IsRefused barred (Set at_x five) (Refused 0 5 (Network 0 Recovery Reset) ∷ []) (RefusedAnswer (NetworkRefusal 0 Trouble (ResetReason 3))))
    -- the answer names another reason
    × (¬ IsRefused barred (Set at_x five) (Refused 0 5 (Network 0 Recovery Reset) ∷ []) (RefusedAnswer (NetworkRefusal 0 Recovery (NoWayReason 1 2))))
    -- a set after its issue
    × (¬ IsRefused met (Set at_x five) (Issue 0 5 0 1 (OpItem (SetOp at_x.key five)) ∷ Shut 0 2 Replaced ∷ Synced 0 3 ∷ Lose 0 0 (ByReset 3) ∷ Refused 0 5 (Network 0 Recovery Reset) ∷ []) (RefusedAnswer (NetworkRefusal 0 Recovery (ResetReason 3))))
    -- a get after its read
    × (¬ IsRefused met (Get at_x) (Read 0 5 0 2 Fetched (GetQuestion at_x.key None) ∷ Shut 0 2 Replaced ∷ Synced 0 3 ∷ Lose 0 0 (ByReset 3) ∷ Refused 0 5 (Network 0 Recovery Reset) ∷ []) (RefusedAnswer (NetworkRefusal 0 Recovery (ResetReason 3))))
    -- an increment before its issue
    × IsRefused barred (Incr at_x (pos 3)) (Refused 0 5 (Network 0 Recovery Reset) ∷ []) (RefusedAnswer (NetworkRefusal 0 Recovery (ResetReason 3)))
    -- an increment after its issue
    × IsRefused met (Incr at_x (pos 3)) (Issue 0 5 0 1 (OpItem (AddOp at_x.key (pos 3))) ∷ Shut 0 2 Replaced ∷ Synced 0 3 ∷ Lose 0 0 (ByReset 3) ∷ Refused 0 5 (Network 0 Recovery Reset) ∷ []) (RefusedAnswer (NetworkRefusal 0 Recovery (ResetReason 3)))
    -- an increment after its end
    × (¬ IsRefused met (Incr at_x (pos 3)) (Issue 0 5 0 1 (OpItem (AddOp at_x.key (pos 3))) ∷ Enter 0 (Update 2 1 0 0 (AddOp at_x.key (pos 3))) ∷ Synced 0 3 ∷ Counted 0 5 0 3 (pos 3) ∷ Shut 0 2 Replaced ∷ Synced 0 4 ∷ Lose 0 0 (ByReset 4) ∷ Refused 0 5 (Network 0 Recovery Reset) ∷ []) (RefusedAnswer (NetworkRefusal 0 Recovery (ResetReason 3))))
    -- a commit that waits, after its items and its level
    × IsRefused set_both (Commit true) (Issue 0 5 0 2 (CommitItem 1) ∷ Issue 0 5 1 2 (CommitItem 1) ∷ Level 0 5 0 ∷ Shut 0 2 Replaced ∷ Synced 0 3 ∷ Lose 0 0 (ByReset 3) ∷ Refused 0 5 (Network 0 Recovery Reset) ∷ []) (RefusedAnswer (NetworkRefusal 0 Recovery (ResetReason 3)))
    -- a commit that nobody waits for, after these
    × (¬ IsRefused set_both (Commit false) (Issue 0 5 0 2 (CommitItem 1) ∷ Issue 0 5 1 2 (CommitItem 1) ∷ Level 0 5 0 ∷ Shut 0 2 Replaced ∷ Synced 0 3 ∷ Lose 0 0 (ByReset 3) ∷ Refused 0 5 (Network 0 Recovery Reset) ∷ []) (RefusedAnswer (NetworkRefusal 0 Recovery (ResetReason 3))))
    -- a rollback after its items and its level
    × IsRefused set_both Rollback (Issue 0 5 0 2 (RollbackItem 1) ∷ Issue 0 5 1 2 (RollbackItem 1) ∷ Level 0 5 0 ∷ Shut 0 2 Replaced ∷ Synced 0 3 ∷ Lose 0 0 (ByReset 3) ∷ Refused 0 5 (Network 0 Recovery Reset) ∷ []) (RefusedAnswer (NetworkRefusal 0 Recovery (ResetReason 3)))
    -- a data server without updates of the transaction
    × (¬ IsRefused set_one (Commit true) (Refused 0 5 (Network 1 Recovery Reset) ∷ []) (RefusedAnswer (NetworkRefusal 1 Recovery (ResetReason 3))))
    -- a commit without a transaction
    × IsRefused met (Commit false) (Refused 0 5 NoTransaction ∷ []) (RefusedAnswer NoTransactionRefusal)
    -- a rollback without a transaction
    × IsRefused met Rollback (Refused 0 5 NoTransaction ∷ []) (RefusedAnswer NoTransactionRefusal)
    -- a set without a transaction
    × (¬ IsRefused met (Set at_x five) (Refused 0 5 NoTransaction ∷ []) (RefusedAnswer NoTransactionRefusal))
    -- a commit that ended its transaction itself
    × (¬ IsRefused set_both (Commit true) (Issue 0 5 0 2 (CommitItem 1) ∷ Issue 0 5 1 2 (CommitItem 1) ∷ Level 0 5 0 ∷ Refused 0 5 NoTransaction ∷ []) (RefusedAnswer NoTransactionRefusal))
    -- a transaction that is too deep
    × IsRefused met Start (Refused 0 5 TooDeep ∷ []) (RefusedAnswer TooDeepRefusal)
    -- a set that is too deep
    × (¬ IsRefused met (Set at_x five) (Refused 0 5 TooDeep ∷ []) (RefusedAnswer TooDeepRefusal))
    -- a set in a transaction that has to be rolled back
    × IsRefused within (Set at_x five) (Refused 0 5 RollbackOnly ∷ []) (RefusedAnswer RollbackOnlyRefusal)
    -- a rollback of it
    × (¬ IsRefused within Rollback (Refused 0 5 RollbackOnly ∷ []) (RefusedAnswer RollbackOnlyRefusal))
    -- the answer says something else
    × (¬ IsRefused within (Set at_x five) (Refused 0 5 RollbackOnly ∷ []) (RefusedAnswer TooDeepRefusal))
    -- a lock whose time is over, without its quit
    × (¬ IsRefused met (Lock at_x Exclusive (Some 3)) (Refused 0 5 LockTimeout ∷ []) (RefusedAnswer LockTimeoutRefusal))
    -- what was held back is lost
    × (¬ RefusedAfter two 0 5 (Set at_x five) (past_with (held_x ∷ [])) (group barred 0 (Refused 0 5 (Network 0 Recovery Reset) ∷ [])) (RefusedAnswer (NetworkRefusal 0 Recovery (ResetReason 3))) [])
