-- What a job may do while it has to roll back first, and acts of one step.
use Rattle.std.specs.Prelude.{[], ◌∷◌, ◌++◌, Some, None, true, false}
use Rattle.plain_orders.specs.declared.act.Act.TheVariants.{Issue, Read, GiveUp, Quit, Committed, Reached, Level, Done, Refused, Tick}
use Rattle.plain_orders.specs.declared.item.Item.TheVariants.{Op as OpItem, Commit as CommitItem}
use Rattle.plain_orders.specs.declared.op.Op.TheVariants.{Set as SetOp}
use Rattle.app_job.specs.declared.answer.Answer.TheVariants.{Queued, Value, Done as DoneAnswer, Committed as CommittedAnswer, Refused as RefusedAnswer}
use Rattle.app_job.specs.declared.refusal.Refusal.TheVariants.{RollbackOnly as RollbackOnlyRefusal, LockTimeout as LockTimeoutRefusal}
use Rattle.app_job.specs.declared.command.Command.TheVariants.{Set, Get, Lock, Unlock, Start, Commit, Sync}
use Rattle.fit_examples.specs.Groups.{two, at_x, x_at_1, five, place, met, IsRefused, Does}
use Rattle.std.specs.List.{AllByRecursion}
use Rattle.script_fits.specs.Moments.{moments}
use Rattle.script_fits.specs.Fits.{IsReadFree}
use Rattle.plain_orders.specs.declared.mode.Mode.TheVariants.{Exclusive}
use Rattle.plain_orders.specs.declared.refused.Refused.TheVariants.{RollbackOnly, LockTimeout}
use Rattle.plain_orders.specs.declared.question.Question.TheVariants.{Get as GetQuestion}
use Rattle.plain_orders.specs.declared.via.Via.TheVariants.{Fetched}
use Rattle.fit_examples.specs.Trails.{commits_enter, kept, set_both, set_lost}

-- a job that has to roll back first, and of acts of one step
abbrev pub StepExamples : Type 0
StepExamples =
    -- a set while the job has to roll back
    (¬ Does set_lost (Set x_at_1 five) (Issue 0 5 1 2 (OpItem (SetOp at_x.key five)) ∷ []) (Queued (place 1 2 ∷ [])))
    -- a get
    × Does set_lost (Get x_at_1) (Read 0 5 1 2 Fetched (GetQuestion at_x.key None) ∷ []) (Value None 2 Fetched)
    -- a transaction that begins
    × (¬ Does set_lost Start (Level 0 5 2 ∷ Done 0 5 ∷ []) DoneAnswer)
    -- an unlock
    × (¬ Does set_lost (Unlock x_at_1 Exclusive false) (Done 0 5 ∷ []) DoneAnswer)
    -- a sync
    × (¬ Does set_lost (Sync 1) (Reached 0 5 1 3 ∷ Done 0 5 ∷ []) DoneAnswer)
    -- a set that is refused for that
    × IsRefused set_lost (Set x_at_1 five) (Refused 0 5 RollbackOnly ∷ []) (RefusedAnswer RollbackOnlyRefusal)
    -- a set that is refused for that, at a data server whose loss the job was not told
    × (¬ IsRefused set_lost (Set at_x five) (Refused 0 5 RollbackOnly ∷ []) (RefusedAnswer RollbackOnlyRefusal))
    -- another act stands between those of an unlock
    × (¬ Does kept (Unlock at_x Exclusive false) (GiveUp 0 5 0 Exclusive at_x.key ∷ Tick 1 ∷ Done 0 5 ∷ []) DoneAnswer)
    -- between those of a transaction that begins
    × (¬ Does met Start (Level 0 5 1 ∷ Tick 1 ∷ Done 0 5 ∷ []) DoneAnswer)
    -- between those of a sync
    × (¬ Does met (Sync 0) (Reached 0 5 0 2 ∷ Tick 1 ∷ Done 0 5 ∷ []) DoneAnswer)
    -- between those of a lock that is given up
    × (¬ Does met (Lock at_x Exclusive (Some 3)) (Tick 3 ∷ Quit 0 5 0 Exclusive at_x.key ∷ Tick 4 ∷ Refused 0 5 LockTimeout ∷ []) (RefusedAnswer LockTimeoutRefusal))
    -- between the items of a commit
    × (¬ Does set_both (Commit false) (Issue 0 5 0 2 (CommitItem 1) ∷ Tick 1 ∷ Issue 0 5 1 2 (CommitItem 1) ∷ Level 0 5 0 ∷ []) (Queued (place 0 2 ∷ place 1 2 ∷ [])))
    -- between its answers
    × (¬ Does set_both (Commit true) (Issue 0 5 0 2 (CommitItem 1) ∷ Issue 0 5 1 2 (CommitItem 1) ∷ Level 0 5 0 ∷ commits_enter ++ Committed 0 5 0 4 ∷ Tick 1 ∷ Committed 0 5 1 4 ∷ []) (CommittedAnswer (place 0 4 ∷ place 1 4 ∷ [])))
    -- a job reads that hasn't to roll back
    × AllByRecursion IsReadFree (moments two (set_both ++ Read 0 5 1 2 Fetched (GetQuestion at_x.key None) ∷ []))
    -- a job reads while it has to, where the script is run line by line
    × (¬ AllByRecursion IsReadFree (moments two (set_lost ++ Read 0 5 1 2 Fetched (GetQuestion at_x.key None) ∷ [])))
