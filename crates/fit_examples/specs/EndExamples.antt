-- Transactions with updates at both data servers.
use Rattle.std.specs.Prelude.{[], ◌∷◌, ◌++◌, true, false}
use Rattle.plain_orders.specs.declared.act.Act.TheVariants.{Enter, Synced, Issue, Committed, RolledBack, Reached, Level, Done}
use Rattle.plain_orders.specs.declared.item.Item.TheVariants.{Commit as CommitItem, Rollback as RollbackItem}
use Rattle.plain_orders.specs.declared.op.Op.TheVariants.{Set as SetOp}
use Rattle.app_job.specs.declared.answer.Answer.TheVariants.{Queued, Granted as GrantedAnswer, Done as DoneAnswer, Committed as CommittedAnswer, RolledBack as RolledBackAnswer}
use Rattle.app_job.specs.declared.command.Command.TheVariants.{Commit, Rollback, Sync}
use Rattle.fit_examples.specs.Groups.{at_x, five, place, held_x, met, Does, DoesHeld, DoesAs}
use Rattle.plain_orders.specs.declared.entry.Entry.TheVariants.{Update, Rollback as RollbackEntry}
use Rattle.script_fits.specs.Locking.{no_past}
use Rattle.fit_examples.specs.Trails.{commits_enter, rollbacks_enter, set_one, set_both, set_lost, lost_told}

-- a commit that nobody waits for
abbrev pub CommitExamples : Type 0
CommitExamples =
    Does set_both (Commit false) (Issue 0 5 0 2 (CommitItem 1) ∷ Issue 0 5 1 2 (CommitItem 1) ∷ Level 0 5 0 ∷ []) (Queued (place 0 2 ∷ place 1 2 ∷ []))
    -- with updates at one data server
    × Does set_one (Commit false) (Issue 0 5 0 2 (CommitItem 1) ∷ Level 0 5 0 ∷ []) (Queued (place 0 2 ∷ []))
    -- a session with updates was lost
    × (¬ Does set_lost (Commit false) (Issue 0 5 1 2 (CommitItem 1) ∷ Level 0 5 0 ∷ []) (Queued (place 1 2 ∷ [])))
    -- one is issued in a session that was lost
    × (¬ Does set_lost (Commit false) (Issue 0 5 0 2 (CommitItem 1) ∷ Issue 0 5 1 2 (CommitItem 1) ∷ Level 0 5 0 ∷ []) (Queued (place 0 2 ∷ place 1 2 ∷ [])))
    -- another order
    × (¬ Does set_both (Commit false) (Issue 0 5 1 2 (CommitItem 1) ∷ Issue 0 5 0 2 (CommitItem 1) ∷ Level 0 5 0 ∷ []) (Queued (place 0 2 ∷ place 1 2 ∷ [])))
    -- another order of the answer
    × (¬ Does set_both (Commit false) (Issue 0 5 0 2 (CommitItem 1) ∷ Issue 0 5 1 2 (CommitItem 1) ∷ Level 0 5 0 ∷ []) (Queued (place 1 2 ∷ place 0 2 ∷ [])))
    -- one is left out
    × (¬ Does set_both (Commit false) (Issue 0 5 0 2 (CommitItem 1) ∷ Level 0 5 0 ∷ []) (Queued (place 0 2 ∷ [])))
    -- the first is left out
    × (¬ Does set_both (Commit false) (Issue 0 5 1 2 (CommitItem 1) ∷ Level 0 5 0 ∷ []) (Queued (place 1 2 ∷ [])))
    -- one too many
    × (¬ Does set_one (Commit false) (Issue 0 5 0 2 (CommitItem 1) ∷ Issue 0 5 1 2 (CommitItem 1) ∷ Level 0 5 0 ∷ []) (Queued (place 0 2 ∷ place 1 2 ∷ [])))
    -- one comes twice
    × (¬ Does set_both (Commit false) (Issue 0 5 0 2 (CommitItem 1) ∷ Issue 0 5 0 3 (CommitItem 1) ∷ Issue 0 5 1 2 (CommitItem 1) ∷ Level 0 5 0 ∷ []) (Queued (place 0 2 ∷ place 0 3 ∷ place 1 2 ∷ [])))
    -- another transaction
    × (¬ Does set_both (Commit false) (Issue 0 5 0 2 (CommitItem 1) ∷ Issue 0 5 1 2 (CommitItem 2) ∷ Level 0 5 0 ∷ []) (Queued (place 0 2 ∷ place 1 2 ∷ [])))
    -- a rollback is issued
    × (¬ Does set_both (Commit false) (Issue 0 5 0 2 (CommitItem 1) ∷ Issue 0 5 1 2 (RollbackItem 1) ∷ Level 0 5 0 ∷ []) (Queued (place 0 2 ∷ place 1 2 ∷ [])))
    -- another line
    × (¬ Does set_both (Commit false) (Issue 0 5 0 2 (CommitItem 1) ∷ Issue 0 6 1 2 (CommitItem 1) ∷ Level 0 5 0 ∷ []) (Queued (place 0 2 ∷ place 1 2 ∷ [])))
    -- the answer has another number
    × (¬ Does set_both (Commit false) (Issue 0 5 0 2 (CommitItem 1) ∷ Issue 0 5 1 2 (CommitItem 1) ∷ Level 0 5 0 ∷ []) (Queued (place 0 2 ∷ place 1 3 ∷ [])))
    -- the answer has one number
    × (¬ Does set_both (Commit false) (Issue 0 5 0 2 (CommitItem 1) ∷ Issue 0 5 1 2 (CommitItem 1) ∷ Level 0 5 0 ∷ []) (Queued (place 0 2 ∷ [])))
    -- another answer
    × (¬ Does set_both (Commit false) (Issue 0 5 0 2 (CommitItem 1) ∷ Issue 0 5 1 2 (CommitItem 1) ∷ Level 0 5 0 ∷ []) (CommittedAnswer (place 0 2 ∷ place 1 2 ∷ [])))
    -- the level stands between them
    × (¬ Does set_both (Commit false) (Issue 0 5 0 2 (CommitItem 1) ∷ Level 0 5 0 ∷ Issue 0 5 1 2 (CommitItem 1) ∷ []) (Queued (place 0 2 ∷ place 1 2 ∷ [])))
    -- another level
    × (¬ Does set_both (Commit false) (Issue 0 5 0 2 (CommitItem 1) ∷ Issue 0 5 1 2 (CommitItem 1) ∷ Level 0 5 1 ∷ []) (Queued (place 0 2 ∷ place 1 2 ∷ [])))
    -- no level
    × (¬ Does set_both (Commit false) (Issue 0 5 0 2 (CommitItem 1) ∷ Issue 0 5 1 2 (CommitItem 1) ∷ []) (Queued (place 0 2 ∷ place 1 2 ∷ [])))
    -- an act more
    × (¬ Does set_both (Commit false) (Issue 0 5 0 2 (CommitItem 1) ∷ Issue 0 5 1 2 (CommitItem 1) ∷ Level 0 5 0 ∷ Done 0 5 ∷ []) (Queued (place 0 2 ∷ place 1 2 ∷ [])))
    -- it is done without its items
    × (¬ Does set_both (Commit false) (Level 0 5 0 ∷ Done 0 5 ∷ []) DoneAnswer)
    -- an unlock held back
    × (¬ DoesHeld set_both no_past (Commit false) (Issue 0 5 0 2 (CommitItem 1) ∷ Issue 0 5 1 2 (CommitItem 1) ∷ Level 0 5 0 ∷ []) (Queued (place 0 2 ∷ place 1 2 ∷ [])) (held_x ∷ []))

-- a commit that waits
abbrev pub AwaitedCommitExamples : Type 0
AwaitedCommitExamples =
    Does set_both (Commit true) (Issue 0 5 0 2 (CommitItem 1) ∷ Issue 0 5 1 2 (CommitItem 1) ∷ Level 0 5 0 ∷ commits_enter ++ Committed 0 5 0 4 ∷ Committed 0 5 1 4 ∷ []) (CommittedAnswer (place 0 4 ∷ place 1 4 ∷ []))
    -- another order of the ends
    × (¬ Does set_both (Commit true) (Issue 0 5 0 2 (CommitItem 1) ∷ Issue 0 5 1 2 (CommitItem 1) ∷ Level 0 5 0 ∷ commits_enter ++ Committed 0 5 1 4 ∷ Committed 0 5 0 4 ∷ []) (CommittedAnswer (place 0 4 ∷ place 1 4 ∷ [])))
    -- another order of the items
    × (¬ Does set_both (Commit true) (Issue 0 5 1 2 (CommitItem 1) ∷ Issue 0 5 0 2 (CommitItem 1) ∷ Level 0 5 0 ∷ commits_enter ++ Committed 0 5 0 4 ∷ Committed 0 5 1 4 ∷ []) (CommittedAnswer (place 0 4 ∷ place 1 4 ∷ [])))
    -- another order of the answer
    × (¬ Does set_both (Commit true) (Issue 0 5 0 2 (CommitItem 1) ∷ Issue 0 5 1 2 (CommitItem 1) ∷ Level 0 5 0 ∷ commits_enter ++ Committed 0 5 0 4 ∷ Committed 0 5 1 4 ∷ []) (CommittedAnswer (place 1 4 ∷ place 0 4 ∷ [])))
    -- an end is left out
    × (¬ Does set_both (Commit true) (Issue 0 5 0 2 (CommitItem 1) ∷ Issue 0 5 1 2 (CommitItem 1) ∷ Level 0 5 0 ∷ commits_enter ++ Committed 0 5 0 4 ∷ []) (CommittedAnswer (place 0 4 ∷ [])))
    -- an end too many
    × (¬ Does set_both (Commit true) (Issue 0 5 0 2 (CommitItem 1) ∷ Issue 0 5 1 2 (CommitItem 1) ∷ Level 0 5 0 ∷ commits_enter ++ Committed 0 5 0 4 ∷ Committed 0 5 1 4 ∷ Committed 0 5 1 4 ∷ []) (CommittedAnswer (place 0 4 ∷ place 1 4 ∷ place 1 4 ∷ [])))
    -- an end is of another line
    × (¬ Does set_both (Commit true) (Issue 0 5 0 2 (CommitItem 1) ∷ Issue 0 5 1 2 (CommitItem 1) ∷ Level 0 5 0 ∷ commits_enter ++ Committed 0 5 0 4 ∷ Committed 0 6 1 4 ∷ []) (CommittedAnswer (place 0 4 ∷ place 1 4 ∷ [])))
    -- an end is that of a rollback
    × (¬ Does set_both (Commit true) (Issue 0 5 0 2 (CommitItem 1) ∷ Issue 0 5 1 2 (CommitItem 1) ∷ Level 0 5 0 ∷ commits_enter ++ Committed 0 5 0 4 ∷ RolledBack 0 5 1 4 ∷ []) (CommittedAnswer (place 0 4 ∷ place 1 4 ∷ [])))
    -- an item is left out
    × (¬ Does set_both (Commit true) (Issue 0 5 0 2 (CommitItem 1) ∷ Level 0 5 0 ∷ commits_enter ++ Committed 0 5 0 4 ∷ Committed 0 5 1 4 ∷ []) (CommittedAnswer (place 0 4 ∷ place 1 4 ∷ [])))
    -- an end stands before the level
    × (¬ Does set_both (Commit true) (Issue 0 5 0 2 (CommitItem 1) ∷ Issue 0 5 1 2 (CommitItem 1) ∷ commits_enter ++ Committed 0 5 0 4 ∷ Level 0 5 0 ∷ Committed 0 5 1 4 ∷ []) (CommittedAnswer (place 0 4 ∷ place 1 4 ∷ [])))
    -- the answer has another number
    × (¬ Does set_both (Commit true) (Issue 0 5 0 2 (CommitItem 1) ∷ Issue 0 5 1 2 (CommitItem 1) ∷ Level 0 5 0 ∷ commits_enter ++ Committed 0 5 0 4 ∷ Committed 0 5 1 4 ∷ []) (CommittedAnswer (place 0 4 ∷ place 1 2 ∷ [])))
    -- it does not wait
    × (¬ Does set_both (Commit true) (Issue 0 5 0 2 (CommitItem 1) ∷ Issue 0 5 1 2 (CommitItem 1) ∷ Level 0 5 0 ∷ []) (Queued (place 0 2 ∷ place 1 2 ∷ [])))
    -- no end
    × (¬ Does set_both (Commit true) (Issue 0 5 0 2 (CommitItem 1) ∷ Issue 0 5 1 2 (CommitItem 1) ∷ Level 0 5 0 ∷ []) (CommittedAnswer []))
    -- an act more
    × (¬ Does set_both (Commit true) (Issue 0 5 0 2 (CommitItem 1) ∷ Issue 0 5 1 2 (CommitItem 1) ∷ Level 0 5 0 ∷ commits_enter ++ Committed 0 5 0 4 ∷ Committed 0 5 1 4 ∷ Done 0 5 ∷ []) (CommittedAnswer (place 0 4 ∷ place 1 4 ∷ [])))
    -- another answer
    × (¬ Does set_both (Commit true) (Issue 0 5 0 2 (CommitItem 1) ∷ Issue 0 5 1 2 (CommitItem 1) ∷ Level 0 5 0 ∷ commits_enter ++ Committed 0 5 0 4 ∷ Committed 0 5 1 4 ∷ []) (RolledBackAnswer (place 0 4 ∷ place 1 4 ∷ [])))
    -- nobody waits for it
    × (¬ Does set_both (Commit false) (Issue 0 5 0 2 (CommitItem 1) ∷ Issue 0 5 1 2 (CommitItem 1) ∷ Level 0 5 0 ∷ commits_enter ++ Committed 0 5 0 4 ∷ Committed 0 5 1 4 ∷ []) (CommittedAnswer (place 0 4 ∷ place 1 4 ∷ [])))

-- a rollback
abbrev pub RollbackExamples : Type 0
RollbackExamples =
    Does set_both Rollback (Issue 0 5 0 2 (RollbackItem 1) ∷ Issue 0 5 1 2 (RollbackItem 1) ∷ Level 0 5 0 ∷ rollbacks_enter ++ RolledBack 0 5 0 4 ∷ RolledBack 0 5 1 4 ∷ []) (RolledBackAnswer (place 0 4 ∷ place 1 4 ∷ []))
    -- within another transaction
    × Does (set_both ++ Level 0 4 2 ∷ []) Rollback (Issue 0 5 0 2 (RollbackItem 1) ∷ Issue 0 5 1 2 (RollbackItem 1) ∷ Level 0 5 0 ∷ rollbacks_enter ++ RolledBack 0 5 0 4 ∷ RolledBack 0 5 1 4 ∷ []) (RolledBackAnswer (place 0 4 ∷ place 1 4 ∷ []))
    -- a session with updates was lost, and the job was told of that
    × Does lost_told Rollback (Issue 0 5 1 2 (RollbackItem 1) ∷ Level 0 5 0 ∷ Enter 1 (Update 2 1 0 1 (SetOp at_x.key five)) ∷ Enter 1 (RollbackEntry 2 2 0 1) ∷ Synced 1 4 ∷ RolledBack 0 5 1 4 ∷ []) (RolledBackAnswer (place 1 4 ∷ []))
    -- a session with updates was lost, and the job was not told of that
    × (¬ Does set_lost Rollback (Issue 0 5 1 2 (RollbackItem 1) ∷ Level 0 5 0 ∷ Enter 1 (Update 2 1 0 1 (SetOp at_x.key five)) ∷ Enter 1 (RollbackEntry 2 2 0 1) ∷ Synced 1 4 ∷ RolledBack 0 5 1 4 ∷ []) (RolledBackAnswer (place 1 4 ∷ [])))
    -- another order of the ends
    × (¬ Does set_both Rollback (Issue 0 5 0 2 (RollbackItem 1) ∷ Issue 0 5 1 2 (RollbackItem 1) ∷ Level 0 5 0 ∷ rollbacks_enter ++ RolledBack 0 5 1 4 ∷ RolledBack 0 5 0 4 ∷ []) (RolledBackAnswer (place 0 4 ∷ place 1 4 ∷ [])))
    -- another order of the items
    × (¬ Does set_both Rollback (Issue 0 5 1 2 (RollbackItem 1) ∷ Issue 0 5 0 2 (RollbackItem 1) ∷ Level 0 5 0 ∷ rollbacks_enter ++ RolledBack 0 5 0 4 ∷ RolledBack 0 5 1 4 ∷ []) (RolledBackAnswer (place 0 4 ∷ place 1 4 ∷ [])))
    -- an end is left out
    × (¬ Does set_both Rollback (Issue 0 5 0 2 (RollbackItem 1) ∷ Issue 0 5 1 2 (RollbackItem 1) ∷ Level 0 5 0 ∷ rollbacks_enter ++ RolledBack 0 5 0 4 ∷ []) (RolledBackAnswer (place 0 4 ∷ [])))
    -- an end too many
    × (¬ Does set_both Rollback (Issue 0 5 0 2 (RollbackItem 1) ∷ Issue 0 5 1 2 (RollbackItem 1) ∷ Level 0 5 0 ∷ rollbacks_enter ++ RolledBack 0 5 0 4 ∷ RolledBack 0 5 1 4 ∷ RolledBack 0 5 1 4 ∷ []) (RolledBackAnswer (place 0 4 ∷ place 1 4 ∷ place 1 4 ∷ [])))
    -- an item is left out
    × (¬ Does set_both Rollback (Issue 0 5 0 2 (RollbackItem 1) ∷ Level 0 5 0 ∷ rollbacks_enter ++ RolledBack 0 5 0 4 ∷ RolledBack 0 5 1 4 ∷ []) (RolledBackAnswer (place 0 4 ∷ place 1 4 ∷ [])))
    -- a commit is issued
    × (¬ Does set_both Rollback (Issue 0 5 0 2 (RollbackItem 1) ∷ Issue 0 5 1 2 (CommitItem 1) ∷ Level 0 5 0 ∷ rollbacks_enter ++ RolledBack 0 5 0 4 ∷ RolledBack 0 5 1 4 ∷ []) (RolledBackAnswer (place 0 4 ∷ place 1 4 ∷ [])))
    -- an end is that of a commit
    × (¬ Does set_both Rollback (Issue 0 5 0 2 (RollbackItem 1) ∷ Issue 0 5 1 2 (RollbackItem 1) ∷ Level 0 5 0 ∷ rollbacks_enter ++ RolledBack 0 5 0 4 ∷ Committed 0 5 1 4 ∷ []) (RolledBackAnswer (place 0 4 ∷ place 1 4 ∷ [])))
    -- another transaction
    × (¬ Does set_both Rollback (Issue 0 5 0 2 (RollbackItem 1) ∷ Issue 0 5 1 2 (RollbackItem 2) ∷ Level 0 5 0 ∷ rollbacks_enter ++ RolledBack 0 5 0 4 ∷ RolledBack 0 5 1 4 ∷ []) (RolledBackAnswer (place 0 4 ∷ place 1 4 ∷ [])))
    -- another line
    × (¬ Does set_both Rollback (Issue 0 5 0 2 (RollbackItem 1) ∷ Issue 0 5 1 2 (RollbackItem 1) ∷ Level 0 5 0 ∷ rollbacks_enter ++ RolledBack 0 5 0 4 ∷ RolledBack 0 6 1 4 ∷ []) (RolledBackAnswer (place 0 4 ∷ place 1 4 ∷ [])))
    -- another level
    × (¬ Does set_both Rollback (Issue 0 5 0 2 (RollbackItem 1) ∷ Issue 0 5 1 2 (RollbackItem 1) ∷ Level 0 5 1 ∷ rollbacks_enter ++ RolledBack 0 5 0 4 ∷ RolledBack 0 5 1 4 ∷ []) (RolledBackAnswer (place 0 4 ∷ place 1 4 ∷ [])))
    -- it does not wait
    × (¬ Does set_both Rollback (Issue 0 5 0 2 (RollbackItem 1) ∷ Issue 0 5 1 2 (RollbackItem 1) ∷ Level 0 5 0 ∷ []) (Queued (place 0 2 ∷ place 1 2 ∷ [])))
    -- the answer has another number
    × (¬ Does set_both Rollback (Issue 0 5 0 2 (RollbackItem 1) ∷ Issue 0 5 1 2 (RollbackItem 1) ∷ Level 0 5 0 ∷ rollbacks_enter ++ RolledBack 0 5 0 4 ∷ RolledBack 0 5 1 4 ∷ []) (RolledBackAnswer (place 0 4 ∷ place 1 2 ∷ [])))
    -- another answer
    × (¬ Does set_both Rollback (Issue 0 5 0 2 (RollbackItem 1) ∷ Issue 0 5 1 2 (RollbackItem 1) ∷ Level 0 5 0 ∷ rollbacks_enter ++ RolledBack 0 5 0 4 ∷ RolledBack 0 5 1 4 ∷ []) (CommittedAnswer (place 0 4 ∷ place 1 4 ∷ [])))
    -- an act more
    × (¬ Does set_both Rollback (Issue 0 5 0 2 (RollbackItem 1) ∷ Issue 0 5 1 2 (RollbackItem 1) ∷ Level 0 5 0 ∷ rollbacks_enter ++ RolledBack 0 5 0 4 ∷ RolledBack 0 5 1 4 ∷ Done 0 5 ∷ []) (RolledBackAnswer (place 0 4 ∷ place 1 4 ∷ [])))

-- a sync
abbrev pub SyncExamples : Type 0
SyncExamples =
    Does met (Sync 0) (Reached 0 5 0 2 ∷ Done 0 5 ∷ []) DoneAnswer
    -- another server
    × (¬ Does met (Sync 1) (Reached 0 5 0 2 ∷ Done 0 5 ∷ []) DoneAnswer)
    -- another line
    × (¬ Does met (Sync 0) (Reached 0 6 0 2 ∷ Done 0 5 ∷ []) DoneAnswer)
    -- another line of the end
    × (¬ Does met (Sync 0) (Reached 0 5 0 2 ∷ Done 0 6 ∷ []) DoneAnswer)
    -- another job's acts
    × (¬ DoesAs 2 (Sync 0) (Reached 2 5 0 2 ∷ Done 2 5 ∷ []) DoneAnswer)
    -- the end comes first
    × (¬ Does met (Sync 0) (Done 0 5 ∷ Reached 0 5 0 2 ∷ []) DoneAnswer)
    -- the end is missing
    × (¬ Does met (Sync 0) (Reached 0 5 0 2 ∷ []) DoneAnswer)
    -- the end alone
    × (¬ Does met (Sync 0) (Done 0 5 ∷ []) DoneAnswer)
    -- an act more
    × (¬ Does met (Sync 0) (Reached 0 5 0 2 ∷ Done 0 5 ∷ Done 0 5 ∷ []) DoneAnswer)
    -- another answer
    × (¬ Does met (Sync 0) (Reached 0 5 0 2 ∷ Done 0 5 ∷ []) (GrantedAnswer 2))
    -- an unlock held back
    × (¬ DoesHeld met no_past (Sync 0) (Reached 0 5 0 2 ∷ Done 0 5 ∷ []) DoneAnswer (held_x ∷ []))
