-- Transactions that begin, and that end without updates.
use Rattle.std.specs.Prelude.{[], ◌∷◌, true, false}
use Rattle.plain_orders.specs.declared.act.Act.TheVariants.{Issue, GiveUp, Level, Done}
use Rattle.plain_orders.specs.declared.item.Item.TheVariants.{Commit as CommitItem, Rollback as RollbackItem}
use Rattle.app_job.specs.declared.answer.Answer.TheVariants.{Queued, Done as DoneAnswer, RolledBack as RolledBackAnswer}
use Rattle.app_job.specs.declared.command.Command.TheVariants.{Start, Commit, Rollback}
use Rattle.fit_examples.specs.Groups.{at_x, at_y, held_x, past_with, met, Does, DoesHeld, DoesAs}
use Rattle.script_fits.specs.Locking.{no_past}
use Rattle.plain_orders.specs.declared.mode.Mode.TheVariants.{Exclusive, Shared}
use Rattle.fit_examples.specs.Trails.{within, within_more, kept_within, kept_gone, kept_lost, kept_again}

-- a transaction that begins
abbrev pub StartExamples : Type 0
StartExamples =
    Does met Start (Level 0 5 1 ∷ Done 0 5 ∷ []) DoneAnswer
    -- one within it
    × Does within Start (Level 0 5 2 ∷ Done 0 5 ∷ []) DoneAnswer
    -- another level
    × (¬ Does met Start (Level 0 5 2 ∷ Done 0 5 ∷ []) DoneAnswer)
    -- the level does not rise
    × (¬ Does within Start (Level 0 5 1 ∷ Done 0 5 ∷ []) DoneAnswer)
    -- another line of the level
    × (¬ Does met Start (Level 0 6 1 ∷ Done 0 5 ∷ []) DoneAnswer)
    -- another line of the end
    × (¬ Does met Start (Level 0 5 1 ∷ Done 0 6 ∷ []) DoneAnswer)
    -- another job's acts
    × (¬ DoesAs 2 Start (Level 2 5 1 ∷ Done 2 5 ∷ []) DoneAnswer)
    -- the end comes first
    × (¬ Does met Start (Done 0 5 ∷ Level 0 5 1 ∷ []) DoneAnswer)
    -- the level alone
    × (¬ Does met Start (Level 0 5 1 ∷ []) DoneAnswer)
    -- the end alone
    × (¬ Does met Start (Done 0 5 ∷ []) DoneAnswer)
    -- an act more
    × (¬ Does met Start (Level 0 5 1 ∷ Done 0 5 ∷ Done 0 5 ∷ []) DoneAnswer)
    -- another answer
    × (¬ Does met Start (Level 0 5 1 ∷ Done 0 5 ∷ []) (Queued []))
    -- an unlock held back
    × (¬ DoesHeld met no_past Start (Level 0 5 1 ∷ Done 0 5 ∷ []) DoneAnswer (held_x ∷ []))

-- a commit and of a rollback without updates
abbrev pub EmptyEndExamples : Type 0
EmptyEndExamples =
    -- a commit
    Does within (Commit false) (Level 0 5 0 ∷ Done 0 5 ∷ []) DoneAnswer
    -- it waits for nothing
    × Does within (Commit true) (Level 0 5 0 ∷ Done 0 5 ∷ []) DoneAnswer
    -- there is no transaction
    × (¬ Does met (Commit false) (Level 0 5 0 ∷ Done 0 5 ∷ []) DoneAnswer)
    -- another level
    × (¬ Does within (Commit false) (Level 0 5 1 ∷ Done 0 5 ∷ []) DoneAnswer)
    -- another line of the level
    × (¬ Does within (Commit false) (Level 0 6 0 ∷ Done 0 5 ∷ []) DoneAnswer)
    -- another line of the end
    × (¬ Does within (Commit false) (Level 0 5 0 ∷ Done 0 6 ∷ []) DoneAnswer)
    -- the end comes first
    × (¬ Does within (Commit false) (Done 0 5 ∷ Level 0 5 0 ∷ []) DoneAnswer)
    -- the level alone
    × (¬ Does within (Commit false) (Level 0 5 0 ∷ []) DoneAnswer)
    -- a commit is issued
    × (¬ Does within (Commit false) (Issue 0 5 0 1 (CommitItem 1) ∷ Level 0 5 0 ∷ Done 0 5 ∷ []) DoneAnswer)
    -- an act more
    × (¬ Does within (Commit false) (Level 0 5 0 ∷ Done 0 5 ∷ Done 0 5 ∷ []) DoneAnswer)
    -- another answer
    × (¬ Does within (Commit false) (Level 0 5 0 ∷ Done 0 5 ∷ []) (Queued []))
    -- an unlock held back
    × (¬ DoesHeld within no_past (Commit false) (Level 0 5 0 ∷ Done 0 5 ∷ []) DoneAnswer (held_x ∷ []))
    -- within another transaction
    × Does within_more (Commit false) (Level 0 5 1 ∷ Done 0 5 ∷ []) DoneAnswer
    -- within another one it waits for nothing
    × Does within_more (Commit true) (Level 0 5 1 ∷ Done 0 5 ∷ []) DoneAnswer
    -- within another one it ends that too
    × (¬ Does within_more (Commit false) (Level 0 5 0 ∷ Done 0 5 ∷ []) DoneAnswer)
    -- within another one the level stays
    × (¬ Does within_more (Commit false) (Level 0 5 2 ∷ Done 0 5 ∷ []) DoneAnswer)
    -- within another one what is held back stays so
    × DoesHeld within_more (past_with (held_x ∷ [])) (Commit false) (Level 0 5 1 ∷ Done 0 5 ∷ []) DoneAnswer (held_x ∷ [])
    -- within another one what is held back is lost
    × (¬ DoesHeld within_more (past_with (held_x ∷ [])) (Commit false) (Level 0 5 1 ∷ Done 0 5 ∷ []) DoneAnswer [])
    -- a rollback
    × Does within Rollback (Level 0 5 0 ∷ Done 0 5 ∷ []) DoneAnswer
    -- it ends all transactions
    × Does within_more Rollback (Level 0 5 0 ∷ Done 0 5 ∷ []) DoneAnswer
    -- there is no transaction
    × (¬ Does met Rollback (Level 0 5 0 ∷ Done 0 5 ∷ []) DoneAnswer)
    -- it ends but one
    × (¬ Does within_more Rollback (Level 0 5 1 ∷ Done 0 5 ∷ []) DoneAnswer)
    -- a rollback is issued
    × (¬ Does within Rollback (Issue 0 5 0 1 (RollbackItem 1) ∷ Level 0 5 0 ∷ Done 0 5 ∷ []) DoneAnswer)
    -- the level alone
    × (¬ Does within Rollback (Level 0 5 0 ∷ []) DoneAnswer)
    -- another line
    × (¬ Does within Rollback (Level 0 6 0 ∷ Done 0 5 ∷ []) DoneAnswer)
    -- another answer
    × (¬ Does within Rollback (Level 0 5 0 ∷ Done 0 5 ∷ []) (RolledBackAnswer []))
    -- an unlock held back
    × (¬ DoesHeld within no_past Rollback (Level 0 5 0 ∷ Done 0 5 ∷ []) DoneAnswer (held_x ∷ []))

-- an unlock that is given back at a commit
abbrev pub HeldBackExamples : Type 0
HeldBackExamples =
    DoesHeld kept_within (past_with (held_x ∷ [])) (Commit false) (GiveUp 0 5 0 Exclusive at_x.key ∷ Level 0 5 0 ∷ Done 0 5 ∷ []) DoneAnswer []
    -- it is not given back
    × (¬ DoesHeld kept_within (past_with (held_x ∷ [])) (Commit false) (Level 0 5 0 ∷ Done 0 5 ∷ []) DoneAnswer [])
    -- it stays held back
    × (¬ DoesHeld kept_within (past_with (held_x ∷ [])) (Commit false) (GiveUp 0 5 0 Exclusive at_x.key ∷ Level 0 5 0 ∷ Done 0 5 ∷ []) DoneAnswer (held_x ∷ []))
    -- it is given back after the level
    × (¬ DoesHeld kept_within (past_with (held_x ∷ [])) (Commit false) (Level 0 5 0 ∷ GiveUp 0 5 0 Exclusive at_x.key ∷ Done 0 5 ∷ []) DoneAnswer [])
    -- it is of another node
    × (¬ DoesHeld kept_within (past_with (held_x ∷ [])) (Commit false) (GiveUp 0 5 0 Exclusive at_y.key ∷ Level 0 5 0 ∷ Done 0 5 ∷ []) DoneAnswer [])
    -- it is of another mode
    × (¬ DoesHeld kept_within (past_with (held_x ∷ [])) (Commit false) (GiveUp 0 5 0 Shared at_x.key ∷ Level 0 5 0 ∷ Done 0 5 ∷ []) DoneAnswer [])
    -- it is at another server
    × (¬ DoesHeld kept_within (past_with (held_x ∷ [])) (Commit false) (GiveUp 0 5 1 Exclusive at_x.key ∷ Level 0 5 0 ∷ Done 0 5 ∷ []) DoneAnswer [])
    -- another line
    × (¬ DoesHeld kept_within (past_with (held_x ∷ [])) (Commit false) (GiveUp 0 6 0 Exclusive at_x.key ∷ Level 0 5 0 ∷ Done 0 5 ∷ []) DoneAnswer [])
    -- nothing was held back
    × (¬ DoesHeld kept_within no_past (Commit false) (GiveUp 0 5 0 Exclusive at_x.key ∷ Level 0 5 0 ∷ Done 0 5 ∷ []) DoneAnswer [])
    -- two of one lock, that is gone by the turn of the second
    × DoesHeld kept_within (past_with (held_x ∷ held_x ∷ [])) (Commit false) (GiveUp 0 5 0 Exclusive at_x.key ∷ Level 0 5 0 ∷ Done 0 5 ∷ []) DoneAnswer []
    -- the lock is given back twice
    × (¬ DoesHeld kept_within (past_with (held_x ∷ held_x ∷ [])) (Commit false) (GiveUp 0 5 0 Exclusive at_x.key ∷ GiveUp 0 5 0 Exclusive at_x.key ∷ Level 0 5 0 ∷ Done 0 5 ∷ []) DoneAnswer [])
    -- the lock is gone
    × DoesHeld kept_gone (past_with (held_x ∷ [])) (Commit false) (Level 0 5 0 ∷ Done 0 5 ∷ []) DoneAnswer []
    -- a lock that is gone is given back
    × (¬ DoesHeld kept_gone (past_with (held_x ∷ [])) (Commit false) (GiveUp 0 5 0 Exclusive at_x.key ∷ Level 0 5 0 ∷ Done 0 5 ∷ []) DoneAnswer [])
    -- its session was lost
    × DoesHeld kept_lost (past_with (held_x ∷ [])) (Commit false) (Level 0 5 0 ∷ Done 0 5 ∷ []) DoneAnswer []
    -- a lock whose session was lost is given back
    × (¬ DoesHeld kept_lost (past_with (held_x ∷ [])) (Commit false) (GiveUp 0 5 0 Exclusive at_x.key ∷ Level 0 5 0 ∷ Done 0 5 ∷ []) DoneAnswer [])
    -- it is held in another session
    × DoesHeld kept_again (past_with (held_x ∷ [])) (Commit false) (Level 0 5 0 ∷ Done 0 5 ∷ []) DoneAnswer []
    -- a lock of another session is given back
    × (¬ DoesHeld kept_again (past_with (held_x ∷ [])) (Commit false) (GiveUp 0 5 0 Exclusive at_x.key ∷ Level 0 5 0 ∷ Done 0 5 ∷ []) DoneAnswer [])
    -- at a rollback too
    × DoesHeld kept_within (past_with (held_x ∷ [])) Rollback (GiveUp 0 5 0 Exclusive at_x.key ∷ Level 0 5 0 ∷ Done 0 5 ∷ []) DoneAnswer []
