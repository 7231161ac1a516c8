-- Examples of acts that are accepted, and of acts that are refused since one condition fails: the condition is named above each.
use Rattle.std.specs.Prelude.{ℕ, pos, ◌+◌, [], ◌∷◌, ◌≡◌, ◌<◌}
use Rattle.plain_orders.specs.declared.act.Act.TheVariants.{Opened, Enter, Synced, Back, Crash}
use Rattle.plain_orders.specs.declared.op.Op.TheVariants.{Set, Kill, Add}
use Rattle.plain_orders.specs.declared.entry.Entry.TheVariants.{Epoch, Opened as OpenEntry, Closed, Update, Commit, Rollback}
use Rattle.plain_orders.specs.declared.limits.TheConstants.{START_EPOCH_LIMIT, EPOCH_END}
use Rattle.plain_examples.specs.Leads.{Accepted, MayNotCome, FailsAt, nothing, epochs, opened, open_entered, open_saved, met, issued, kept, server_crashed, crash_told, crash_told_closed, issued_more, issued_closed, issued_cut, issued_told, found, many_opened}
use Rattle.plain_examples.specs.JobLeads.{added, killed, updated_in, commit_issued, commit_closed, commit_untold, commit_early, rollback_issued, rollback_closed, rollback_untold, rollback_early}

-- opened
abbrev pub OpenedExamples : Type 0
OpenedExamples =
    Accepted nothing (Opened 0 [])
    -- fresh
    × FailsAt 0 opened (Opened 0 [])
    -- ordered
    × FailsAt 1 nothing (Opened 0 (Epoch 2 ∷ []))
    -- low: the last Epoch is too high
    × ((n : ℕ) → START_EPOCH_LIMIT < n → n < EPOCH_END → FailsAt 2 nothing (Opened 0 (epochs 0 n)))

-- enter
abbrev pub EnterExamples : Type 0
EnterExamples =
    -- an Open
    Accepted opened (Enter 0 (OpenEntry 2 0))
    -- opened
    × FailsAt 0 nothing (Enter 0 (OpenEntry 1 0))
    -- place
    × FailsAt 1 opened (Enter 0 (OpenEntry 3 0))
    -- alone
    × FailsAt 2 open_entered (Enter 0 (OpenEntry 3 0))
    -- up
    × FailsAt 3 server_crashed (Enter 0 (OpenEntry 5 1))
    -- an Epoch
    × FailsAt 0 opened (Enter 0 (Epoch 2))
    -- a Close
    × FailsAt 0 open_entered (Enter 0 (Closed 2))
    -- an update
    × Accepted issued (Enter 0 (Update 2 1 0 0 (Set (120 ∷ 0 ∷ []) (53 ∷ []))))
    × Accepted killed (Enter 0 (Update 2 1 0 0 (Kill (120 ∷ 0 ∷ []))))
    × Accepted added (Enter 0 (Update 2 1 0 0 (Add (120 ∷ 0 ∷ []) (pos 1))))
    -- is_live
    × FailsAt 0 issued_closed (Enter 0 (Update 2 1 0 0 (Set (120 ∷ 0 ∷ []) (53 ∷ []))))
    -- told
    × FailsAt 1 issued_cut (Enter 0 (Update 2 1 0 0 (Set (120 ∷ 0 ∷ []) (53 ∷ []))))
    -- told: the session was not met, and with it issued
    × MayNotCome found (Enter 0 (Update 2 1 0 0 (Set (120 ∷ 0 ∷ []) (53 ∷ []))))
    -- next
    × FailsAt 2 issued_more (Enter 0 (Update 2 2 0 0 (Set (120 ∷ 0 ∷ []) (53 ∷ []))))
    -- issued: nothing is
    × FailsAt 3 met (Enter 0 (Update 2 1 0 0 (Set (120 ∷ 0 ∷ []) (53 ∷ []))))
    -- issued: by another job
    × FailsAt 3 issued (Enter 0 (Update 2 1 2 0 (Set (120 ∷ 0 ∷ []) (53 ∷ []))))
    -- issued: in no transaction
    × FailsAt 3 issued (Enter 0 (Update 2 1 0 1 (Set (120 ∷ 0 ∷ []) (53 ∷ []))))
    -- issued: with another value
    × FailsAt 3 issued (Enter 0 (Update 2 1 0 0 (Set (120 ∷ 0 ∷ []) (54 ∷ []))))
    -- a Commit
    × Accepted commit_issued (Enter 0 (Commit 2 2 0 1))
    -- is_live
    × FailsAt 0 commit_closed (Enter 0 (Commit 2 2 0 1))
    -- told
    × FailsAt 1 commit_untold (Enter 0 (Commit 2 2 0 1))
    -- next
    × FailsAt 2 commit_early (Enter 0 (Commit 2 2 0 1))
    -- issued: nothing is
    × FailsAt 3 updated_in (Enter 0 (Commit 2 2 0 1))
    -- issued: by another job
    × FailsAt 3 commit_issued (Enter 0 (Commit 2 2 2 1))
    -- issued: for another transaction
    × FailsAt 3 commit_issued (Enter 0 (Commit 2 2 0 2))
    -- issued: the Commit
    × FailsAt 3 commit_issued (Enter 0 (Rollback 2 2 0 1))
    -- a Rollback
    × Accepted rollback_issued (Enter 0 (Rollback 2 2 0 1))
    -- is_live
    × FailsAt 0 rollback_closed (Enter 0 (Rollback 2 2 0 1))
    -- told
    × FailsAt 1 rollback_untold (Enter 0 (Rollback 2 2 0 1))
    -- next
    × FailsAt 2 rollback_early (Enter 0 (Rollback 2 2 0 1))
    -- issued: nothing is
    × FailsAt 3 updated_in (Enter 0 (Rollback 2 2 0 1))
    -- issued: by another job
    × FailsAt 3 rollback_issued (Enter 0 (Rollback 2 2 2 1))
    -- issued: for another transaction
    × FailsAt 3 rollback_issued (Enter 0 (Rollback 2 2 0 2))
    -- issued: the Rollback
    × FailsAt 3 rollback_issued (Enter 0 (Commit 2 2 0 1))

-- synced
abbrev pub SyncedExamples : Type 0
SyncedExamples =
    Accepted open_entered (Synced 0 2)
    -- opened
    × FailsAt 0 nothing (Synced 0 0)
    -- no_less
    × FailsAt 1 open_saved (Synced 0 1)
    -- within
    × FailsAt 2 open_saved (Synced 0 3)

-- crash
abbrev pub CrashExamples : Type 0
CrashExamples =
    Accepted kept (Crash 0 3)
    -- opened
    × FailsAt 0 nothing (Crash 0 0)
    -- no_less
    × FailsAt 1 kept (Crash 0 2)
    -- within
    × FailsAt 2 kept (Crash 0 4)
    -- low: the last Epoch that is kept is too high
    × ((n : ℕ) → n ≡ START_EPOCH_LIMIT → FailsAt 3 (many_opened n) (Crash 0 (n + 1)))

-- back
abbrev pub BackExamples : Type 0
BackExamples =
    Accepted crash_told (Back 0)
    -- recovering
    × FailsAt 0 kept (Back 0)
    -- told: of the current order
    × FailsAt 1 server_crashed (Back 0)
    -- told: the session was not met
    × FailsAt 1 found (Back 0)
    -- counted
    × FailsAt 2 issued_told (Back 0)
    -- closes
    × FailsAt 3 crash_told_closed (Back 0)
