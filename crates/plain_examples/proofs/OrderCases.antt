-- Examples of acts that are accepted, and of acts that are refused since one condition fails: the condition is named above each.
use Rattle.std.proofs.Common.{ℕ, ◌+◌, ◌++◌, [], ◌∷◌, ◌≡◌, refl, arith, rules}
use Rattle.std.specs.Prelude.{pos, take}
use Rattle.plain_orders.specs.declared.act.Act.TheVariants.{Opened, Enter, Synced, Back, Crash}
use Rattle.plain_orders.specs.declared.op.Op.TheVariants.{Set, Kill, Add}
use Rattle.plain_orders.specs.declared.entry.Entry.TheVariants.{Epoch, Opened as OpenEntry, Update, Commit, Rollback}
use Rattle.plain_orders.specs.declared.limits.TheConstants.{START_EPOCH_LIMIT}
use Rattle.plain_orders.specs.Entries.{last_epoch}
use Rattle.plain_runs.specs.Plain.{start}
use Rattle.plain_examples.specs.Leads.{small, FailsAt, nothing, epochs, opened, open_entered, issued, kept, crash_told, many_opened}
use Rattle.plain_examples.specs.JobLeads.{added, killed, commit_issued, rollback_issued}
use Rattle.plain_examples.proofs.LeadRuns.{opened_runs, open_entered_runs, open_saved_runs, met_runs, issued_runs, kept_runs, server_crashed_runs, crash_told_runs, crash_told_closed_runs, issued_more_runs, issued_closed_runs, issued_cut_runs, issued_told_runs, found_runs, nothing_runs, many_opened_runs, epoch_last, epochs_last, epochs_length, epochs_ordered}
use Rattle.plain_examples.proofs.JobLeadRuns.{added_runs, killed_runs, updated_in_runs, commit_issued_runs, commit_closed_runs, commit_untold_runs, commit_early_runs, rollback_issued_runs, rollback_closed_runs, rollback_untold_runs, rollback_early_runs}
use Rattle.plain_runs.proofs.RunLemmas.{run_more}
use Rattle.plain_examples.specs.OrderExamples.{OpenedExamples, EnterExamples, SyncedExamples, CrashExamples, BackExamples}
use Rattle.std.proofs.Common.{◌∙◌, ap, length, length-append}
use Rattle.std.proofs.lemmas.List.{take_all}

pub opened_examples : OpenedExamples
opened_examples = (
  run_more small start nothing (Opened 0 []) nothing_runs (record { fresh = refl; ordered = tt; low = omega arith }),
  (opened_runs, search rules),
  (nothing_runs, (refl, ((λ e. omega (arith, e.0.is_next)), (omega arith, tt)))),
  (λ n high low. (nothing_runs, (refl, (epochs_ordered [] 0 n refl (omega (arith, low)), ((λ e. omega (arith, e, high, epochs_last 0 n)), tt))))),
)

pub enter_examples : EnterExamples
enter_examples = (
  run_more small start opened (Enter 0 (OpenEntry 2 0)) opened_runs (record { opened = refl; place = refl; alone = refl; up = refl }),
  (nothing_runs, search rules),
  (opened_runs, search rules),
  (open_entered_runs, search rules),
  (server_crashed_runs, search rules),
  (opened_runs, search rules),
  (open_entered_runs, search rules),
  run_more small start issued (Enter 0 (Update 2 1 0 0 (Set (120 ∷ 0 ∷ []) (53 ∷ [])))) issued_runs (record { is_live = refl; told = refl; next = refl; issued = refl }),
  run_more small start killed (Enter 0 (Update 2 1 0 0 (Kill (120 ∷ 0 ∷ [])))) killed_runs (record { is_live = refl; told = refl; next = refl; issued = refl }),
  run_more small start added (Enter 0 (Update 2 1 0 0 (Add (120 ∷ 0 ∷ []) (pos 1)))) added_runs (record { is_live = refl; told = refl; next = refl; issued = refl }),
  (issued_closed_runs, search rules),
  (issued_cut_runs, search rules),
  (found_runs, λ may. absurd (cc (may.told))),
  (issued_more_runs, search rules),
  (met_runs, search rules),
  (issued_runs, search rules),
  (issued_runs, search rules),
  (issued_runs, search rules),
  run_more small start commit_issued (Enter 0 (Commit 2 2 0 1)) commit_issued_runs (record { is_live = refl; told = refl; next = refl; issued = refl }),
  (commit_closed_runs, search rules),
  (commit_untold_runs, search rules),
  (commit_early_runs, search rules),
  (updated_in_runs, search rules),
  (commit_issued_runs, search rules),
  (commit_issued_runs, search rules),
  (commit_issued_runs, search rules),
  run_more small start rollback_issued (Enter 0 (Rollback 2 2 0 1)) rollback_issued_runs (record { is_live = refl; told = refl; next = refl; issued = refl }),
  (rollback_closed_runs, search rules),
  (rollback_untold_runs, search rules),
  (rollback_early_runs, search rules),
  (updated_in_runs, search rules),
  (rollback_issued_runs, search rules),
  (rollback_issued_runs, search rules),
  (rollback_issued_runs, search rules),
)

pub synced_examples : SyncedExamples
synced_examples = (
  run_more small start open_entered (Synced 0 2) open_entered_runs (record { opened = refl; no_less = omega arith; within = omega arith }),
  (nothing_runs, search rules),
  (open_saved_runs, search rules),
  (open_saved_runs, search rules),
)

crash_limit : (n : ℕ) → n ≡ START_EPOCH_LIMIT → FailsAt 3 (many_opened n) (Crash 0 (n + 1))
crash_limit n same =
    let size : length (epochs 0 n) ≡ n = epochs_length 0 n in
    let last : last_epoch (epochs 0 n) ≡ n = omega (arith, epochs_last 0 n) in
    let all : last_epoch (take (n + 1) (epochs 0 n ++ Epoch (last_epoch (epochs 0 n) + 1) ∷ [])) ≡ n + 1 =
    ap last_epoch (take_all (n + 1) (epochs 0 n ++ Epoch (last_epoch (epochs 0 n) + 1) ∷ []) (omega (arith, size, length-append (epochs 0 n) (Epoch (last_epoch (epochs 0 n) + 1) ∷ []))))
    ∙ (epoch_last 0 (epochs 0 n) (last_epoch (epochs 0 n) + 1) ∙ ap (λ m. m + 1) last) in
    (many_opened_runs n (omega (arith, same)), (refl, (omega (arith, size), (omega (arith, size, length-append (epochs 0 n) (Epoch (last_epoch (epochs 0 n) + 1) ∷ [])), ((λ e. omega (arith, e, all, same)), tt)))))

pub crash_examples : CrashExamples
crash_examples = (
  run_more small start kept (Crash 0 3) kept_runs (record { opened = refl; no_less = omega arith; within = omega arith; low = omega arith }),
  (nothing_runs, search rules),
  (kept_runs, search rules),
  (kept_runs, search rules),
  (λ n same. crash_limit n same),
)

pub back_examples : BackExamples
back_examples = (
  run_more small start crash_told (Back 0) crash_told_runs (record { recovering = refl; told = refl; counted = refl; closes = refl }),
  (kept_runs, search rules),
  (server_crashed_runs, search rules),
  (found_runs, search rules),
  (issued_told_runs, search rules),
  (crash_told_closed_runs, search rules),
)
