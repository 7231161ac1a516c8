-- Examples of acts that are accepted, and of acts that are refused since one condition fails: the condition is named above each.
use Rattle.std.proofs.Common.{[], ◌∷◌, refl, arith, rules}
use Rattle.std.specs.Prelude.{pos}
use Rattle.plain_orders.specs.declared.act.Act.TheVariants.{Counted, NotWhole, Range, Committed, RolledBack, Reached}
use Rattle.plain_runs.specs.Plain.{start}
use Rattle.plain_examples.specs.Leads.{small, nines_text, kept}
use Rattle.plain_examples.specs.JobLeads.{added_kept, letter_kept, nines_kept, commit_kept, rollback_kept}
use Rattle.plain_examples.proofs.LeadRuns.{open_saved_runs, met_runs, applied_runs, kept_runs, cut_saved_runs, met_cut_saved_runs, met_dead_runs}
use Rattle.plain_examples.proofs.JobLeadRuns.{added_in_runs, added_kept_runs, added_dead_runs, letter_added_in_runs, letter_kept_runs, letter_dead_runs, nines_added_in_runs, nines_kept_runs, nines_dead_runs, commit_in_runs, commit_kept_runs, commit_dead_runs, commit_cut_saved_runs, rollback_in_runs, rollback_kept_runs, rollback_dead_runs, rollback_cut_saved_runs, barred_runs, overtaken_runs}
use Rattle.plain_runs.proofs.RunLemmas.{run_more}
use Rattle.plain_examples.specs.AnswerExamples.{CountedExamples, NotWholeExamples, RangeExamples, CommittedExamples, RolledBackExamples, ReachedExamples}

pub counted_examples : CountedExamples
counted_examples = (
  run_more small start added_kept (Counted 0 5 0 3 (pos 1)) added_kept_runs ((record { known = omega arith; alive = refl; free = refl }, record { stands = record { there = refl; synced = omega arith; its = refl; in_told = refl; in_order = refl }; is_sum = refl })),
  (added_kept_runs, λ may. omega (arith, may.0.known)),
  (added_dead_runs, search rules),
  (barred_runs, λ may. absurd (cc (may.0.free))),
  (open_saved_runs, λ may. absurd (cc (may.1.stands.there))),
  (added_in_runs, search rules),
  (added_kept_runs, search rules),
  (added_kept_runs, search rules),
  (kept_runs, λ may. absurd (cc (may.1.stands.its))),
  (overtaken_runs (53 ∷ []) (omega arith), search rules),
  (added_kept_runs, search rules),
)

pub not_whole_examples : NotWholeExamples
not_whole_examples = (
  run_more small start letter_kept (NotWhole 0 5 0 4) letter_kept_runs ((record { known = omega arith; alive = refl; free = refl }, record { stands = record { there = refl; synced = omega arith; its = refl; in_told = refl; in_order = refl }; is_sum = refl })),
  (letter_kept_runs, λ may. omega (arith, may.0.known)),
  (letter_dead_runs, search rules),
  (barred_runs, λ may. absurd (cc (may.0.free))),
  (open_saved_runs, λ may. absurd (cc (may.1.stands.there))),
  (letter_added_in_runs, search rules),
  (letter_kept_runs, search rules),
  (letter_kept_runs, search rules),
  (kept_runs, λ may. absurd (cc (may.1.stands.its))),
  (overtaken_runs (97 ∷ []) (omega arith), search rules),
  (added_kept_runs, search rules),
)

pub range_examples : RangeExamples
range_examples = (
  run_more small start nines_kept (Range 0 5 0 4) nines_kept_runs ((record { known = omega arith; alive = refl; free = refl }, record { stands = record { there = refl; synced = omega arith; its = refl; in_told = refl; in_order = refl }; is_sum = refl })),
  (nines_kept_runs, λ may. omega (arith, may.0.known)),
  (nines_dead_runs, search rules),
  (barred_runs, λ may. absurd (cc (may.0.free))),
  (open_saved_runs, λ may. absurd (cc (may.1.stands.there))),
  (nines_added_in_runs, search rules),
  (nines_kept_runs, search rules),
  (nines_kept_runs, search rules),
  (kept_runs, λ may. absurd (cc (may.1.stands.its))),
  (overtaken_runs nines_text (omega arith), search rules),
  (added_kept_runs, search rules),
)

pub committed_examples : CommittedExamples
committed_examples = (
  run_more small start commit_kept (Committed 0 6 0 4) commit_kept_runs ((record { known = omega arith; alive = refl; free = refl }, record { there = refl; synced = omega arith; its = refl; in_told = refl; in_order = refl })),
  (commit_kept_runs, λ may. omega (arith, may.0.known)),
  (commit_dead_runs, search rules),
  (barred_runs, λ may. absurd (cc (may.0.free))),
  (open_saved_runs, λ may. absurd (cc (may.1.there))),
  (commit_in_runs, search rules),
  (commit_kept_runs, search rules),
  (commit_kept_runs, search rules),
  (rollback_kept_runs, search rules),
  (commit_cut_saved_runs, search rules),
)

pub rolled_back_examples : RolledBackExamples
rolled_back_examples = (
  run_more small start rollback_kept (RolledBack 0 6 0 4) rollback_kept_runs ((record { known = omega arith; alive = refl; free = refl }, record { there = refl; synced = omega arith; its = refl; in_told = refl; in_order = refl })),
  (rollback_kept_runs, λ may. omega (arith, may.0.known)),
  (rollback_dead_runs, search rules),
  (barred_runs, λ may. absurd (cc (may.0.free))),
  (open_saved_runs, λ may. absurd (cc (may.1.there))),
  (rollback_in_runs, search rules),
  (rollback_kept_runs, search rules),
  (rollback_kept_runs, search rules),
  (commit_kept_runs, search rules),
  (rollback_cut_saved_runs, search rules),
)

pub reached_examples : ReachedExamples
reached_examples = (
  run_more small start kept (Reached 0 6 0 3) kept_runs ((record { known = omega arith; alive = refl; free = refl }, record { there = refl; synced = omega arith; within = omega arith; in_told = refl; in_order = refl })),
  (met_runs, search rules),
  (met_dead_runs, search rules),
  (barred_runs, search rules),
  (open_saved_runs, search rules),
  (applied_runs, search rules),
  (met_cut_saved_runs, search rules),
  (kept_runs, λ may. absurd (cc (may.1.in_told))),
  (cut_saved_runs, search rules),
)
