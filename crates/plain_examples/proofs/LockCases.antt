-- Examples of acts that are accepted, and of acts that are refused since one condition fails: the condition is named above each.
use Rattle.std.proofs.Common.{[], ◌∷◌, refl, arith, rules}
use Rattle.plain_orders.specs.declared.act.Act.TheVariants.{Release, Grant, Granted, GiveUp, Quit, Free}
use Rattle.plain_orders.specs.declared.mode.Mode.TheVariants.{Exclusive, Shared}
use Rattle.plain_runs.specs.Plain.{start}
use Rattle.plain_examples.specs.Leads.{small, met, closed_saved}
use Rattle.plain_examples.proofs.LeadRuns.{open_saved_runs, met_runs, server_crashed_runs, closed_runs, closed_saved_runs, met_dead_runs}
use Rattle.plain_examples.specs.LockLeads.{lock_granted, answered, given, quitted, both_held, both_shared, granted_released, answered_released, given_issued}
use Rattle.plain_examples.proofs.LockLeadRuns.{lock_granted_runs, answered_runs, given_runs, quitted_runs, issued_quit_runs, both_held_runs, both_shared_runs, both_below_runs, stranger_granted_runs, granted_quit_runs, granted_dead_runs, answered_dead_runs, granted_released_runs, answered_released_runs, answered_again_runs, given_released_runs, issued_given_runs, given_issued_runs}
use Rattle.plain_examples.proofs.JobLeadRuns.{barred_runs, barred_granted_runs}
use Rattle.plain_runs.proofs.RunLemmas.{run_more}
use Rattle.plain_examples.proofs.Keys.{x_may, y_may, x_key, no_empty_key, below_x_is_key, long_key_is_key}
use Rattle.plain_examples.specs.LockExamples.{ReleaseExamples, GrantExamples, GrantedExamples, GiveUpExamples, QuitExamples, FreeExamples}

pub release_examples : ReleaseExamples
release_examples = (
  run_more small start closed_saved (Release 0 2) closed_saved_runs (record { closed = refl }),
  (closed_runs, search rules),
  (met_runs, search rules),
)

pub grant_examples : GrantExamples
grant_examples = (
  run_more small start met (Grant 0 2 0 Exclusive (120 ∷ 0 ∷ []) 2) met_runs (record { is_live = refl; up = refl; here = refl; free = refl; node = x_may }),
  (met_runs, search (rules, x_key)),
  (server_crashed_runs, search (rules, x_key)),
  (met_runs, search (rules, x_key)),
  (both_held_runs, search (rules, x_key)),
  (both_held_runs, search (rules, x_key)),
  (both_shared_runs, search (rules, x_key)),
  (both_held_runs, search (rules, below_x_is_key)),
  (both_below_runs, search (rules, x_key)),
  (both_held_runs, search (rules, x_key)),
  run_more small start both_held (Grant 0 2 0 Exclusive (120 ∷ 0 ∷ []) 3) both_held_runs (record { is_live = refl; up = refl; here = refl; free = refl; node = x_may }),
  run_more small start both_shared (Grant 0 3 1 Shared (120 ∷ 0 ∷ []) 3) both_shared_runs (record { is_live = refl; up = refl; here = refl; free = refl; node = x_may }),
  run_more small start both_held (Grant 0 3 1 Exclusive (121 ∷ 0 ∷ []) 3) both_held_runs (record { is_live = refl; up = refl; here = refl; free = refl; node = y_may }),
  run_more small start quitted (Grant 0 2 0 Exclusive (120 ∷ 0 ∷ []) 2) quitted_runs (record { is_live = refl; up = refl; here = refl; free = refl; node = x_may }),
  (met_runs, (refl, (refl, (refl, (refl, (no_empty_key, (omega arith, tt))))))),
  (met_runs, (refl, (refl, (refl, (refl, (long_key_is_key, ((λ e. omega (arith, e)), tt))))))),
)

pub granted_examples : GrantedExamples
granted_examples = (
  run_more small start lock_granted (Granted 0 5 0 2) lock_granted_runs ((record { known = omega arith; alive = refl; free = refl }, record { session = refl; sent = refl; synced = omega arith })),
  run_more small start granted_released (Granted 0 5 0 2) granted_released_runs ((record { known = omega arith; alive = refl; free = refl }, record { session = refl; sent = refl; synced = omega arith })),
  (stranger_granted_runs, search rules),
  (granted_dead_runs, search rules),
  (barred_granted_runs, search rules),
  (open_saved_runs, λ may. absurd (cc (may.1.session))),
  (met_runs, search rules),
  (lock_granted_runs, search rules),
  (lock_granted_runs, search rules),
  (answered_runs, search rules),
  (granted_quit_runs, search rules),
  (both_held_runs, search rules),
)

pub give_up_examples : GiveUpExamples
give_up_examples = (
  run_more small start answered (GiveUp 0 6 0 Exclusive (120 ∷ 0 ∷ [])) answered_runs ((record { known = omega arith; alive = refl; free = refl }, record { session = refl; answered = refl })),
  run_more small start answered_released (GiveUp 0 6 0 Exclusive (120 ∷ 0 ∷ [])) answered_released_runs ((record { known = omega arith; alive = refl; free = refl }, record { session = refl; answered = refl })),
  (answered_runs, λ may. omega (arith, may.0.known)),
  (answered_dead_runs, search rules),
  (barred_runs, λ may. absurd (cc (may.0.free))),
  (open_saved_runs, λ may. absurd (cc (may.1.session))),
  (lock_granted_runs, search rules),
  (answered_runs, search rules),
  (answered_runs, search rules),
  (answered_runs, search rules),
  (answered_again_runs, search rules),
  (given_runs, search rules),
)

pub quit_examples : QuitExamples
quit_examples = (
  run_more small start met (Quit 0 5 0 Exclusive (120 ∷ 0 ∷ [])) met_runs ((record { known = omega arith; alive = refl; free = refl }, record { session = refl; node = x_may })),
  run_more small start lock_granted (Quit 0 5 0 Exclusive (120 ∷ 0 ∷ [])) lock_granted_runs ((record { known = omega arith; alive = refl; free = refl }, record { session = refl; node = x_may })),
  (met_runs, search (rules, x_key)),
  (met_dead_runs, search (rules, x_key)),
  (barred_runs, search (rules, x_key)),
  (open_saved_runs, search (rules, x_key)),
  (met_runs, (omega arith, (refl, (refl, (refl, (no_empty_key, (omega arith, tt))))))),
  (met_runs, (omega arith, (refl, (refl, (refl, (long_key_is_key, ((λ e. omega (arith, e)), tt))))))),
)

pub free_examples : FreeExamples
free_examples = (
  run_more small start given (Free 0 2 0 Exclusive (120 ∷ 0 ∷ [])) given_runs (record { given = refl; entered = refl }),
  run_more small start quitted (Free 0 2 0 Exclusive (120 ∷ 0 ∷ [])) quitted_runs (record { given = refl; entered = refl }),
  run_more small start given_issued (Free 0 2 0 Exclusive (120 ∷ 0 ∷ [])) given_issued_runs (record { given = refl; entered = refl }),
  (answered_runs, search rules),
  (given_runs, search rules),
  (given_runs, search rules),
  (given_runs, search rules),
  (given_runs, search rules),
  (quitted_runs, search rules),
  (quitted_runs, search rules),
  (quitted_runs, search rules),
  (quitted_runs, search rules),
  (given_released_runs, search rules),
  (issued_quit_runs, search rules),
  (issued_given_runs, search rules),
)
