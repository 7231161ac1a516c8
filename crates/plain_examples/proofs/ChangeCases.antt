-- Examples of what an act changes.
use Rattle.std.proofs.Common.{Some, [], ◌∷◌, refl, arith}
use Rattle.plain_orders.specs.declared.act.Act.TheVariants.{Read, Grant, Granted, Refused as RefusedAct}
use Rattle.plain_orders.specs.declared.mode.Mode.TheVariants.{Exclusive}
use Rattle.plain_orders.specs.declared.via.Via.TheVariants.{Own}
use Rattle.plain_orders.specs.declared.question.Question.TheVariants.{Get}
use Rattle.plain_orders.specs.declared.refused.Refused.TheVariants.{Network}
use Rattle.plain_orders.specs.declared.refused.ReasonName.TheVariants.{NoWay}
use Rattle.plain_orders.specs.declared.refused.LinkName.TheVariants.{NotConnected}
use Rattle.plain_runs.specs.Plain.{start}
use Rattle.plain_examples.specs.Leads.{small}
use Rattle.plain_examples.specs.ChangeLeads.{released, freed, granted_told, no_way_met, seen_told}
use Rattle.plain_examples.proofs.ChangeLeadRuns.{held_saved_runs, released_runs, held_given_runs, freed_runs, granted_told_runs, granted_back_runs, no_way_met_runs, no_way_issued_runs, seen_cut_runs, seen_told_runs}
use Rattle.plain_runs.proofs.RunLemmas.{run_more}
use Rattle.plain_examples.proofs.Keys.{x_may}
use Rattle.plain_examples.specs.ChangeExamples.{RoomExamples, UnclaimedExamples, NewsExamples, SeenExamples}

pub room_examples : RoomExamples
room_examples = (
  (held_saved_runs, λ may. absurd (cc (may.free))),
  run_more small start released (Grant 0 3 1 Exclusive (120 ∷ 0 ∷ []) 4) released_runs (record { is_live = refl; up = refl; here = refl; free = refl; node = x_may }),
  (held_given_runs, λ may. absurd (cc (may.free))),
  run_more small start freed (Grant 0 3 1 Exclusive (120 ∷ 0 ∷ []) 3) freed_runs (record { is_live = refl; up = refl; here = refl; free = refl; node = x_may }),
)

pub unclaimed_examples : UnclaimedExamples
unclaimed_examples = (
  run_more small start granted_told (Granted 0 5 0 2) granted_told_runs ((record { known = omega arith; alive = refl; free = refl }, record { session = refl; sent = refl; synced = omega arith })),
  (granted_back_runs, λ may. absurd (cc (may.1.sent))),
)

pub news_examples : NewsExamples
news_examples = (
  run_more small start no_way_met (RefusedAct 0 6 (Network 0 NotConnected NoWay)) no_way_met_runs ((record { known = omega arith; alive = refl }, record { news = refl; bar = refl; its_state = refl })),
  (no_way_issued_runs, λ may. absurd (cc (may.1.news))),
)

pub seen_examples : SeenExamples
seen_examples = (
  (seen_cut_runs, λ may. omega (arith, may.1.no_less)),
  run_more small start seen_told (Read 0 7 0 2 Own (Get (120 ∷ 0 ∷ []) (Some (53 ∷ [])))) seen_told_runs ((record { known = omega arith; alive = refl; free = refl }, record { there = refl; no_less = omega arith; within = omega arith; answer = record { result = refl; by = refl; node = x_may } })),
)
