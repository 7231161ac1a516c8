-- The example is a run.
use Rattle.std.proofs.Common.{List, [], ◌∷◌, ◌++◌, refl, arith}
use Rattle.subscript_keys.specs.Key.{IsKey, key_of}
use Rattle.plain_orders.specs.declared.act.Act.{Act}
use Rattle.plain_orders.specs.declared.act.Act.TheVariants.{Enter, Grant}
use Rattle.plain_orders.specs.declared.entry.Entry.TheVariants.{Update}
use Rattle.plain_orders.specs.declared.mode.Mode.TheVariants.{Exclusive}
use Rattle.plain_orders.specs.declared.op.Op.TheVariants.{Set}
use Rattle.plain_orders.specs.Ordered.{KeyMay}
use Rattle.plain_runs.specs.Plain.{start}
use Rattle.plain_runs.specs.Run.{IsRun, RunFrom, state_after}
use Rattle.plain_runs.proofs.RunLemmas.{run_joined, run_parts}
use Rattle.trail_laws.specs.ExampleTrails.{handed_over, taken_over, two_jobs, x_node}
use Rattle.trail_laws.proofs.ExampleRuns.{lock_example}
use Rattle.hold_laws.specs.HoldExamples.{HoldExample, asked, asking, releasing}

x_key : IsKey x_node
unfolding key_of
x_key = (record { name = 120 ∷ []; subs = [] }, record { name = (refl, tt, omega arith); subs = tt }, refl)

x_may : KeyMay x_node
x_may = record { is_key = x_key; within = omega arith }

handed_runs : IsRun two_jobs handed_over
handed_runs = (run_parts two_jobs start handed_over later lock_example.0).0
  where
    later : List Act
    later = Grant 0 2 1 Exclusive x_node 3 ∷ taken_over ++ Enter 0 (Update 2 2 0 0 (Set x_node (54 ∷ []))) ∷ []

asked_runs : IsRun two_jobs asked
asked_runs = run_joined two_jobs start handed_over asking handed_runs (
  record { is_live = refl; up = refl; here = refl; free = refl; node = x_may },
  (
    record { opened = refl; no_less = omega arith; within = omega arith },
    (
      (record { known = omega arith; alive = refl; free = refl }, record { session = refl; sent = refl; synced = omega arith }),
      (
        record { is_live = refl; up = refl; here = refl; free = refl; node = x_may },
        ((record { known = omega arith; alive = refl; free = refl }, record { session = refl; node = x_may }), tt),
      ),
    ),
  ),
)

releasing_runs : RunFrom two_jobs (state_after two_jobs asked) releasing
releasing_runs = (record { is_live = refl }, (record { opened = refl; no_less = omega arith; within = omega arith }, (record { closed = refl }, tt)))

pub hold_example : HoldExample
hold_example = (asked_runs, refl, refl, refl, refl, refl, run_joined two_jobs start asked releasing asked_runs releasing_runs, refl)
