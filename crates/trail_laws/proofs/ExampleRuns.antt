-- The examples of the laws are runs.
use Rattle.std.proofs.Common.{[], ◌∷◌, ◌++◌, refl, arith, pos}
use Rattle.subscript_keys.specs.Key.{IsKey, key_of}
use Rattle.plain_orders.specs.declared.act.Act.TheVariants.{Enter, Told, Crash, Grant, Counted}
use Rattle.plain_orders.specs.declared.entry.Entry.TheVariants.{Update}
use Rattle.plain_orders.specs.declared.op.Op.TheVariants.{Set}
use Rattle.plain_orders.specs.declared.mode.Mode.TheVariants.{Exclusive}
use Rattle.plain_orders.specs.Ordered.{KeyMay}
use Rattle.plain_runs.specs.Plain.{start}
use Rattle.plain_runs.specs.Run.{IsRun, RunFrom, state_after}
use Rattle.plain_runs.proofs.RunLemmas.{run_joined}
use Rattle.trail_laws.specs.ExampleTrails.{added, adding, cut_off, cutting, handing_over, rolling_back, handed_over, rolled_back, session_met, taken_over, two_jobs, x_node}
use Rattle.trail_laws.specs.OrderLaw.{OrderExample}
use Rattle.trail_laws.specs.DurableLaw.{DurableExample}
use Rattle.trail_laws.specs.PrefixLaw.{PrefixExample}
use Rattle.trail_laws.specs.IncrementLaw.{IncrementExample}
use Rattle.trail_laws.specs.LockLaw.{LockExample}
use Rattle.trail_laws.specs.RollbackLaw.{RollbackExample}

x_key : IsKey x_node
unfolding key_of
x_key = (record { name = 120 ∷ []; subs = [] }, record { name = (refl, tt, omega arith); subs = tt }, refl)

x_may : KeyMay x_node
x_may = record { is_key = x_key; within = omega arith }

met_runs : IsRun two_jobs session_met
met_runs = (
  record { fresh = refl; ordered = tt; low = omega arith },
  (
    record { opened = refl; place = refl; alone = refl; up = refl },
    (record { opened = refl; no_less = omega arith; within = omega arith }, ((refl, record { place = refl; synced = omega arith; entered = refl; not_lost = refl; fresh = refl; none = refl }), tt)),
  ),
)

added_runs : IsRun two_jobs added
added_runs = run_joined two_jobs start session_met adding met_runs (
  (record { known = omega arith; alive = refl; free = refl }, record { there = refl; unbroken = refl; next = refl; its = record { key_may = x_may; is_alone = refl; within = omega arith } }),
  (
    (record { known = omega arith; alive = refl; free = refl }, record { there = refl; unbroken = refl; next = refl; its = record { key_may = x_may; is_alone = refl; within = omega arith } }),
    (
      record { is_live = refl; told = refl; next = refl; issued = refl },
      (record { is_live = refl; told = refl; next = refl; issued = refl }, (record { opened = refl; no_less = omega arith; within = omega arith }, tt)),
    ),
  ),
)

counted_runs : RunFrom two_jobs (state_after two_jobs added) (Counted 0 5 0 3 (pos 1) ∷ Counted 0 6 0 4 (pos 3) ∷ [])
counted_runs = (
  (record { known = omega arith; alive = refl; free = refl }, record { stands = record { there = refl; synced = omega arith; its = refl; in_told = refl; in_order = refl }; is_sum = refl }),
  ((record { known = omega arith; alive = refl; free = refl }, record { stands = record { there = refl; synced = omega arith; its = refl; in_told = refl; in_order = refl }; is_sum = refl }), tt),
)

pub increment_example : IncrementExample
increment_example = (run_joined two_jobs start added (Counted 0 5 0 3 (pos 1) ∷ Counted 0 6 0 4 (pos 3) ∷ []) added_runs counted_runs, λ e. omega (arith, e), refl, refl, λ k low high. absurd (omega (arith, low, high)))

pub durable_example : DurableExample
durable_example = (
  run_joined two_jobs start added (Counted 0 5 0 3 (pos 1) ∷ Crash 0 4 ∷ []) added_runs (counted_runs.0, (record { opened = refl; no_less = omega arith; within = omega arith; low = omega arith }, tt)),
  refl,
)

cut_off_runs : IsRun two_jobs cut_off
cut_off_runs = run_joined two_jobs start session_met cutting met_runs (
  (record { known = omega arith; alive = refl; free = refl }, record { there = refl; unbroken = refl; next = refl; its = record { key_may = x_may; within = omega arith } }),
  (
    record { is_live = refl; told = refl; next = refl; issued = refl },
    (
      (record { known = omega arith; alive = refl; free = refl }, record { there = refl; no_less = omega arith; within = omega arith; answer = record { result = refl; by = refl; node = x_may } }),
      (record { opened = refl; no_less = omega arith; within = omega arith; low = omega arith }, tt),
    ),
  ),
)

pub prefix_example : PrefixExample
prefix_example = (run_joined two_jobs start cut_off (Told 0 0 2 2 2 ∷ []) cut_off_runs ((refl, record { its = refl; later = omega arith; place = refl }), tt), omega arith)

handed_over_runs : IsRun two_jobs handed_over
handed_over_runs = run_joined two_jobs start session_met handing_over met_runs (
  record { is_live = refl; up = refl; here = refl; free = refl; node = x_may },
  (
    (record { known = omega arith; alive = refl; free = refl }, record { session = refl; sent = refl; synced = omega arith }),
    (
      (record { known = omega arith; alive = refl; free = refl }, record { there = refl; unbroken = refl; next = refl; its = record { key_may = x_may; within = omega arith } }),
      (
        (record { known = omega arith; alive = refl; free = refl }, record { session = refl; answered = refl }),
        (record { is_live = refl; told = refl; next = refl; issued = refl }, (record { given = refl; entered = refl }, tt)),
      ),
    ),
  ),
)

pub lock_example : LockExample
lock_example = (
  run_joined two_jobs start handed_over (Grant 0 2 1 Exclusive x_node 3 ∷ taken_over ++ Enter 0 (Update 2 2 0 0 (Set x_node (54 ∷ []))) ∷ []) handed_over_runs (
    record { is_live = refl; up = refl; here = refl; free = refl; node = x_may },
    (
      record { opened = refl; no_less = omega arith; within = omega arith },
      (
        (record { known = omega arith; alive = refl; free = refl }, record { session = refl; sent = refl; synced = omega arith }),
        (
          (record { known = omega arith; alive = refl; free = refl }, record { there = refl; unbroken = refl; next = refl; its = record { key_may = x_may; within = omega arith } }),
          (record { is_live = refl; told = refl; next = refl; issued = refl }, tt),
        ),
      ),
    ),
  ),
  refl,
  refl,
  refl,
  refl,
  refl,
)

rolled_back_runs : IsRun two_jobs rolled_back
rolled_back_runs = run_joined two_jobs start session_met rolling_back met_runs (
  (record { known = omega arith; alive = refl }, record { near = refl; ended = λ e d. absurd (cc (e)) }),
  (
    (record { known = omega arith; alive = refl; free = refl }, record { there = refl; unbroken = refl; next = refl; its = record { key_may = x_may; within = omega arith } }),
    (
      record { is_live = refl; told = refl; next = refl; issued = refl },
      (
        (record { known = omega arith; alive = refl; free = refl }, record { there = refl; unbroken = refl; next = refl; its = record { positive = omega arith; used = refl; unended = refl } }),
        (record { is_live = refl; told = refl; next = refl; issued = refl }, tt),
      ),
    ),
  ),
)

pub order_example : OrderExample
order_example = (rolled_back_runs, refl)

pub rollback_example : RollbackExample
rollback_example = (rolled_back_runs, refl, refl, refl, refl)
