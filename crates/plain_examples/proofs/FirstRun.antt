-- The trail of the worked first run.
use Rattle.std.proofs.Common.{refl, arith}
use Rattle.plain_runs.specs.Run.{IsRun}
use Rattle.plain_examples.proofs.Keys.{x_may}
use Rattle.plain_examples.specs.FirstRun.{first_layout, first_run}

pub first_run_is_run : IsRun first_layout first_run
first_run_is_run = (
  record { fresh = refl; ordered = tt; low = omega arith },
  (
    record { opened = refl; place = refl; alone = refl; up = refl },
    (
      record { opened = refl; no_less = omega arith; within = omega arith },
      (
        (refl, record { place = refl; synced = omega arith; entered = refl; not_lost = refl; fresh = refl; none = refl }),
        (
          (record { known = omega arith; alive = refl; free = refl }, record { there = refl; unbroken = refl; next = refl; its = record { key_may = x_may; within = omega arith } }),
          (
            record { is_live = refl; told = refl; next = refl; issued = refl },
            (
              record { opened = refl; no_less = omega arith; within = omega arith },
              ((record { known = omega arith; alive = refl; free = refl }, record { there = refl; no_less = omega arith; within = omega arith; answer = record { result = refl; by = refl; node = x_may } }), tt),
            ),
          ),
        ),
      ),
    ),
  ),
)
