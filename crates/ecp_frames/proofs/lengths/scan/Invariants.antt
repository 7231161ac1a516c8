use Rattle.std.proofs.Common.{◌≡◌, ◌-◌, ℕ, List, ◌++◌, length, drop}
use Rattle.ecp_frames.specs.Stream.{fault_in}
use Rattle.ecp_frames.proofs.lengths.scan.Given as goal

abbrev pub invariant-loop-at : goal.invariant-loop-at
invariant-loop-at l = (more : List ℕ) → fault_in (drop l.from (l.bytes ++ more)) ≡ fault_in (drop l.at (l.bytes ++ more))

abbrev pub decreases-loop-at : goal.decreases-loop-at
decreases-loop-at l = length l.bytes - l.at
