use Rattle.std.proofs.Common.{◌≤◌, length, drop}
use Rattle.outer_disk.specs.Crash.{HasNoSync}
use Rattle.outer_disk.proofs.image.synced_calls.Given as goal

abbrev pub invariant-loop-count : goal.invariant-loop-count
invariant-loop-count l = (l.count ≤ length l.calls) × HasNoSync (drop l.count l.calls)

abbrev pub decreases-loop-count : goal.decreases-loop-count
decreases-loop-count l = l.count
