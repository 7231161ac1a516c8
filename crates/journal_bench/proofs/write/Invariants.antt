use Rattle.std.proofs.Common.{◌≤◌}
use Rattle.journal_bench.specs.Written.{IsReady}
use Rattle.journal_bench.proofs.write.Given as goal

abbrev pub invariant-loop-round : goal.invariant-loop-round
invariant-loop-round g l = IsReady (g.D.Disk.told l.disk) (g.D.Disk.may_leave l.disk) l.journal l.done × (l.done ≤ l.count)
