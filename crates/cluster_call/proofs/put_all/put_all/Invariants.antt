use Rattle.std.proofs.Common.{◌≤◌, ◌-◌, take, length}
use Rattle.std.specs.Io.KnownBytes.{Appends}
use Rattle.cluster_call.proofs.put_all.put_all.Given as goal

abbrev pub invariant-loop-done : goal.invariant-loop-done
invariant-loop-done g l = (l.done ≤ length l.bytes) × Appends (g.K.Sink.held l.initial.out) (g.K.Sink.held l.out) (take l.done l.bytes) × (g.K.Sink.faults l.initial.out ≤ g.K.Sink.faults l.out) × (g.K.Sink.refusals l.initial.out ≤ g.K.Sink.refusals l.out)

abbrev pub decreases-loop-done : goal.decreases-loop-done
decreases-loop-done g l = length l.bytes - l.done
