use Rattle.std.proofs.Common.{◌≡◌, drop}
use Rattle.cluster_call.specs.Built.{unbuilt_todo}
use Rattle.cluster_call.proofs.built.unbuilt_todo.Given as goal

abbrev pub invariant-loop-line : goal.invariant-loop-line
invariant-loop-line l = unbuilt_todo (drop l.line-index l.lines) ≡ unbuilt_todo l.lines
