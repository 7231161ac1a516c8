use Rattle.std.proofs.Common.{◌≡◌, [], take, drop}
use Rattle.cluster_call.specs.Built.{unbuilt_declaration}
use Rattle.cluster_call.proofs.built.unbuilt_declaration.Given as goal

abbrev pub invariant-loop-place : goal.invariant-loop-place
invariant-loop-place l = unbuilt_declaration (take l.place l.lines) (drop l.place l.lines) ≡ unbuilt_declaration [] l.lines
