use Rattle.std.proofs.Common.{◌≡◌, drop}
use Rattle.job_script.specs.Names.{server_of}
use Rattle.job_script.proofs.declared.Declared.server_of.Given as goal

abbrev pub invariant-loop-global : goal.invariant-loop-global
invariant-loop-global l = server_of (drop l.global-index l.global-items) l.name ≡ server_of l.self.globals l.name
