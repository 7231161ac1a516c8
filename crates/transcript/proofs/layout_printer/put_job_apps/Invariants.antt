use Rattle.std.proofs.Common.{◌≡◌, ◌++◌, drop}
use Rattle.transcript.specs.Parts.{fields}
use Rattle.transcript.proofs.layout_printer.put_job_apps.Given as goal

abbrev pub invariant-loop-app : goal.invariant-loop-app
invariant-loop-app l = l.to ++ fields (drop l.app-index l.job_apps) ≡ l.initial.to ++ fields l.job_apps
