use Rattle.std.proofs.Common.{◌≡◌, [], ◌∷◌, take}
use Rattle.plain_orders.specs.declared.act.Act.TheVariants.{Opened}
use Rattle.cluster_call.specs.Running.{IsAtRest}
use Rattle.cluster_call.proofs.FitLemmas.{IsRunTo}
use Rattle.cluster_call.proofs.line_run.run_script.Given as goal

abbrev pub invariant-loop-line : goal.invariant-loop-line
invariant-loop-line l =
    IsRunTo l.script.layout (Opened 0 [] ∷ []) (take l.line-index l.line-items) l.run.recorder.acts l.pieces.items × IsAtRest l.run × (l.run.recorder.layout ≡ l.script.layout)
