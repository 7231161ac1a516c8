use Rattle.std.proofs.Common.{take}
use Rattle.global_text.specs.Printed.{Appends}
use Rattle.cluster_call.specs.OutputText.{AreTrailLines}
use Rattle.cluster_call.proofs.output_text.print_acts.Given as goal

abbrev pub invariant-loop-act : goal.invariant-loop-act
invariant-loop-act l = Appends (AreTrailLines (take l.act-index l.acts)) l.initial.to.items l.to.items
