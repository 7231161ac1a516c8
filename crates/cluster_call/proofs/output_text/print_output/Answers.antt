use Rattle.std.proofs.Common.{List, ℕ, subst}
use Rattle.global_text.specs.Printed.{Appends}
use Rattle.cluster_call.specs.OutputText.{IsTranscript}
use Rattle.cluster_call.proofs.PrintLemmas.{output_puts}
use Rattle.cluster_call.proofs.output_text.print_output.Goals as goal

pub returns : goal.returns
returns c =
    output_puts c.args.script.now c.args.output.now c.as_slice.result.now c.as_slice-2.result.now c.print_pieces.new.to.items c.extend_from_slice.new.self.items c.print_layout.new.to.items c.print_acts.new.to.items c.as_slice.ensures.value c.as_slice-2.ensures
    (subst (λ (t : List ℕ). Appends (IsTranscript c.args.script.now.names c.as_slice.result.now) t c.print_pieces.new.to.items) c.new-to.ensures.items c.in_ok-print_pieces.ensures)
    c.in_ok-extend_from_slice.ensures.items c.in_ok-print_layout.ensures.ok c.in_ok-print_acts.ensures
