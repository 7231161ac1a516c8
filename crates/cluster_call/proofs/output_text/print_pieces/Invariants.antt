use Rattle.std.proofs.Common.{take}
use Rattle.global_text.specs.Printed.{Appends}
use Rattle.cluster_call.specs.OutputText.{IsTranscript}
use Rattle.cluster_call.proofs.output_text.print_pieces.Given as goal

abbrev pub invariant-loop-piece : goal.invariant-loop-piece
invariant-loop-piece l = Appends (IsTranscript l.names (take l.piece-index l.pieces)) l.initial.to.items l.to.items
