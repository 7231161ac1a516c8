use Rattle.std.proofs.Common.{arith}
use Rattle.transcript.specs.PieceText.{CanPrintPiece}
use Rattle.cluster_call.proofs.PrintLemmas.{pieces_more, all_at}
use Rattle.cluster_call.proofs.output_text.print_pieces.Goals as goal

pub print_piece-requires : goal.print_piece-requires
print_piece-requires c = all_at CanPrintPiece c.args.pieces.now c.loop-piece.piece-index c.piece-item.result c.requires (omega arith) c.piece-item.is

pub loop-piece-preserved : goal.loop-piece-preserved
loop-piece-preserved c =
    pieces_more c.args.names.now c.args.pieces.now c.loop-piece.piece-index c.piece-item.result c.args.to.now.items c.loop-piece.to.items c.print_piece.new.to.items (omega arith) c.piece-item.is c.loop-piece.invariant c.in_ok-print_piece.ensures.ok
