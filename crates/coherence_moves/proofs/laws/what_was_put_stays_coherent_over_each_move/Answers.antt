use Rattle.coherence_moves.proofs.CoherenceMoves.{puts_kept_by_moves}
use Rattle.coherence_moves.proofs.laws.what_was_put_stays_coherent_over_each_move.Goals as goal

pub returns : goal.returns
returns c = puts_kept_by_moves
