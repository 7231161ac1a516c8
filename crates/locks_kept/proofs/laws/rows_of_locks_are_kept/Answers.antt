use Rattle.locks_kept.proofs.RowMoves.{moves_keep_rows}
use Rattle.locks_kept.proofs.laws.rows_of_locks_are_kept.Goals as goal

pub returns : goal.returns
returns c = moves_keep_rows
