use Rattle.told_kept.proofs.ToldMoves.{told_is_kept}
use Rattle.told_kept.proofs.laws.what_ends_were_told_is_kept.Goals as goal

pub returns : goal.returns
returns c = told_is_kept
