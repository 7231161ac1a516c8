use Rattle.locks_kept.proofs.GrantMoves.{moves_keep_grants}
use Rattle.locks_kept.proofs.laws.grants_that_wait_are_kept.Goals as goal

pub returns : goal.returns
returns c = moves_keep_grants
