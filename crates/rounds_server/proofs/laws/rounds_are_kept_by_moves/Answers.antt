use Rattle.rounds_server.proofs.RoundsMoves.{rounds_kept_by_moves}
use Rattle.rounds_server.proofs.laws.rounds_are_kept_by_moves.Goals as goal

pub returns : goal.returns
returns c = rounds_kept_by_moves
