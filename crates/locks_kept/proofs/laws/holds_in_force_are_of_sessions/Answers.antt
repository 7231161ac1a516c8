use Rattle.locks_kept.proofs.ForcedMoves.{moves_keep_forced}
use Rattle.locks_kept.proofs.laws.holds_in_force_are_of_sessions.Goals as goal

pub returns : goal.returns
returns c = moves_keep_forced
