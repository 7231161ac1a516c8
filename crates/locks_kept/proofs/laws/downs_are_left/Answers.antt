use Rattle.locks_kept.proofs.DownsLeft.{other_moves_leave_downs}
use Rattle.locks_kept.proofs.laws.downs_are_left.Goals as goal

pub returns : goal.returns
returns c = other_moves_leave_downs
