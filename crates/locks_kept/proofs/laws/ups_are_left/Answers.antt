use Rattle.locks_kept.proofs.UpsLeft.{moves_beside_leave_ups}
use Rattle.locks_kept.proofs.laws.ups_are_left.Goals as goal

pub returns : goal.returns
returns c = moves_beside_leave_ups
