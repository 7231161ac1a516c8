use Rattle.hold_laws.proofs.LeftHolds.{others_leave_holds}
use Rattle.hold_laws.proofs.OtherHolds.{others_stay}
use Rattle.hold_laws.proofs.laws.other_acts_leave_holds.Goals as goal

pub returns : goal.returns
returns c = record { acts = others_leave_holds; holds = others_stay }
