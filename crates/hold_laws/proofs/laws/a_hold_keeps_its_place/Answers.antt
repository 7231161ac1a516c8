use Rattle.hold_laws.proofs.LaterHolds.{holds_stay as proof}
use Rattle.hold_laws.proofs.laws.a_hold_keeps_its_place.Goals as goal

pub returns : goal.returns
returns c = proof
