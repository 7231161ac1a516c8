use Rattle.trail_laws.proofs.LateUpdates.{no_late_update as proof}
use Rattle.trail_laws.proofs.laws.law_no_late.Goals as goal

pub returns : goal.returns
returns c = proof
