use Rattle.trail_laws.proofs.Increments.{increments_differ as proof}
use Rattle.trail_laws.proofs.laws.law_increments.Goals as goal

pub returns : goal.returns
returns c = proof
