use Rattle.trail_laws.proofs.NoTrace.{leaves_no_trace as proof}
use Rattle.trail_laws.proofs.laws.law_rollback.Goals as goal

pub returns : goal.returns
returns c = proof
