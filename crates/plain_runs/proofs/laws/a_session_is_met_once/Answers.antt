use Rattle.plain_runs.proofs.MetLaws.{met_once as proof}
use Rattle.plain_runs.proofs.laws.a_session_is_met_once.Goals as goal

pub returns : goal.returns
returns c = proof
