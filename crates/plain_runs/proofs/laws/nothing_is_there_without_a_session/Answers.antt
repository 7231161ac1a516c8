use Rattle.plain_runs.proofs.NoSession.{none_without_session as proof}
use Rattle.plain_runs.proofs.laws.nothing_is_there_without_a_session.Goals as goal

pub returns : goal.returns
returns c = proof
