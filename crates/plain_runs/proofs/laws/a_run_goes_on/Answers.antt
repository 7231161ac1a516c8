use Rattle.plain_runs.proofs.Frame.{extended as proof}
use Rattle.plain_runs.proofs.laws.a_run_goes_on.Goals as goal

pub returns : goal.returns
returns c = proof
