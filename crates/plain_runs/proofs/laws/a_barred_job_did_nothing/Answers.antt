use Rattle.plain_runs.proofs.DeedLaws.{barred_did_nothing as proof}
use Rattle.plain_runs.proofs.laws.a_barred_job_did_nothing.Goals as goal

pub returns : goal.returns
returns c = proof
