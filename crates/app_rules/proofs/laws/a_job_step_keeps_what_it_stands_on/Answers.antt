use Rattle.app_rules.proofs.JobKept.{job_steps_keep as proof}
use Rattle.app_rules.proofs.laws.a_job_step_keeps_what_it_stands_on.Goals as goal

pub returns : goal.returns
returns c = proof
