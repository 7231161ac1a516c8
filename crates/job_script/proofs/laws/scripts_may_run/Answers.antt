use Rattle.job_script.proofs.ScriptLimits.{script_may}
use Rattle.job_script.proofs.laws.scripts_may_run.Goals as goal

pub returns : goal.returns
returns c = script_may
