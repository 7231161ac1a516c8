use Rattle.job_script.proofs.ScriptLaws.{one-script, script-taken, one-error}
use Rattle.job_script.proofs.laws.scripts_are_read_in_one_way.Goals as goal

pub returns-clause-one : goal.returns-clause-one
returns-clause-one c = one-script

pub returns-clause-read : goal.returns-clause-read
returns-clause-read c = script-taken

pub returns-clause-refused : goal.returns-clause-refused
returns-clause-refused c = one-error
