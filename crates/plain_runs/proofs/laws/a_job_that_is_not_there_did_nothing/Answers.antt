use Rattle.plain_runs.proofs.DeedLaws.{strangers_did_nothing}
use Rattle.plain_runs.proofs.Strangers.{strangers_are_told_nothing}
use Rattle.plain_runs.proofs.laws.a_job_that_is_not_there_did_nothing.Goals as goal

pub returns : goal.returns
returns c = record { did = strangers_did_nothing; told = strangers_are_told_nothing }
