use Rattle.commands_kept.proofs.CommandsApps.{commands_kept_by_app}
use Rattle.commands_kept.proofs.CommandsJobs.{commands_kept_by_job}
use Rattle.commands_kept.proofs.CommandsShort.{commands_kept_by_begin, commands_kept_by_die, commands_kept_by_halt, commands_kept_by_look, commands_kept_by_server, commands_kept_by_tick}
use Rattle.commands_kept.proofs.laws.commands_are_kept.Goals as goal

pub returns-clause-steps : goal.returns-clause-steps
returns-clause-steps c = commands_kept_by_server

pub returns-clause-starts : goal.returns-clause-starts
returns-clause-starts c = commands_kept_by_begin

pub returns-clause-halts : goal.returns-clause-halts
returns-clause-halts c = commands_kept_by_halt

pub returns-clause-deaths : goal.returns-clause-deaths
returns-clause-deaths c = commands_kept_by_die

pub returns-clause-looks : goal.returns-clause-looks
returns-clause-looks c = commands_kept_by_look

pub returns-clause-ticks : goal.returns-clause-ticks
returns-clause-ticks c = commands_kept_by_tick

pub returns-clause-jobs : goal.returns-clause-jobs
returns-clause-jobs c = commands_kept_by_job

pub returns-clause-inputs : goal.returns-clause-inputs
returns-clause-inputs c = commands_kept_by_app
