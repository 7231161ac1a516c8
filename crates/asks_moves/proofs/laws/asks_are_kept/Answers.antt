use Rattle.asks_moves.proofs.AsksJobs.{asks_kept_by_job}
use Rattle.asks_moves.proofs.AsksApps.{asks_kept_by_app}
use Rattle.asks_moves.proofs.AsksServer.{asks_kept_by_server}
use Rattle.asks_moves.proofs.AsksShort.{asks_kept_by_begin, asks_kept_by_die, asks_kept_by_halt, asks_kept_by_look, asks_kept_by_tick}
use Rattle.asks_moves.proofs.laws.asks_are_kept.Goals as goal

pub returns-clause-steps : goal.returns-clause-steps
returns-clause-steps c = asks_kept_by_server

pub returns-clause-starts : goal.returns-clause-starts
returns-clause-starts c = asks_kept_by_begin

pub returns-clause-halts : goal.returns-clause-halts
returns-clause-halts c = asks_kept_by_halt

pub returns-clause-deaths : goal.returns-clause-deaths
returns-clause-deaths c = asks_kept_by_die

pub returns-clause-looks : goal.returns-clause-looks
returns-clause-looks c = asks_kept_by_look

pub returns-clause-ticks : goal.returns-clause-ticks
returns-clause-ticks c = asks_kept_by_tick

pub returns-clause-inputs : goal.returns-clause-inputs
returns-clause-inputs c = asks_kept_by_app

pub returns-clause-jobs : goal.returns-clause-jobs
returns-clause-jobs c = asks_kept_by_job
