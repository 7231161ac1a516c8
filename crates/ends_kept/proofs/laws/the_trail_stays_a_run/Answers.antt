use Rattle.ends_kept.proofs.AppRuns.{run_kept_by_app}
use Rattle.ends_kept.proofs.RunMoves.{run_kept_by_begin, run_kept_by_halt, run_kept_by_die, run_kept_by_tick}
use Rattle.ends_kept.proofs.laws.the_trail_stays_a_run.Goals as goal

pub returns-clause-inputs : goal.returns-clause-inputs
returns-clause-inputs c = run_kept_by_app

pub returns-clause-starts : goal.returns-clause-starts
returns-clause-starts c = run_kept_by_begin

pub returns-clause-halts : goal.returns-clause-halts
returns-clause-halts c = run_kept_by_halt

pub returns-clause-deaths : goal.returns-clause-deaths
returns-clause-deaths c = run_kept_by_die

pub returns-clause-ticks : goal.returns-clause-ticks
returns-clause-ticks c = run_kept_by_tick
