use Rattle.dials_kept.proofs.BeginDials.{dials_kept_by_begin}
use Rattle.dials_kept.proofs.BrokenDials.{dials_kept_by_broken}
use Rattle.dials_kept.proofs.ConnectedDials.{dials_kept_by_connected}
use Rattle.dials_kept.proofs.InputDials.{dials_kept_by_app_tick, dials_kept_by_join, dials_kept_by_no_way}
use Rattle.dials_kept.proofs.JobDials.{dials_kept_by_job}
use Rattle.dials_kept.proofs.ShortDials.{dials_kept_by_die, dials_kept_by_halt, dials_kept_by_look, dials_kept_by_tick}
use Rattle.dials_kept.proofs.laws.the_connections_are_kept.Goals as goal

pub returns-clause-ticks : goal.returns-clause-ticks
returns-clause-ticks c = dials_kept_by_tick

pub returns-clause-looks : goal.returns-clause-looks
returns-clause-looks c = dials_kept_by_look

pub returns-clause-deaths : goal.returns-clause-deaths
returns-clause-deaths c = dials_kept_by_die

pub returns-clause-halts : goal.returns-clause-halts
returns-clause-halts c = dials_kept_by_halt

pub returns-clause-starts : goal.returns-clause-starts
returns-clause-starts c = dials_kept_by_begin

pub returns-clause-commands : goal.returns-clause-commands
returns-clause-commands c = dials_kept_by_job

pub returns-clause-failures : goal.returns-clause-failures
returns-clause-failures c = dials_kept_by_no_way

pub returns-clause-breaks : goal.returns-clause-breaks
returns-clause-breaks c = dials_kept_by_broken

pub returns-clause-joins : goal.returns-clause-joins
returns-clause-joins c = dials_kept_by_join

pub returns-clause-app_ticks : goal.returns-clause-app_ticks
returns-clause-app_ticks c = dials_kept_by_app_tick

pub returns-clause-connects : goal.returns-clause-connects
returns-clause-connects c = dials_kept_by_connected
