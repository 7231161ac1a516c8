use Rattle.rounds_kept.proofs.RoundMoves.{rounds_kept_by_tick, rounds_kept_by_look, rounds_kept_by_die, rounds_kept_by_halt, rounds_kept_by_begin}
use Rattle.rounds_kept.proofs.laws.rounds_are_kept.Goals as goal

pub returns-clause-ticks : goal.returns-clause-ticks
returns-clause-ticks c = rounds_kept_by_tick

pub returns-clause-looks : goal.returns-clause-looks
returns-clause-looks c = rounds_kept_by_look

pub returns-clause-deaths : goal.returns-clause-deaths
returns-clause-deaths c = rounds_kept_by_die

pub returns-clause-halts : goal.returns-clause-halts
returns-clause-halts c = rounds_kept_by_halt

pub returns-clause-starts : goal.returns-clause-starts
returns-clause-starts c = rounds_kept_by_begin
