use Rattle.coherence_kept.proofs.BeginMoves.{coherence_kept_by_begin}
use Rattle.coherence_kept.proofs.CoherenceApps.{puts_kept_by_app}
use Rattle.coherence_kept.proofs.CoherenceJobs.{puts_kept_by_job}
use Rattle.coherence_kept.proofs.ShortMoves.{coherence_kept_by_tick, coherence_kept_by_look, coherence_kept_by_die, coherence_kept_by_halt}
use Rattle.coherence_kept.proofs.laws.what_was_put_stays_coherent.Goals as goal

pub returns-clause-ticks : goal.returns-clause-ticks
returns-clause-ticks c = coherence_kept_by_tick

pub returns-clause-looks : goal.returns-clause-looks
returns-clause-looks c = coherence_kept_by_look

pub returns-clause-deaths : goal.returns-clause-deaths
returns-clause-deaths c = coherence_kept_by_die

pub returns-clause-halts : goal.returns-clause-halts
returns-clause-halts c = coherence_kept_by_halt

pub returns-clause-starts : goal.returns-clause-starts
returns-clause-starts c = coherence_kept_by_begin

pub returns-clause-commands : goal.returns-clause-commands
returns-clause-commands c = puts_kept_by_job

pub returns-clause-inputs : goal.returns-clause-inputs
returns-clause-inputs c = puts_kept_by_app
