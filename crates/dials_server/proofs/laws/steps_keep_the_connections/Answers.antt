use Rattle.dials_server.proofs.AcceptedDials.{dials_kept_by_accept}
use Rattle.dials_server.proofs.EndedDials.{dials_kept_by_ending}
use Rattle.dials_server.proofs.FrameKept.{dials_kept_by_frame}
use Rattle.dials_server.proofs.SaveDials.{dials_kept_by_save}
use Rattle.dials_server.proofs.TickDials.{dials_kept_by_server_tick}
use Rattle.dials_server.proofs.laws.steps_keep_the_connections.Goals as goal

pub returns-clause-accepts : goal.returns-clause-accepts
returns-clause-accepts c = dials_kept_by_accept

pub returns-clause-endings : goal.returns-clause-endings
returns-clause-endings c = dials_kept_by_ending

pub returns-clause-ticks : goal.returns-clause-ticks
returns-clause-ticks c = dials_kept_by_server_tick

pub returns-clause-saves : goal.returns-clause-saves
returns-clause-saves c = dials_kept_by_save

pub returns-clause-frames : goal.returns-clause-frames
returns-clause-frames c = dials_kept_by_frame
