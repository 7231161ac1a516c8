use Rattle.dials_frames.proofs.FramesDials.{dials_kept_by_inputs}
use Rattle.dials_frames.proofs.laws.inputs_keep_the_connections.Goals as goal

pub returns : goal.returns
returns c = record { inputs = dials_kept_by_inputs }
