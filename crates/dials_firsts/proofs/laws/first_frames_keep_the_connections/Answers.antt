use Rattle.dials_firsts.proofs.FirstFrames.{dials_kept_by_first}
use Rattle.dials_firsts.proofs.laws.first_frames_keep_the_connections.Goals as goal

pub returns : goal.returns
returns c = dials_kept_by_first
