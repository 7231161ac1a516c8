use Rattle.frames_taken.proofs.Strays.{taken_is}
use Rattle.frames_taken.proofs.laws.no_frame_is_stray.Goals as goal

pub returns : goal.returns
returns c = taken_is
