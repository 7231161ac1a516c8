use Rattle.ecp_frames.proofs.ReadLemmas.{same_as_whole}
use Rattle.ecp_frames.proofs.any_cut.same_for_any_cut.Goals as goal

pub returns : goal.returns
returns c = same_as_whole
