use Rattle.data_rules.proofs.Answered.{first_is_answered as proof}
use Rattle.data_rules.proofs.laws.a_first_frame_is_answered.Goals as goal

pub returns : goal.returns
returns c = proof
