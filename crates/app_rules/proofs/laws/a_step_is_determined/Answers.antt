use Rattle.app_rules.proofs.Alike.{steps_alike as proof}
use Rattle.app_rules.proofs.laws.a_step_is_determined.Goals as goal

pub returns : goal.returns
returns c = proof
