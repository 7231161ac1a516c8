use Rattle.app_rules.proofs.Total.{step_is_there as proof}
use Rattle.app_rules.proofs.laws.a_step_is_there.Goals as goal

pub returns : goal.returns
returns c = proof
