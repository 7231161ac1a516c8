use Rattle.data_rules.proofs.Determined.{step_is_determined as proof}
use Rattle.data_rules.proofs.laws.a_step_is_determined.Goals as goal

pub returns : goal.returns
returns c = proof
