use Rattle.app_rules.proofs.StepLaws.{steps_at_one_end as proof}
use Rattle.app_rules.proofs.laws.a_step_changes_one_end.Goals as goal

pub returns : goal.returns
returns c = proof
