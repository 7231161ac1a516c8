use Rattle.app_rules.proofs.Waits.{waits_for_the_first as proof}
use Rattle.app_rules.proofs.laws.a_command_waits_for_the_first_reason.Goals as goal

pub returns : goal.returns
returns c = proof
