use Rattle.app_rules.proofs.Few.{few_ends_stay as proof}
use Rattle.app_rules.proofs.laws.ends_stay_few.Goals as goal

pub returns : goal.returns
returns c = proof
