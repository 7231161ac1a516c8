use Rattle.plain_runs.proofs.ConditionLaws.{only_adds_sum as proof}
use Rattle.plain_runs.proofs.laws.only_increments_have_sums.Goals as goal

pub returns : goal.returns
returns c = proof
