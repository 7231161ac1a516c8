use Rattle.plain_runs.proofs.Ordered.{each_is_ordered as proof}
use Rattle.plain_runs.proofs.laws.each_order_is_ordered.Goals as goal

pub returns : goal.returns
returns c = proof
