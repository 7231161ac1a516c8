use Rattle.plain_runs.proofs.OrderLaws.{items_in_order as proof}
use Rattle.plain_runs.proofs.laws.items_stand_in_order.Goals as goal

pub returns : goal.returns
returns c = proof
