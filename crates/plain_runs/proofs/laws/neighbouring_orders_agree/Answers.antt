use Rattle.plain_runs.proofs.OrderLaws.{neighbours_agree as proof}
use Rattle.plain_runs.proofs.laws.neighbouring_orders_agree.Goals as goal

pub returns : goal.returns
returns c = proof
