use Rattle.plain_orders.proofs.FoldLemmas.{sum_at-last}
use Rattle.plain_orders.proofs.laws.last_sum.Goals as goal

pub returns : goal.returns
returns c = sum_at-last
