use Rattle.ends_kept.proofs.OrdersKept.{orders_are_kept}
use Rattle.ends_kept.proofs.laws.the_orders_are_kept.Goals as goal

pub returns : goal.returns
returns c = orders_are_kept
