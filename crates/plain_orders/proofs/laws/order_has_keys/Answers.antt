use Rattle.plain_orders.proofs.OrderKeys.{ordered_keys}
use Rattle.plain_orders.proofs.laws.order_has_keys.Goals as goal

pub returns : goal.returns
returns c = ordered_keys
