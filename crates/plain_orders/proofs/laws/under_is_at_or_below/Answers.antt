use Rattle.plain_orders.proofs.NodeKeys.{under_is}
use Rattle.plain_orders.proofs.laws.under_is_at_or_below.Goals as goal

pub returns : goal.returns
returns c = under_is
