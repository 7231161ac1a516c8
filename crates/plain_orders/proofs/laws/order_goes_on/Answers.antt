use Rattle.plain_orders.proofs.OrderLemmas.{ordered-push, ordered-last}
use Rattle.plain_orders.proofs.laws.order_goes_on.Goals as goal

pub returns : goal.returns
returns c = λ es e o. (λ may. ordered-push es e o may, λ more. ordered-last es e more)
