use Rattle.cluster_invariant.proofs.OrdersStay.{orders_agree, stays_synced, front_stays}
use Rattle.cluster_invariant.proofs.laws.what_stays_of_an_order_stands.Goals as goal

pub returns-clause-orders : goal.returns-clause-orders
returns-clause-orders c = orders_agree

pub returns-clause-synced : goal.returns-clause-synced
returns-clause-synced c = stays_synced

pub returns-clause-front : goal.returns-clause-front
returns-clause-front c = front_stays
