use Rattle.subscript_keys.proofs.KeyOrders.{key-cmp}
use Rattle.subscript_keys.proofs.Ties.{one-node}
use Rattle.subscript_keys.proofs.Spans.{span-holds}
use Rattle.subscript_keys.proofs.key_order.keys_stand_for_nodes.Goals as goal

pub returns-clause-order : goal.returns-clause-order
returns-clause-order c = key-cmp

pub returns-clause-one : goal.returns-clause-one
returns-clause-one c = one-node

pub returns-clause-under : goal.returns-clause-under
returns-clause-under c = span-holds
