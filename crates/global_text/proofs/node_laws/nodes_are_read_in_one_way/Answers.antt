use Rattle.global_text.proofs.NodeLaws.{one-node, node-no-fault}
use Rattle.global_text.proofs.NodeSpellings.{node-spelling}
use Rattle.global_text.proofs.OneFault.{one-node-fault}
use Rattle.global_text.proofs.node_laws.nodes_are_read_in_one_way.Goals as goal

pub returns-clause-one : goal.returns-clause-one
returns-clause-one c = one-node

pub returns-clause-spelled : goal.returns-clause-spelled
returns-clause-spelled c = node-spelling

pub returns-clause-read : goal.returns-clause-read
returns-clause-read c = node-no-fault

pub returns-clause-refused : goal.returns-clause-refused
returns-clause-refused c = one-node-fault
