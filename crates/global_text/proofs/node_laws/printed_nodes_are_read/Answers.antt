use Rattle.global_text.proofs.NodeParts.{key-length}
use Rattle.global_text.proofs.NodeSpellings.{printed-node}
use Rattle.global_text.proofs.node_laws.printed_nodes_are_read.Goals as goal

pub returns : goal.returns
returns c = λ node rest is forms bytes within n. printed-node node rest is forms bytes (key-length node within) n
