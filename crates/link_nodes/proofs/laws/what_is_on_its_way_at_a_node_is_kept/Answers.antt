use Rattle.link_nodes.proofs.NodesNow.{nodes_are_kept}
use Rattle.link_nodes.proofs.laws.what_is_on_its_way_at_a_node_is_kept.Goals as goal

pub returns : goal.returns
returns c = nodes_are_kept
