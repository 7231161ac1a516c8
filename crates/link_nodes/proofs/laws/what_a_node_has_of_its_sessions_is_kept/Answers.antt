use Rattle.link_nodes.proofs.ServedNow.{served_is_kept}
use Rattle.link_nodes.proofs.laws.what_a_node_has_of_its_sessions_is_kept.Goals as goal

pub returns : goal.returns
returns c = served_is_kept
