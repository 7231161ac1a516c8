use Rattle.data_ends_kept.proofs.NodeEndsAll.{node_ends_are_kept}
use Rattle.data_ends_kept.proofs.laws.the_data_ends_are_kept.Goals as goal

pub returns : goal.returns
returns c = node_ends_are_kept
