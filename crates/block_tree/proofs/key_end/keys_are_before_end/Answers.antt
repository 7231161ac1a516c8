use Rattle.block_tree.proofs.EndLemmas.{key_below}
use Rattle.block_tree.proofs.key_end.keys_are_before_end.Goals as goal

pub returns : goal.returns
returns c = key_below
