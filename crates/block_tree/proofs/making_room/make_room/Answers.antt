use Rattle.block_tree.proofs.LeafLemmas.{edges_rise}
use Rattle.block_tree.proofs.making_room.make_room.Goals as goal

pub place_of-at-requires-clause-rises : goal.place_of-at-requires-clause-rises
place_of-at-requires-clause-rises c = edges_rise _ _ c.requires.leaves
