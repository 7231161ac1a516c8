use Rattle.block_tree.proofs.LeafLemmas.{edges_rise}
use Rattle.block_tree.proofs.CutLemmas.{room_alone}
use Rattle.block_tree.proofs.making_room.own_leaf.Goals as goal

pub place_of-at-requires-clause-rises : goal.place_of-at-requires-clause-rises
place_of-at-requires-clause-rises c = edges_rise _ _ c.requires.leaves

pub returns-in_err-at-clause-leaves : goal.returns-in_err-at-clause-leaves
returns-in_err-at-clause-leaves c = c.begin_leaf.ensures.leaves _ c.requires.leaves

pub returns-in_err-end_leaf-clause-leaves : goal.returns-in_err-end_leaf-clause-leaves
returns-in_err-end_leaf-clause-leaves c = c.end_leaf.ensures.leaves _ (c.begin_leaf.ensures.leaves _ c.requires.leaves)

pub returns-clause-leaves : goal.returns-clause-leaves
returns-clause-leaves c = c.end_leaf.ensures.leaves _ (c.begin_leaf.ensures.leaves _ c.requires.leaves)

pub returns-clause-room : goal.returns-clause-room
returns-clause-room c =
    room_alone c.args.pairs.now.entries c.args.key.now c.args.needed c.end_leaf.new.leaves c.in_ok-at.at
    c.in_ok-end_leaf.ensures.place c.in_ok-end_leaf.ensures.alone c.requires.small
