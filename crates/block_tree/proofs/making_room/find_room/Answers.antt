use Rattle.std.proofs.Common.{◌≡◌, ◌+◌, drop, arith}
use Rattle.block_tree.specs.LeafWords.{first_bytes}
use Rattle.block_tree.proofs.LeafLemmas.{edges_rise}
use Rattle.block_tree.proofs.CutLemmas.{room_there}
use Rattle.block_tree.proofs.making_room.find_room.Goals as goal

pub place_of-at-requires-clause-rises : goal.place_of-at-requires-clause-rises
place_of-at-requires-clause-rises c = edges_rise _ _ c.requires.leaves

pub returns : goal.returns
returns c =
    let sum : c.in_ok-bytes.bytes ≡ first_bytes (drop c.place_of-at.result c.args.leaves.now) + c.args.needed = omega (arith, c.in_ok-bytes.ensures, c.bytes.ensures) in
    room_there c.args.pairs.now.entries c.args.key.now c.args.needed c.in_ok-bytes.bytes c.args.leaves.now c.place_of-at.result
    c.requires.leaves (c.place_of-at.ensures.place c.requires.below) sum c.if-bytes-gt-LEAF_ROOM.false
