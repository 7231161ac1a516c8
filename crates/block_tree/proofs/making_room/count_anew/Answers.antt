use Rattle.std.proofs.Common.{◌∙◌, ap}
use Rattle.block_tree.specs.LeafWords.{begin_of}
use Rattle.block_tree.proofs.LeafLemmas.{leaf_full, counts_anew, united_begins, united_length}
use Rattle.block_tree.proofs.making_room.count_anew.Goals as goal

pub measure-bytes-requires : goal.measure-bytes-requires
measure-bytes-requires c = rw (c.begin.ensures, c.end.ensures) (leaf_full c.args.pairs.now.entries c.args.leaves.now c.args.at c.requires.at c.requires.leaves)

pub returns-clause-leaves : goal.returns-clause-leaves
returns-clause-leaves c =
    let measured = rw (c.begin.ensures, c.end.ensures) at c.measure-bytes.ensures in
    rw c.set_bytes.ensures (counts_anew c.args.pairs.now.entries c.args.leaves.now c.args.at c.measure-bytes.result c.requires.at c.requires.leaves measured)

pub returns-clause-begins : goal.returns-clause-begins
returns-clause-begins c = ap begin_of c.set_bytes.ensures ∙ united_begins c.args.leaves.now c.args.at _ c.measure-bytes.result

pub returns-clause-len : goal.returns-clause-len
returns-clause-len c = rw c.set_bytes.ensures (united_length c.args.leaves.now c.args.at c.measure-bytes.result c.requires.at)
