use Rattle.std.proofs.Common.{◌∙◌, ◌+◌, ap, arith}
use Rattle.block_tree.specs.LeafWords.{begin_of}
use Rattle.block_tree.proofs.LeafLemmas.{span_full, edges_rise, united_leaves, united_begins}
use Rattle.block_tree.proofs.tidying.unite.Goals as goal

pub measure-bytes-requires : goal.measure-bytes-requires
measure-bytes-requires c =
    rw (c.begin.ensures, c.end.ensures) (span_full c.args.leaves.now c.args.first (c.args.last + 1) (omega arith) (omega arith) (edges_rise _ _ c.requires.leaves))

pub returns-clause-leaves : goal.returns-clause-leaves
returns-clause-leaves c =
    let measured = rw (c.begin.ensures, c.end.ensures) at c.measure-bytes.ensures in
    rw c.unite.ensures
    (united_leaves c.args.pairs.now.entries c.args.leaves.now c.args.first (c.args.last + 1) c.measure-bytes.result (omega arith) (omega arith) c.requires.leaves (omega (arith, measured)) (omega arith))

pub returns-clause-begins : goal.returns-clause-begins
returns-clause-begins c = ap begin_of c.unite.ensures ∙ united_begins c.args.leaves.now c.args.first (c.args.last + 1) c.measure-bytes.result ∙ c.requires.begins
