use Rattle.std.proofs.Common.{arith}
use Rattle.block_tree.proofs.RunLemmas.{holds_full, pairs_back, run_has_block, run_size}
use Rattle.plain_orders.specs.PairMap.{within}
use Rattle.block_tree.proofs.flat_pairs.FlatPairsPairTable.run_for.Goals as goal

pub pairs_in-requires : goal.pairs_in-requires
pairs_in-requires c = holds_full c.in_ok-span.span c.args.key.now c.in_ok-span.ensures.holds

pub returns-clause-covers : goal.returns-clause-covers
returns-clause-covers c = c.in_ok-span.ensures.holds

pub returns-clause-pairs : goal.returns-clause-pairs
returns-clause-pairs c = rw (c.in_ok-pairs.ensures.pairs, ← c.self.view_is) (pairs_back (within c.self.inside.pairs.entries c.in_ok-span.span))

pub returns-clause-block : goal.returns-clause-block
returns-clause-block c =
    rw c.in_ok-pairs.ensures.pairs
    (run_has_block c.in_ok-span.span c.self.inside.pairs.entries (holds_full c.in_ok-span.span c.args.key.now c.in_ok-span.ensures.holds) c.in_ok-pairs.ensures.rises)

pub returns-clause-fits : goal.returns-clause-fits
returns-clause-fits c =
    let fits = rw (← c.self.view_is) at c.in_ok-span.ensures.fits in
    rw c.in_ok-pairs.ensures.pairs (omega (arith, fits, run_size c.in_ok-span.span (within c.self.inside.pairs.entries c.in_ok-span.span)))

pub returns-clause-whole : goal.returns-clause-whole
returns-clause-whole c = c.in_ok-span.ensures.whole
