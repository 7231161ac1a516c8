use Rattle.std.proofs.Common.{◌≡◌, [], ◌∙◌, arith}
use Rattle.block_tree.proofs.SpanTests.{between_is_within}
use Rattle.block_tree.proofs.sizes.measure.Goals as goal

pub returns : goal.returns
returns c =
    let none : c.loop-key.key-iterator ≡ [] = c.in-None.ensures.steps.0 in
    let all = c.into_iter-key-iterator.ensures.into_iter_gives ∙ c.range-key-items.ensures.between tt ∙ between_is_within c.args.lo.now c.args.hi.now c.args.pairs.now.entries in
    let counted = rw (none, all) at c.loop-key.invariant.counted in
    omega (arith, counted, c.loop-key.invariant.fits)
