use Rattle.std.proofs.Common.{◌≡◌, [], ◌∙◌, sym}
use Rattle.std.proofs.lemmas.List.{append-nil}
use Rattle.block_tree.proofs.SpanTests.{between_is_within, rising_from_sorted}
use Rattle.block_tree.proofs.copying.pairs_in.Goals as goal

pub returns-clause-pairs : goal.returns-clause-pairs
returns-clause-pairs c =
    let none : c.loop-key.key-iterator ≡ [] = c.in-None.ensures.steps.0 in
    let all = c.into_iter-key-iterator.ensures.into_iter_gives ∙ c.range-key-items.ensures.between tt ∙ between_is_within c.args.span.now.lo c.args.span.now.hi c.args.pairs.now.entries in
    let copied = rw (none, all) at c.loop-key.invariant in
    sym (append-nil c.loop-key.copied) ∙ copied

pub returns-clause-rises : goal.returns-clause-rises
returns-clause-rises c = rising_from_sorted _ c.range-key-items.ensures.ordered
