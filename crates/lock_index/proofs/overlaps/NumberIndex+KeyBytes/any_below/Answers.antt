use Rattle.std.proofs.Common.{◌≡◌, false, rules, sym, ◌∙◌, subst}
use Rattle.plain_orders.specs.PairMap.{is_under}
use Rattle.std.specs.List.{list_any}
use Rattle.lock_index.proofs.NameLemmas.{IsLeft, left_at_start, left_apart, left_next}
use Rattle.lock_index.proofs.overlaps.NumberIndex+KeyBytes.any_below.Goals as goal

pub loop-key-init : goal.loop-key-init
loop-key-init g c = rw (← c.self.view_is) (left_at_start c.args.name.now (g.T.NumberTest.passes c.args.test.now) _ _ c.range-key-items.ensures.ordered (c.into_iter-key-iterator.ensures.into_iter_gives ∙ c.range-key-items.ensures.between tt))

pub returns-then-not-starts_with : goal.returns-then-not-starts_with
returns-then-not-starts_with g c =
    let apart : is_under c.args.name.now c.in-Some.key.now ≡ false = search rules in
    sym (left_apart c.args.name.now (g.T.NumberTest.passes c.args.test.now) _ _ (c.in-Some.key.now, c.in-Some.numbers.now) (subst (IsLeft c.args.name.now (g.T.NumberTest.passes c.args.test.now) c.args.self.now) c.in-Some.ensures.steps c.loop-key.invariant) apart)

pub loop-key-preserved : goal.loop-key-preserved
loop-key-preserved g c =
    let none : list_any (g.T.NumberTest.passes c.args.test.now) c.in-Some.numbers.now ≡ false = search rules in
    left_next c.args.name.now (g.T.NumberTest.passes c.args.test.now) _ _ (c.in-Some.key.now, c.in-Some.numbers.now) (subst (IsLeft c.args.name.now (g.T.NumberTest.passes c.args.test.now) c.args.self.now) c.in-Some.ensures.steps c.loop-key.invariant) none
