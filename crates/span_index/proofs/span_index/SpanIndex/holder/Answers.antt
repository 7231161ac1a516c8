use Rattle.std.proofs.Common.{◌≡◌, ◌≤◌, ◌<◌, ◌+◌, ◌-◌, filter, length, get_or, Some, None, sym, ap, ◌∙◌, arith}
use Rattle.std.specs.List.{find}
use Rattle.span_index.specs.Ranges.{holds_it}
use Rattle.span_index.proofs.FoundLemmas.{holder-often, holder-near, holder-far, holder-none}
use Rattle.span_index.proofs.span_index.SpanIndex.holder.Goals as goal

pub returns-then-saturating_add-gt1 : goal.returns-then-saturating_add-gt1
returns-then-saturating_add-gt1 c =
    let range = rw c.as_slice.ensures.value at c.holding-near.ensures in
    let far : c.count_holding-far.result ≡ length (filter (holds_it c.args.key.now) c.self.inside.others.items) = rw c.as_slice-2.ensures.value at c.count_holding-far.ensures in
    let many : 1 < (c.holding-near.result.last - c.holding-near.result.first) + length (filter (holds_it c.args.key.now) c.self.inside.others.items) = omega (arith, far, c.saturating_add.ensures, c.if-saturating_add-gt1.true) in
    rw (← c.self.view_is) (holder-often c.args.key.now c.self.inside.ordered.items c.self.inside.others.items c.holding-near.result.first c.holding-near.result.last range many)

pub returns-then-near : goal.returns-then-near
returns-then-near c =
    let range = rw c.as_slice.ensures.value at c.holding-near.ensures in
    let far : c.count_holding-far.result ≡ length (filter (holds_it c.args.key.now) c.self.inside.others.items) = rw c.as_slice-2.ensures.value at c.count_holding-far.ensures in
    let few : (c.holding-near.result.last - c.holding-near.result.first) + length (filter (holds_it c.args.key.now) c.self.inside.others.items) ≤ 1 = omega (arith, far, c.saturating_add.ensures, c.if-saturating_add-gt1.false) in
    let at : c.inside.result.now ≡ get_or c.self.inside.ordered.items c.holding-near.result.first c.inside.result.now = rw c.inside.ensures c.index.ensures in
    rw (← c.self.view_is) (holder-near c.args.key.now c.self.inside.ordered.items c.self.inside.others.items c.holding-near.result.first c.holding-near.result.last range c.inside.result.now few c.if-near.true at)

pub returns-in-Some : goal.returns-in-Some
returns-in-Some c =
    let range = rw c.as_slice.ensures.value at c.holding-near.ensures in
    let far : c.count_holding-far.result ≡ length (filter (holds_it c.args.key.now) c.self.inside.others.items) = rw c.as_slice-2.ensures.value at c.count_holding-far.ensures in
    let few : (c.holding-near.result.last - c.holding-near.result.first) + length (filter (holds_it c.args.key.now) c.self.inside.others.items) ≤ 1 = omega (arith, far, c.saturating_add.ensures, c.if-saturating_add-gt1.false) in
    let some : find (holds_it c.args.key.now) c.self.inside.others.items ≡ Some c.inside-in-Some.result.now = sym (rw c.as_slice-3.ensures.value at c.in-Some.ensures) ∙ ap Some (sym c.inside-in-Some.ensures) in
    rw (← c.self.view_is) (holder-far c.args.key.now c.self.inside.ordered.items c.self.inside.others.items c.holding-near.result.first c.holding-near.result.last range c.inside-in-Some.result.now few c.if-near.false some)

pub returns-in-None : goal.returns-in-None
returns-in-None c =
    let range = rw c.as_slice.ensures.value at c.holding-near.ensures in
    let none : find (holds_it c.args.key.now) c.self.inside.others.items ≡ None = sym (rw c.as_slice-3.ensures.value at c.in-None.ensures) in
    rw (← c.self.view_is) (holder-none c.args.key.now c.self.inside.ordered.items c.self.inside.others.items c.holding-near.result.first c.holding-near.result.last range c.if-near.false none)
