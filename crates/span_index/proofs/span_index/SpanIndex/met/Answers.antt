use Rattle.std.proofs.Common.{◌≡◌, Some, None, get_or, sym, ap, ◌∙◌}
use Rattle.std.specs.List.{find}
use Rattle.span_index.specs.Ranges.{meets_it}
use Rattle.span_index.proofs.LookLemmas.{met-near, met-far, met-none}
use Rattle.span_index.proofs.span_index.SpanIndex.met.Goals as goal

pub returns-then-near-clause-some : goal.returns-then-near-clause-some
returns-then-near-clause-some c =
    let range = rw c.as_slice.ensures.value at c.meeting-near.ensures in
    let at : c.inside.result.now ≡ get_or c.self.inside.ordered.items c.meeting-near.result.first c.inside.result.now = rw c.inside.ensures c.index.ensures in
    rw (← c.self.view_is) (met-near c.args.span.now c.self.inside.ordered.items c.self.inside.others.items c.meeting-near.result.first c.meeting-near.result.last range c.inside.result.now c.if-near.true at)

pub returns-in_err-place-clause-none : goal.returns-in_err-place-clause-none
returns-in_err-place-clause-none c =
    let range = rw c.as_slice.ensures.value at c.meeting-near.ensures in
    let none : find (meets_it c.args.span.now) c.self.inside.others.items ≡ None = sym (rw c.as_slice-2.ensures.value at c.in_err-place.ensures) in
    rw (c.from_residual.ensures, ← c.self.view_is) (met-none c.args.span.now c.self.inside.ordered.items c.self.inside.others.items c.meeting-near.result.first c.meeting-near.result.last range c.if-near.false none)

pub returns-clause-some : goal.returns-clause-some
returns-clause-some c =
    let some : find (meets_it c.args.span.now) c.self.inside.others.items ≡ Some c.inside-2.result.now = sym (rw (c.as_slice-2.ensures.value) at c.in_ok-place.ensures) ∙ ap Some (sym c.inside-2.ensures) in
    rw (← c.self.view_is) (met-far c.args.span.now c.self.inside.ordered.items c.self.inside.others.items c.inside-2.result.now some)
