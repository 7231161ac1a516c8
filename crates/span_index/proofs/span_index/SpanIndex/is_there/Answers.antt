use Rattle.std.proofs.Common.{◌≡◌, true, false, ◌-◌, take, drop, ap, ◌∙◌}
use Rattle.std.specs.List.{list_any}
use Rattle.span_index.specs.SpanWords.{is_owned_at, owned_of}
use Rattle.span_index.proofs.LookLemmas.{there-near, there-far}
use Rattle.span_index.proofs.span_index.SpanIndex.is_there.Goals as goal

pub returns-then-is_among : goal.returns-then-is_among
returns-then-is_among c =
    let range = rw c.as_slice.ensures.value at c.meeting-near.ensures in
    let near : true ≡ list_any (λ x. is_owned_at c.args.owner c.args.span.now (owned_of x)) (take (c.meeting-near.result.last - c.meeting-near.result.first) (drop c.meeting-near.result.first c.self.inside.ordered.items)) = rw c.as_slice-2.ensures.value at c.if-is_among.ensures in
    there-near c.args.owner c.args.span.now c.self.inside.ordered.items c.self.inside.others.items c.meeting-near.result.first c.meeting-near.result.last c.self.invariant.full range near ∙ ap (list_any (is_owned_at c.args.owner c.args.span.now)) c.self.view_is

pub returns : goal.returns
returns c =
    let range = rw c.as_slice.ensures.value at c.meeting-near.ensures in
    let near : false ≡ list_any (λ x. is_owned_at c.args.owner c.args.span.now (owned_of x)) (take (c.meeting-near.result.last - c.meeting-near.result.first) (drop c.meeting-near.result.first c.self.inside.ordered.items)) = rw c.as_slice-2.ensures.value at c.if-is_among.ensures in
    let far : c.is_among-2.result ≡ list_any (λ x. is_owned_at c.args.owner c.args.span.now (owned_of x)) c.self.inside.others.items = rw c.as_slice-3.ensures.value at c.is_among-2.ensures in
    there-far c.args.owner c.args.span.now c.self.inside.ordered.items c.self.inside.others.items c.meeting-near.result.first c.meeting-near.result.last c.self.invariant.full range c.is_among-2.result near far ∙ ap (list_any (is_owned_at c.args.owner c.args.span.now)) c.self.view_is
