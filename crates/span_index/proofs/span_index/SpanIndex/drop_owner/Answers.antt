use Rattle.std.proofs.Common.{rules, ap, ◌∙◌}
use Rattle.std.proofs.lemmas.Fn.{filter_same}
use Rattle.span_index.specs.SpanWords.{is_of_other, without_owner}
use Rattle.span_index.proofs.NumberLemmas.{numbered_passes, IsIndex-filter, owned_in-filter}
use Rattle.span_index.proofs.span_index.SpanIndex.drop_owner.Goals as goal

pub invariant_of-self : goal.invariant_of-self
invariant_of-self c =
    let t = numbered_passes (is_of_other c.args.owner) in
    let near = filter_same _ t _ (λ x b f k. search rules) _ _ c.retain.ensures.filtered in
    let far = filter_same _ t _ (λ x b f k. search rules) _ _ c.retain-2.ensures.filtered in
    rw (near, far) (IsIndex-filter c.self.inside.next t _ _ c.self.invariant)

pub returns : goal.returns
returns c =
    let t = numbered_passes (is_of_other c.args.owner) in
    let near = filter_same _ t _ (λ x b f k. search rules) _ _ c.retain.ensures.filtered in
    let far = filter_same _ t _ (λ x b f k. search rules) _ _ c.retain-2.ensures.filtered in
    rw (near, far) (owned_in-filter (is_of_other c.args.owner) _ _ ∙ ap (without_owner c.args.owner) c.self.view_is)
