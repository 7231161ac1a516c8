use Rattle.std.proofs.Common.{◌≡◌, ◌∙◌, ◌++◌, List, ap, subst}
use Rattle.plain_orders.specs.declared.entry.Entry.{Entry}
use Rattle.plain_orders.specs.Ordered.{IsOrdered}
use Rattle.wire_tests.proofs.journals.save.Goals as goal

pub append-requires : goal.append-requires
append-requires c =
    let list = c.in-Ok.started.1 in
    let first = c.in_ok-goes_on.ensures.added c.if-not-branch.false in
    let same : c.goes_on.new.order ≡ list = first ∙ ap (λ (es : List Entry). es ++ c.as_slice.result.now) c.new-order.ensures ∙ c.as_slice.ensures in
    let ordered = c.in_ok-goes_on-2.ensures.ordered c.if-not-branch-2.false in
    (list, (c.in-Ok.ensures.settled, subst (λ (es : List Entry). IsOrdered (es ++ c.args.part.now)) same ordered))
