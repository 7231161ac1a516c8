use Rattle.std.proofs.Common.{sym, ap}
use Rattle.span_index.proofs.NumberLemmas.{insert-owned, insert-index, push-owned, push-index}
use Rattle.span_index.proofs.span_index.put_place.Goals as goal

pub returns-in_ok-insert-in-Some-clause-ok : goal.returns-in_ok-insert-in-Some-clause-ok
returns-in_ok-insert-in-Some-clause-ok c =
    rw c.in_ok-insert-in-Some.ensures.items (insert-owned c.args.place c.args.ordered.now.items c.args.others.now.items c.in-Some.at c.requires)

pub returns-in_ok-insert-in-Some-clause-index : goal.returns-in_ok-insert-in-Some-clause-index
returns-in_ok-insert-in-Some-clause-index c =
    rw c.in_ok-insert-in-Some.ensures.items (insert-index c.args.place c.args.ordered.now.items c.args.others.now.items c.in-Some.at c.requires (rw c.inside.ensures at c.in-Some.ensures.full) (rw c.as_slice.ensures.value at c.in-Some.ensures.rises c.args.place (ap (λ n. n.span) (sym c.inside.ensures))))

pub returns-in_ok-push-in-None-clause-ok : goal.returns-in_ok-push-in-None-clause-ok
returns-in_ok-push-in-None-clause-ok c =
    rw c.in_ok-push-in-None.ensures.items (push-owned c.args.place c.args.ordered.now.items c.args.others.now.items c.requires)

pub returns-in_ok-push-in-None-clause-index : goal.returns-in_ok-push-in-None-clause-index
returns-in_ok-push-in-None-clause-index c =
    rw c.in_ok-push-in-None.ensures.items (push-index c.args.place c.args.ordered.now.items c.args.others.now.items c.requires)
