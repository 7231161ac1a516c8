use Rattle.std.proofs.Common.{◌≡◌, ◌∙◌, Some, None, ap, sym, refl, rules, slice_index_or}
use Rattle.std.specs.List.{position, filter, remove}
use Rattle.std.proofs.lemmas.Fn.{filter_same}
use Rattle.plain_orders.specs.Fold.{Transaction, is_it, is_other}
use Rattle.folded_store.proofs.BegunLemmas.{first_at, none_at, filter_removed, not_open, undo_at}
use Rattle.folded_store.proofs.begun.Begun.end.Goals as goal

pub returns-in-None-clause-undo : goal.returns-in-None-clause-undo
returns-in-None-clause-undo c =
    let n = c.args.name in
    let e : position (is_it n.session n.job n.txn) c.args.self.now ≡ None = cc in
    c.new.ensures ∙ sym (not_open n.session n.job n.txn c.args.self.now (none_at (is_it n.session n.job n.txn) c.args.self.now e)).0

pub returns-in-None-clause-ended : goal.returns-in-None-clause-ended
returns-in-None-clause-ended c =
    let n = c.args.name in
    let e : position (is_it n.session n.job n.txn) c.args.self.now ≡ None = cc in
    sym (not_open n.session n.job n.txn c.args.self.now (none_at (is_it n.session n.job n.txn) c.args.self.now e)).1

pub returns-in-Some-clause-undo : goal.returns-in-Some-clause-undo
returns-in-Some-clause-undo c =
    let n = c.args.name in
    let ts = c.args.self.now in
    let e : position (is_it n.session n.job n.txn) ts ≡ Some c.in-Some.place = cc in
    let got : c.remove.result ≡ slice_index_or ts c.in-Some.place c.remove.result = rw (← c.self.view_is) c.remove.ensures.value in
    c.into_undo-undo.ensures ∙ ap (λ (t : Transaction). t.undo) got
    ∙ sym (undo_at n.session n.job n.txn c.in-Some.place ts c.remove.result (first_at (is_it n.session n.job n.txn) ts c.in-Some.place e))

pub returns-in-Some-clause-ended : goal.returns-in-Some-clause-ended
returns-in-Some-clause-ended c =
    let n = c.args.name in
    let ts = c.args.self.now in
    let e : position (is_it n.session n.job n.txn) ts ≡ Some c.in-Some.place = cc in
    let left : c.remove.new.self.items ≡ remove ts c.in-Some.place = rw (← c.self.view_is) c.remove.ensures.items in
    filter_same _ (is_other n.session n.job n.txn) _ (λ x b f t. search rules) _ _ c.retain.ensures.filtered
    ∙ ap (filter (is_other n.session n.job n.txn)) left
    ∙ filter_removed (is_it n.session n.job n.txn) (is_other n.session n.job n.txn) (λ x. refl) c.in-Some.place ts (first_at (is_it n.session n.job n.txn) ts c.in-Some.place e)
