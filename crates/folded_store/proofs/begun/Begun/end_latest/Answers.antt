use Rattle.std.proofs.Common.{◌≡◌, ◌∙◌, Some, None, ap, sym, slice_index_or}
use Rattle.std.specs.List.{position, remove}
use Rattle.plain_orders.specs.Fold.{Transaction}
use Rattle.folded_store.specs.Transactions.{is_of}
use Rattle.folded_store.proofs.BegunLemmas.{first_at, none_at, no_first, first_undo_at, without_first_at}
use Rattle.folded_store.proofs.begun.Begun.end_latest.Goals as goal

pub returns-in-None-clause-undo : goal.returns-in-None-clause-undo
returns-in-None-clause-undo c =
    let e : position (is_of c.args.session) c.args.self.now ≡ None = cc in
    sym (no_first c.args.session c.args.self.now (none_at (is_of c.args.session) c.args.self.now e)).0

pub returns-in-None-clause-rest : goal.returns-in-None-clause-rest
returns-in-None-clause-rest c =
    let e : position (is_of c.args.session) c.args.self.now ≡ None = cc in
    sym (no_first c.args.session c.args.self.now (none_at (is_of c.args.session) c.args.self.now e)).1

pub returns-in-Some-clause-undo : goal.returns-in-Some-clause-undo
returns-in-Some-clause-undo c =
    let ts = c.args.self.now in
    let e : position (is_of c.args.session) ts ≡ Some c.in-Some.place = cc in
    let got : c.remove.result ≡ slice_index_or ts c.in-Some.place c.remove.result = rw (← c.self.view_is) c.remove.ensures.value in
    ap Some (c.into_undo.ensures ∙ ap (λ (t : Transaction). t.undo) got)
    ∙ sym (first_undo_at c.args.session c.in-Some.place ts c.remove.result (first_at (is_of c.args.session) ts c.in-Some.place e))

pub returns-in-Some-clause-rest : goal.returns-in-Some-clause-rest
returns-in-Some-clause-rest c =
    let ts = c.args.self.now in
    let e : position (is_of c.args.session) ts ≡ Some c.in-Some.place = cc in
    let left : c.remove.new.self.items ≡ remove ts c.in-Some.place = rw (← c.self.view_is) c.remove.ensures.items in
    left ∙ sym (without_first_at c.args.session c.in-Some.place ts (first_at (is_of c.args.session) ts c.in-Some.place e))
