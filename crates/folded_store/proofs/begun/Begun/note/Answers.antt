use Rattle.std.proofs.Common.{◌≡◌, Some, None}
use Rattle.std.specs.List.{position}
use Rattle.std.proofs.lemmas.Result.{on_ok_weaker}
use Rattle.plain_orders.specs.Fold.{is_it}
use Rattle.folded_store.specs.Undos.{undo_of}
use Rattle.folded_store.proofs.BegunLemmas.{noted_at, noted_new}
use Rattle.folded_store.proofs.begun.Begun.note.Goals as goal

pub returns-in-Some-clause-ok : goal.returns-in-Some-clause-ok
returns-in-Some-clause-ok c =
    let n = c.args.name in
    let e : position (is_it n.session n.job n.txn) c.args.self.now ≡ Some c.in-Some.place = cc in
    on_ok_weaker c.push.result
    (noted_at n.session n.job n.txn (undo_of c.args.item) c.self.inside.items.items c.args.self.now c.self.view_is c.requires c.in-Some.place c.index_mut.result.now c.push.new.self e c.index_mut.ensures.value)
    c.push.ensures.ok

pub returns-in-None-clause-ok : goal.returns-in-None-clause-ok
returns-in-None-clause-ok c =
    let n = c.args.name in
    let e : position (is_it n.session n.job n.txn) c.args.self.now ≡ None = cc in
    on_ok_weaker c.begin.result
    (noted_new n.session n.job n.txn (undo_of c.args.item) c.self.inside.items.items c.args.self.now c.self.view_is c.requires c.begin.new.self e)
    c.begin.ensures.ok
