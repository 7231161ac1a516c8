use Rattle.std.proofs.Common.{refl, sym, subst, rules, OnOk, Ok, Err, Result}
use Rattle.plain_programs.specs.Indexes.{IsIndexed, IsIndexedIf}
use Rattle.plain_programs.proofs.IndexLemmas.{index-update}
use Rattle.plain_programs.proofs.order_index.OrderIndex.take_update.Goals as goal

mapped : {T E P Q : Type 0} (r : Result T E) → (P → Q) → OnOk r P → OnOk r Q
mapped (Ok x) f p = f p
mapped (Err e) f p = p

pub returns-in-Some-clause-ok : goal.returns-in-Some-clause-ok
returns-in-Some-clause-ok c = mapped c.take_update.result (λ taken es t.
    let indexed : IsIndexed es c.args.session c.in-Some.live.now = subst (IsIndexedIf es c.args.session) (sym c.in-Some.ensures.value) (t.indexes.sessions c.args.session) in
    index-update es c.args.session c.args.w c.args.name.job c.args.name.txn c.args.op.now c.args.self.now _ c.take_update.new.self t.indexes refl refl
    ((c.get_mut.follows.holds c.take_update.new.self).3 (search rules)).0
    (taken es c.args.session indexed t.may_follow.is_next)) c.take_update.ensures.ok
