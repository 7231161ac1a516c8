use Rattle.std.proofs.Common.{refl, sym, subst, rules}
use Rattle.plain_programs.specs.Indexes.{IsIndexed, IsIndexedIf}
use Rattle.plain_programs.proofs.IndexLemmas.{index-commit, index-rollback}
use Rattle.plain_programs.proofs.order_index.OrderIndex.take_end.Goals as goal

pub returns-in-Some-clause-commit : goal.returns-in-Some-clause-commit
returns-in-Some-clause-commit c = λ es t.
    let indexed : IsIndexed es c.args.session c.in-Some.live.now = subst (IsIndexedIf es c.args.session) (sym c.in-Some.ensures.value) (t.indexes.sessions c.args.session) in
    index-commit es c.args.session c.args.w c.args.name.job c.args.name.txn c.args.self.now _ c.take_end.new.self t.indexes refl refl
    ((c.get_mut.follows.holds c.take_end.new.self).3 (search rules)).0
    (c.take_end.ensures.commit es c.args.session indexed t.may_follow.is_next)

pub returns-in-Some-clause-rollback : goal.returns-in-Some-clause-rollback
returns-in-Some-clause-rollback c = λ es t.
    let indexed : IsIndexed es c.args.session c.in-Some.live.now = subst (IsIndexedIf es c.args.session) (sym c.in-Some.ensures.value) (t.indexes.sessions c.args.session) in
    index-rollback es c.args.session c.args.w c.args.name.job c.args.name.txn c.args.self.now _ c.take_end.new.self t.indexes refl refl
    ((c.get_mut.follows.holds c.take_end.new.self).3 (search rules)).0
    (c.take_end.ensures.rollback es c.args.session indexed t.may_follow.is_next)
