use Rattle.std.proofs.Common.{sym, subst}
use Rattle.plain_orders.specs.Fold.{is_other}
use Rattle.folded_store.specs.Limits.{BegunFits}
use Rattle.folded_store.proofs.FitLemmas.{kept}
use Rattle.folded_store.proofs.folded_store.FoldedStore.apply.Goals as goal

pub invariant_of-self : goal.invariant_of-self
invariant_of-self g c =
    let n = c.named-in-Commit.result in
    record {
      pairs = c.self.invariant.pairs;
      begun = subst BegunFits (sym c.end.ensures.ended) (kept _ (is_other n.session n.job n.txn) c.self.inside.begun c.self.invariant.begun);
    }
