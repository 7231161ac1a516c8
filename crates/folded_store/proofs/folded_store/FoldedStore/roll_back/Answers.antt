use Rattle.std.proofs.Common.{◌≡◌, ◌≢◌, ◌∙◌, [], true, sym, subst, rules}
use Rattle.plain_orders.specs.Fold.{undo_in, is_begun, is_other}
use Rattle.folded_store.specs.Limits.{UndosFit, BegunFits}
use Rattle.folded_store.proofs.BegunLemmas.{open_if_some}
use Rattle.folded_store.proofs.FitLemmas.{undo_in_fits, kept}
use Rattle.folded_store.proofs.folded_store.FoldedStore.roll_back.Goals as goal

pub undo_all-requires-clause-undo : goal.undo_all-requires-clause-undo
undo_all-requires-clause-undo g c =
    let n = c.args.name in
    subst UndosFit (sym c.end-undo.ensures.undo) (undo_in_fits n.session n.job n.txn c.self.inside.begun c.self.invariant.begun)

pub invariant_of-self : goal.invariant_of-self
invariant_of-self g c =
    let n = c.args.name in
    record {
      pairs = c.undo_all.ensures.fits;
      begun = subst BegunFits (sym c.end-undo.ensures.ended) (kept _ (is_other n.session n.job n.txn) c.self.inside.begun c.self.invariant.begun);
    }

pub invariant_of-self-2 : goal.invariant_of-self-2
invariant_of-self-2 g c =
    let n = c.args.name in
    record {
      pairs = c.undo_all.ensures.fits;
      begun = subst BegunFits (sym c.end-undo.ensures.ended) (kept _ (is_other n.session n.job n.txn) c.self.inside.begun c.self.invariant.begun);
    }

pub returns-in_err-undo_all-clause-some : goal.returns-in_err-undo_all-clause-some
returns-in_err-undo_all-clause-some g c =
    let n = c.args.name in
    let some : undo_in n.session n.job n.txn c.self.inside.begun ≢ [] = λ none. c.in_err-undo_all.ensures.some (c.end-undo.ensures.undo ∙ none) in
    let begun : is_begun n.session n.job n.txn c.self.inside.begun ≡ true = open_if_some n.session n.job n.txn c.self.inside.begun some in
    search rules
