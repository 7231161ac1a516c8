use Rattle.std.proofs.Common.{sym, subst}
use Rattle.plain_orders.specs.Fold.{OldValue}
use Rattle.folded_store.specs.Limits.{MapFits, ValueFits, UndoFits}
use Rattle.folded_store.specs.declared.undo_item.UndoItem.{UndoItem}
use Rattle.folded_store.specs.Undos.{undo_of}
use Rattle.folded_store.proofs.FitLemmas.{by_result, undone_holds}
use Rattle.folded_store.proofs.undoing.undo_item.Goals as goal

pub returns-in-OldValue-clause-fits : goal.returns-in-OldValue-clause-fits
returns-in-OldValue-clause-fits g c =
    let m = (g.P.PairTable.pairs c.args.pairs.now) in
    let fits : ValueFits c.in-OldValue.key c.in-OldValue.value = subst (λ (i : UndoItem). UndoFits (undo_of i)) c.in-OldValue.is c.requires.item in
    by_result c.put_value_back.result c.put_value_back.ensures.ok c.put_value_back.ensures.err
    (λ e. subst MapFits (sym e) (undone_holds m (OldValue c.in-OldValue.key c.in-OldValue.value) fits c.requires.pairs))
    (λ e. subst MapFits (sym e) c.requires.pairs)
