use Rattle.std.proofs.Common.{◌≡◌, ◌++◌, [], map, length}
use Rattle.plain_orders.specs.Fold.{all_undone}
use Rattle.plain_orders.specs.Spans.{undo_span}
use Rattle.folded_store.specs.Limits.{MapFits, UndosFit}
use Rattle.folded_store.proofs.undoing.undo_all.Given as goal

-- what is put back, and what is still to be put back
abbrev pub invariant-loop-item : goal.invariant-loop-item
invariant-loop-item g l = record {
  fits : MapFits (g.P.PairTable.pairs l.pairs);
  left : UndosFit l.undo;
  same : all_undone (g.P.PairTable.pairs l.pairs) l.undo ≡ all_undone (g.P.PairTable.pairs l.initial.pairs) l.initial.undo;
  none : l.initial.undo ≡ [] → l.undo ≡ [];
  told : l.spans ++ map undo_span l.undo ≡ l.initial.spans ++ map undo_span l.initial.undo;
}

abbrev pub decreases-loop-item : goal.decreases-loop-item
decreases-loop-item g l = length l.undo
