use Rattle.std.proofs.Common.{◌≡◌, ◌++◌, filter, length, None}
use Rattle.plain_orders.specs.Fold.{session_undone, is_elsewhere}
use Rattle.plain_orders.specs.Spans.{session_spans}
use Rattle.folded_store.specs.Limits.{FoldedFits}
use Rattle.folded_store.specs.Transactions.{first_undo}
use Rattle.folded_store.proofs.folded_store.FoldedStore.close.Given as goal

-- what is undone, and what is still to be undone
abbrev pub invariant-loop-undo : goal.invariant-loop-undo
invariant-loop-undo g l = record {
  fits : FoldedFits (record { pairs = (g.P.PairTable.pairs l.self-inside.pairs); begun = l.self-inside.begun });
  pairs : session_undone l.session l.self-inside.begun (g.P.PairTable.pairs l.self-inside.pairs) ≡ session_undone l.session l.initial.self-inside.begun (g.P.PairTable.pairs l.initial.self-inside.pairs);
  told : l.spans ++ session_spans l.session l.self-inside.begun ≡ session_spans l.session l.initial.self-inside.begun;
  none : first_undo l.session l.initial.self-inside.begun ≡ None → l.self-inside.begun ≡ l.initial.self-inside.begun;
  begun : filter (is_elsewhere l.session) l.self-inside.begun ≡ filter (is_elsewhere l.session) l.initial.self-inside.begun;
}

abbrev pub decreases-loop-undo : goal.decreases-loop-undo
decreases-loop-undo g l = length l.self-inside.begun
