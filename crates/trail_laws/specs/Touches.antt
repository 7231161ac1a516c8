-- Which nodes an entry touches, by what it does or undoes.
use Rattle.std.specs.Prelude.{ℕ, zero, suc, Bool, false, ◌==◌, ◌&&◌, List, Option, Some, None, take, nat_eq, slice_get}
use Rattle.std.specs.List.{list_any}
use Rattle.std.specs.Cmp.Lexicographic.{pointwise}
use Rattle.plain_orders.specs.declared.entry.Entry.{Entry}
use Rattle.plain_orders.specs.declared.entry.Entry.TheVariants.{Epoch, Opened, Closed, Update, Commit, Rollback}
use Rattle.plain_orders.specs.Fold.{Undo, OldValue, OldPairs, Transaction, Folded, fold, undo_in}
use Rattle.plain_orders.specs.Own.{op_touches}
use Rattle.plain_orders.specs.PairMap.{is_under}

-- putting an item back touches the node
abbrev pub undo_touches : List ℕ → Undo → Bool
undo_touches node (OldValue key old) = pointwise nat_eq key node
undo_touches node (OldPairs key pairs) = is_under key node

-- an open transaction has touched the node
abbrev pub has_touched : List ℕ → Transaction → Bool
has_touched node t = list_any (undo_touches node) t.undo

-- a transaction of the session, which has touched the node
abbrev pub has_touched_in : ℕ → List ℕ → Transaction → Bool
has_touched_in session node t = t.session == session && has_touched node t

-- an entry touches the node, on what the entries before it make
abbrev pub entry_touches : List ℕ → Folded → Entry → Bool
entry_touches node f (Epoch number) = false
entry_touches node f (Opened session app) = false
entry_touches node f (Closed session) = list_any (has_touched_in session node) f.begun
entry_touches node f (Update session w job txn op) = op_touches node op
entry_touches node f (Commit session w job txn) = false
entry_touches node f (Rollback session w job txn) = list_any (undo_touches node) (undo_in session job txn f.begun)

-- the same of an entry that may be missing
abbrev pub touches_if : List ℕ → Folded → Option Entry → Bool
touches_if node f None = false
touches_if node f (Some e) = entry_touches node f e

-- the entry at a position, the first being 1, touches the node
abbrev pub touched_at : List Entry → List ℕ → ℕ → Bool
touched_at es node zero = false
touched_at es node (suc i) = touches_if node (fold (take i es)) (slice_get es i)
