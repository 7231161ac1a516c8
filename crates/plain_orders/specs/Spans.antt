-- The spans that an entry changes: those of what it does, or of what it undoes.
use Rattle.std.specs.Prelude.{◌≡◌, ℕ, ◌==◌, if◌then◌else◌, List, [], ◌∷◌, ◌++◌, map}
use Rattle.subscript_keys.specs.declared.span.Span.{Span}
use Rattle.subscript_keys.specs.Span.{IsIn, Meet, span_lo, span_hi}
use Rattle.plain_orders.specs.declared.op.Op.{Op}
use Rattle.plain_orders.specs.declared.op.Op.TheVariants.{Set, Kill, Add}
use Rattle.plain_orders.specs.declared.entry.Entry.{Entry}
use Rattle.plain_orders.specs.declared.entry.Entry.TheVariants.{Epoch, Opened, Closed, Update, Commit, Rollback}
use Rattle.plain_orders.specs.Fold.{Undo, OldValue, OldPairs, Transaction, Folded, undo_in}

-- a node alone: only its own key is at or after it and before its key followed by 00
abbrev pub node_span : List ℕ → Span
node_span key = record { lo = key; hi = key ++ 0 ∷ [] }

-- a node and its descendants
abbrev pub killed_span : List ℕ → Span
killed_span key = record { lo = span_lo key; hi = span_hi key }

-- what an operation changes
abbrev pub op_span : Op → Span
op_span (Set key value) = node_span key
op_span (Kill key) = killed_span key
op_span (Add key amount) = node_span key

-- what putting an item back changes
abbrev pub undo_span : Undo → Span
undo_span (OldValue key old) = node_span key
undo_span (OldPairs key pairs) = killed_span key

-- what undoing all transactions of a session changes, the latest begun first
abbrev pub session_spans : ℕ → List Transaction → List Span
session_spans session [] = []
session_spans session (t ∷ ts) =
    if t.session == session then map undo_span t.undo ++ session_spans session ts else session_spans session ts

-- what an entry changes, in the order in which it does
abbrev pub entry_spans : Folded → Entry → List Span
entry_spans f (Epoch number) = []
entry_spans f (Opened session app) = []
entry_spans f (Closed session) = session_spans session f.begun
entry_spans f (Update session w job txn op) = op_span op ∷ []
entry_spans f (Commit session w job txn) = []
entry_spans f (Rollback session w job txn) = map undo_span (undo_in session job txn f.begun)

-- an operation's node, or its killed span, meets a span
abbrev pub OpTouches : Op → Span → Type 0
OpTouches (Set key value) span = IsIn span.lo span.hi key
OpTouches (Kill key) span = Meet (span_lo key) (span_hi key) span.lo span.hi
OpTouches (Add key amount) span = IsIn span.lo span.hi key

-- an Update touches a span where its operation does; no other entry does by itself
abbrev pub Touches : Entry → Span → Type 0
Touches (Epoch number) span = ⊥
Touches (Opened session app) span = ⊥
Touches (Closed session) span = ⊥
Touches (Update session w job txn op) span = OpTouches op span
Touches (Commit session w job txn) span = ⊥
Touches (Rollback session w job txn) span = ⊥

-- an Update in no transaction, or an entry that is no Update
abbrev pub IsAlone : Entry → Type 0
IsAlone (Epoch number) = Unit {0}
IsAlone (Opened session app) = Unit {0}
IsAlone (Closed session) = Unit {0}
IsAlone (Update session w job txn op) = txn ≡ 0
IsAlone (Commit session w job txn) = Unit {0}
IsAlone (Rollback session w job txn) = Unit {0}
