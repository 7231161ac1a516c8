-- The open transactions of a store.
use Rattle.std.specs.Prelude.{◌≡◌, ⊤, ℕ, Bool, false, ◌==◌, if◌then◌else◌, List, [], ◌∷◌, Option, Some, None}
use Rattle.plain_orders.specs.declared.entry.Entry.{Entry}
use Rattle.plain_orders.specs.declared.entry.Entry.TheVariants.{Epoch, Opened, Closed, Update, Commit, Rollback}
use Rattle.plain_orders.specs.Fold.{Undo, Transaction, is_begun}

-- a transaction of this name, with nothing to be put back
abbrev pub unbegun : ℕ → ℕ → ℕ → Transaction
unbegun session job txn = record { session = session; job = job; txn = txn; undo = [] }

-- a transaction is of this session
abbrev pub is_of : ℕ → Transaction → Bool
is_of session t = t.session == session

-- what the latest begun transaction of a session would put back
abbrev pub first_undo : ℕ → List Transaction → Option (List Undo)
first_undo session [] = None
first_undo session (t ∷ ts) = if t.session == session then Some t.undo else first_undo session ts

-- the others
abbrev pub without_first : ℕ → List Transaction → List Transaction
without_first session [] = []
without_first session (t ∷ ts) = if t.session == session then ts else t ∷ without_first session ts

-- an entry is of no transaction, and ends none that is open
abbrev pub IsOutside : List Transaction → Entry → Type 0
IsOutside ts (Epoch number) = ⊤
IsOutside ts (Opened session app) = ⊤
IsOutside ts (Closed session) = first_undo session ts ≡ None
IsOutside ts (Update session w job txn op) = txn ≡ 0
IsOutside ts (Commit session w job txn) = is_begun session job txn ts ≡ false
IsOutside ts (Rollback session w job txn) = is_begun session job txn ts ≡ false
