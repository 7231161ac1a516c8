-- Whether a transaction is open, entry by entry.
use Rattle.std.specs.Prelude.{ℕ, Bool, true, false, ◌==◌, ◌&&◌, not, if◌then◌else◌}
use Rattle.plain_orders.specs.declared.op.Op.{Op}
use Rattle.plain_orders.specs.declared.op.Op.TheVariants.{Set, Kill, Add}
use Rattle.plain_orders.specs.declared.entry.Entry.{Entry}
use Rattle.plain_orders.specs.declared.entry.Entry.TheVariants.{Epoch, Opened, Closed, Update, Commit, Rollback}

-- whether an operation leaves something to be put back
abbrev pub can_be_undone : Op → Bool
can_be_undone (Set key value) = true
can_be_undone (Kill key) = true
can_be_undone (Add key amount) = false

-- whether an update of this number and operation is one of a transaction
abbrev pub is_of_one : ℕ → Op → Bool
is_of_one txn op = not (txn == 0) && can_be_undone op

-- whether these three are the session, job and number of the transaction
abbrev pub is_named : ℕ → ℕ → ℕ → ℕ → ℕ → ℕ → Bool
is_named s j t session job txn = session == s && job == j && txn == t

-- whether a transaction is open after an entry, where it was open before or not
abbrev pub begun_after : Bool → Entry → ℕ → ℕ → ℕ → Bool
begun_after b (Epoch number) s j t = b
begun_after b (Opened session app) s j t = b
begun_after b (Closed session) s j t = if session == s then false else b
begun_after b (Update session w job txn op) s j t = if is_named s j t session job txn && is_of_one txn op then true else b
begun_after b (Commit session w job txn) s j t = if is_named s j t session job txn then false else b
begun_after b (Rollback session w job txn) s j t = if is_named s j t session job txn then false else b
