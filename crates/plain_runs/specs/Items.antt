-- Items that were issued, and where they stand in an order.
use Rattle.std.specs.Prelude.{ℕ, Bool, true, false, ◌==◌, ◌&&◌, ◌||◌, ◌+◌, if◌then◌else◌, List, [], ◌∷◌, not}
use Rattle.plain_orders.specs.declared.entry.Entry.{Entry}
use Rattle.plain_orders.specs.declared.entry.Entry.TheVariants.{Update, Commit, Rollback}
use Rattle.plain_orders.specs.declared.op.Op.{Op as Operation}
use Rattle.plain_orders.specs.declared.op.Op.TheVariants.{Set, Kill, Add}
use Rattle.plain_orders.specs.declared.item.Item.{Item}
use Rattle.plain_orders.specs.declared.item.Item.TheVariants.{Op, Commit as CommitItem, Rollback as RollbackItem}
use Rattle.plain_orders.specs.Own.{Issued}
use Rattle.plain_orders.specs.ItemEntries.{has_item}

-- the entry that an item becomes, by its kind
abbrev pub entry_of_item : ℕ → ℕ → ℕ → ℕ → Item → Entry
entry_of_item session w job txn (Op op) = Update session w job txn op
entry_of_item session w job txn (CommitItem n) = Commit session w job n
entry_of_item session w job txn (RollbackItem n) = Rollback session w job n

-- the entry that an item becomes
abbrev pub entry_of : ℕ → ℕ → Issued → Entry
entry_of session w i = entry_of_item session w i.job i.txn i.item

-- all that a job issued in a session stands in the list, its items being those after the first k
abbrev pub all_stand : List Entry → ℕ → ℕ → ℕ → List Issued → Bool
all_stand es s job k [] = true
all_stand es s job k (i ∷ is) = (not (i.job == job) || has_item es s (k + 1)) && all_stand es s job (k + 1) is

-- the operation is a Set or a Kill
abbrev pub is_change_op : Operation → Bool
is_change_op (Set key value) = true
is_change_op (Kill key) = true
is_change_op (Add key amount) = false

-- the operation is an increment
abbrev pub is_add_op : Operation → Bool
is_add_op (Set key value) = false
is_add_op (Kill key) = false
is_add_op (Add key amount) = true

-- a Set or a Kill
abbrev pub is_change : Item → Bool
is_change (Op op) = is_change_op op
is_change (CommitItem n) = false
is_change (RollbackItem n) = false

-- an increment
abbrev pub is_add : Item → Bool
is_add (Op op) = is_add_op op
is_add (CommitItem n) = false
is_add (RollbackItem n) = false

-- a Commit
abbrev pub is_commit : Item → Bool
is_commit (Op op) = false
is_commit (CommitItem n) = true
is_commit (RollbackItem n) = false

-- a Rollback
abbrev pub is_rollback : Item → Bool
is_rollback (Op op) = false
is_rollback (CommitItem n) = false
is_rollback (RollbackItem n) = true

-- a Commit or Rollback of this transaction
abbrev pub ends : ℕ → Item → Bool
ends txn (Op op) = false
ends txn (CommitItem n) = n == txn
ends txn (RollbackItem n) = n == txn

-- a Set or Kill of the job in this transaction
abbrev pub is_update_of : ℕ → ℕ → Issued → Bool
is_update_of job txn i = i.job == job && i.txn == txn && is_change i.item

-- a Commit or Rollback of the job for this transaction
abbrev pub is_end_of : ℕ → ℕ → Issued → Bool
is_end_of job txn i = i.job == job && ends txn i.item

-- a Commit or Rollback of the job, for any transaction, issued at this line
abbrev pub is_end_at : ℕ → ℕ → Issued → Bool
is_end_at job line i = (i.job == job && i.line == line) && (is_commit i.item || is_rollback i.item)

-- whether the transaction was ended after the job's last update in it, where it was ended before or not
abbrev pub ended_from : ℕ → ℕ → Bool → List Issued → Bool
ended_from job txn b [] = b
ended_from job txn b (i ∷ is) = ended_from job txn (if is_update_of job txn i then false else (b || is_end_of job txn i)) is
