-- The entries that are items of a session, and their running numbers.
use Rattle.std.specs.Prelude.{ℕ, Bool, false, ◌==◌, ◌&&◌, if◌then◌else◌, List, [], ◌∷◌}
use Rattle.std.specs.List.{list_any}
use Rattle.plain_orders.specs.declared.entry.Entry.{Entry}
use Rattle.plain_orders.specs.declared.entry.Entry.TheVariants.{Epoch, Opened, Closed, Update, Commit, Rollback}

-- the entry is the item of this session with this running number
abbrev pub is_item_at : ℕ → ℕ → Entry → Bool
is_item_at s n (Epoch number) = false
is_item_at s n (Opened session app) = false
is_item_at s n (Closed session) = false
is_item_at s n (Update session w job txn op) = session == s && w == n
is_item_at s n (Commit session w job txn) = session == s && w == n
is_item_at s n (Rollback session w job txn) = session == s && w == n

-- the entry is an item of this session
abbrev pub is_item_of : ℕ → Entry → Bool
is_item_of s (Epoch number) = false
is_item_of s (Opened session app) = false
is_item_of s (Closed session) = false
is_item_of s (Update session w job txn op) = session == s
is_item_of s (Commit session w job txn) = session == s
is_item_of s (Rollback session w job txn) = session == s

-- the item of this session with this running number stands in the list
abbrev pub has_item : List Entry → ℕ → ℕ → Bool
has_item es s n = list_any (is_item_at s n) es

-- the running number of an item, else 0
abbrev pub w_of : Entry → ℕ
w_of (Epoch number) = 0
w_of (Opened session app) = 0
w_of (Closed session) = 0
w_of (Update session w job txn op) = w
w_of (Commit session w job txn) = w
w_of (Rollback session w job txn) = w

-- the running numbers of a session's items, in the order of the list
abbrev pub numbers : List Entry → ℕ → List ℕ
numbers [] s = []
numbers (e ∷ es) s = if is_item_of s e then w_of e ∷ numbers es s else numbers es s
