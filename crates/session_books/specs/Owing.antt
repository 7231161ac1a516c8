-- What the items of a session are owed.
use Rattle.std.specs.Prelude.{ℕ, List, Option, Some, None}
use Rattle.plain_orders.specs.declared.op.Op.{Op}
use Rattle.plain_orders.specs.declared.op.Op.TheVariants.{Set, Kill, Add}
use Rattle.plain_orders.specs.declared.entry.Entry.{Entry}
use Rattle.plain_orders.specs.declared.entry.Entry.TheVariants.{Epoch, Opened, Closed, Update, Commit, Rollback}
use Rattle.plain_orders.specs.declared.sum.Sum.{Sum}
use Rattle.plain_orders.specs.Entries.{entry_at}
use Rattle.plain_orders.specs.Answers.{sum_at}
use Rattle.session_books.specs.declared.owed.Owed.{Owed}
use Rattle.session_books.specs.declared.owed.OwedItem.TheVariants as items
use Rattle.session_books.specs.Places.{item_place}

-- nothing is owed for a Set or a Kill
abbrev pub owed_op : Op → ℕ → ℕ → Sum → Option Owed
owed_op (Set key value) w at sum = None
owed_op (Kill key) w at sum = None
owed_op (Add key amount) w at sum = Some (record { w = w; at = at; item = items.Add; sum = sum })

-- what an entry at a place is owed as an item, this being what it does as an increment
abbrev pub owed_entry : Entry → ℕ → Sum → Option Owed
owed_entry (Epoch number) at sum = None
owed_entry (Opened session app) at sum = None
owed_entry (Closed session) at sum = None
owed_entry (Update session w job txn op) at sum = owed_op op w at sum
owed_entry (Commit session w job txn) at sum = Some (record { w = w; at = at; item = items.Commit; sum = sum })
owed_entry (Rollback session w job txn) at sum = Some (record { w = w; at = at; item = items.Rollback; sum = sum })

-- the same of an entry that may be missing
abbrev pub owed_if : Option Entry → ℕ → Sum → Option Owed
owed_if None at sum = None
owed_if (Some e) at sum = owed_entry e at sum

-- the same by the place in a list, if there is one
abbrev pub owed_at : List Entry → Option ℕ → Option Owed
owed_at es None = None
owed_at es (Some at) = owed_if (entry_at es at) at (sum_at es at)

-- what the session's item with this running number is owed
abbrev pub owed_in : List Entry → ℕ → ℕ → Option Owed
owed_in es session w = owed_at es (item_place es session w)
