-- What a list of entries makes of the map, with the transactions that are open after it.
use Rattle.std.specs.Prelude.{ℕ, Bool, ◌==◌, ◌&&◌, not, if◌then◌else◌, List, [], ◌∷◌, Option, Some, None, filter, ℤ, ◌+ℤ◌}
use Rattle.std.specs.List.{list_any}
use Rattle.plain_orders.specs.declared.op.Op.{Op}
use Rattle.plain_orders.specs.declared.op.Op.TheVariants.{Set, Kill, Add}
use Rattle.plain_orders.specs.declared.entry.Entry.{Entry}
use Rattle.plain_orders.specs.declared.entry.Entry.TheVariants.{Epoch, Opened, Closed, Update, Commit, Rollback}
use Rattle.plain_orders.specs.declared.sum.Sum.{Sum}
use Rattle.plain_orders.specs.declared.sum.Sum.TheVariants.{Nothing, Whole, NotWhole, Range}
use Rattle.plain_orders.specs.Numbers.{is_short, integer_text, whole_of}
use Rattle.plain_orders.specs.PairMap.{Map, value_at, put, remove, remove_under, pairs_under, put_all}

-- what one update of a transaction leaves to be put back
pub data Undo : Type 0 where
  -- of a Set: the old value of its node, or its absence
  OldValue : List ℕ → Option (List ℕ) → Undo
  -- of a Kill: the pairs that it removed at its node and below it
  OldPairs : List ℕ → Map → Undo

-- an open transaction
pub record Transaction : Type 0 where
  pub session : ℕ
  pub job : ℕ
  pub txn : ℕ
  -- what is to be put back, the last first
  pub undo : List Undo

pub record Folded : Type 0 where
  pub pairs : Map
  -- the open transactions, the latest begun first
  pub begun : List Transaction

-- one more whole number on an amount: it has at most DIGIT_LIMIT digits or not
abbrev pub sum_of : ℤ → Sum
sum_of n = if is_short n then Whole n else Range

-- an amount on a value that is a whole number or not
abbrev pub sum_on : Option ℤ → ℤ → Sum
sum_on None amount = NotWhole
sum_on (Some n) amount = sum_of (n +ℤ amount)

-- an amount on the value of a node; an absent one counts as 0
abbrev pub sum_with : Option (List ℕ) → ℤ → Sum
sum_with None amount = sum_of amount
sum_with (Some value) amount = sum_on (whole_of value) amount

-- what an operation does as an increment
abbrev pub op_sum : Map → Op → Sum
op_sum m (Set key value) = Nothing
op_sum m (Kill key) = Nothing
op_sum m (Add key amount) = sum_with (value_at m key) amount

-- only a sum that is a whole number of at most DIGIT_LIMIT digits is written
abbrev pub with_sum : Map → List ℕ → Sum → Map
with_sum m key Nothing = m
with_sum m key (Whole n) = put m key (integer_text n)
with_sum m key NotWhole = m
with_sum m key Range = m

-- the map after an operation
abbrev pub op_after : Map → Op → Map
op_after m (Set key value) = put m key value
op_after m (Kill key) = remove_under m key
op_after m (Add key amount) = with_sum m key (op_sum m (Add key amount))

-- what an operation of a transaction leaves to be put back
abbrev pub undo_of : Map → Op → Option Undo
undo_of m (Set key value) = Some (OldValue key (value_at m key))
undo_of m (Kill key) = Some (OldPairs key (pairs_under m key))
undo_of m (Add key amount) = None

-- a node's old value, or its absence, put back
abbrev pub value_back : Map → List ℕ → Option (List ℕ) → Map
value_back m key None = remove m key
value_back m key (Some value) = put m key value

-- one item put back
abbrev pub undone : Map → Undo → Map
undone m (OldValue key old) = value_back m key old
undone m (OldPairs key pairs) = put_all m pairs

-- several, in this order
abbrev pub all_undone : Map → List Undo → Map
all_undone m [] = m
all_undone m (u ∷ us) = all_undone (undone m u) us

-- a transaction is known by session, job and number
abbrev pub is_it : ℕ → ℕ → ℕ → Transaction → Bool
is_it session job txn t = t.session == session && t.job == job && t.txn == txn

-- whether the transaction is open
abbrev pub is_begun : ℕ → ℕ → ℕ → List Transaction → Bool
is_begun session job txn ts = list_any (is_it session job txn) ts

-- with an item more to be put back
abbrev pub with_undo : Undo → Transaction → Transaction
with_undo u t = record t { undo = u ∷ t.undo }

-- with an item more in the transaction that is meant
abbrev pub undo_added : ℕ → ℕ → ℕ → Undo → List Transaction → List Transaction
undo_added session job txn u [] = []
undo_added session job txn u (t ∷ ts) =
    if is_it session job txn t then with_undo u t ∷ ts else t ∷ undo_added session job txn u ts

-- a transaction's first item begins it
abbrev pub beginning : ℕ → ℕ → ℕ → Undo → Transaction
beginning session job txn u = record { session = session; job = job; txn = txn; undo = u ∷ [] }

-- an item is noted in its transaction, which it begins if it is not open; number 0 is no transaction
abbrev pub noted : ℕ → ℕ → ℕ → Option Undo → List Transaction → List Transaction
noted session job txn None ts = ts
noted session job txn (Some u) ts =
    if txn == 0 then ts else (if is_begun session job txn ts then undo_added session job txn u ts else beginning session job txn u ∷ ts)

-- what is to be put back of the transaction that is meant
abbrev pub undo_in : ℕ → ℕ → ℕ → List Transaction → List Undo
undo_in session job txn [] = []
undo_in session job txn (t ∷ ts) = if is_it session job txn t then t.undo else undo_in session job txn ts

-- a transaction is another than the one that ends
abbrev pub is_other : ℕ → ℕ → ℕ → Transaction → Bool
is_other session job txn t = not (is_it session job txn t)

-- the transactions that stay open when this one ends
abbrev pub ended : ℕ → ℕ → ℕ → List Transaction → List Transaction
ended session job txn ts = filter (is_other session job txn) ts

-- a transaction is of another session
abbrev pub is_elsewhere : ℕ → Transaction → Bool
is_elsewhere session t = not (t.session == session)

-- all transactions of a session rolled back, the latest begun first
abbrev pub session_undone : ℕ → List Transaction → Map → Map
session_undone session [] m = m
session_undone session (t ∷ ts) m =
    session_undone session ts (if t.session == session then all_undone m t.undo else m)

-- one entry more
abbrev pub fold_step : Folded → Entry → Folded
fold_step f (Epoch number) = f
fold_step f (Opened session app) = f
fold_step f (Closed session) = record { pairs = session_undone session f.begun f.pairs; begun = filter (is_elsewhere session) f.begun }
fold_step f (Update session w job txn op) = record { pairs = op_after f.pairs op; begun = noted session job txn (undo_of f.pairs op) f.begun }
fold_step f (Commit session w job txn) = record { pairs = f.pairs; begun = ended session job txn f.begun }
fold_step f (Rollback session w job txn) = record { pairs = all_undone f.pairs (undo_in session job txn f.begun); begun = ended session job txn f.begun }

-- several entries more
abbrev pub fold_from : Folded → List Entry → Folded
fold_from f [] = f
fold_from f (e ∷ es) = fold_from (fold_step f e) es

-- nothing is there and no transaction is open
abbrev pub nothing_folded : Folded
nothing_folded = record { pairs = []; begun = [] }

-- what the whole list makes
abbrev pub fold : List Entry → Folded
fold es = fold_from nothing_folded es
