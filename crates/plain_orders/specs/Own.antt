-- A job's own updates that are on their way.
use Rattle.std.specs.Prelude.{ℕ, Bool, ◌==◌, if◌then◌else◌, List, [], ◌∷◌, Option, drop, nat_eq}
use Rattle.std.specs.List.{list_any}
use Rattle.std.specs.Cmp.Lexicographic.{pointwise}
use Rattle.plain_orders.specs.declared.op.Op.{Op}
use Rattle.plain_orders.specs.declared.op.Op.TheVariants.{Set, Kill, Add}
use Rattle.plain_orders.specs.declared.item.Item as its
use Rattle.plain_orders.specs.declared.item.Item.TheVariants as items
use Rattle.plain_orders.specs.declared.entry.Entry.{Entry}
use Rattle.plain_orders.specs.PairMap.{Map, is_under, value_at}
use Rattle.plain_orders.specs.Fold.{fold, op_after}

-- an item that a job issued in a session; its running number is its place in the session's list, from 1
pub record Issued : Type 0 where
  pub item : its.Item
  -- the transaction that a Set or Kill is in or that a Commit or Rollback ends, else 0
  pub txn : ℕ
  pub job : ℕ
  pub line : ℕ

-- an operation that is a Set or a Kill, in front of others
abbrev pub op_before : Op → List Op → List Op
op_before (Set key value) ops = Set key value ∷ ops
op_before (Kill key) ops = Kill key ∷ ops
op_before (Add key amount) ops = ops

-- an item that is a Set or a Kill, in front of others
abbrev pub item_before : its.Item → List Op → List Op
item_before (items.Op op) ops = op_before op ops
item_before (items.Commit txn) ops = ops
item_before (items.Rollback txn) ops = ops

-- the Sets and Kills of a job, in order
abbrev pub ops_of : ℕ → List Issued → List Op
ops_of job [] = []
ops_of job (i ∷ is) = if i.job == job then item_before i.item (ops_of job is) else ops_of job is

-- the Sets and Kills of a job whose running number is above w, in order
abbrev pub own : List Issued → ℕ → ℕ → List Op
own issued job w = ops_of job (drop w issued)

-- whether an operation touches a node
abbrev pub op_touches : List ℕ → Op → Bool
op_touches node (Set key value) = pointwise nat_eq key node
op_touches node (Kill key) = is_under key node
op_touches node (Add key amount) = pointwise nat_eq key node

-- whether one of these operations touches the node
abbrev pub touches_own : List Op → List ℕ → Bool
touches_own ops node = list_any (op_touches node) ops

-- the map after several operations
abbrev pub ops_after : Map → List Op → Map
ops_after m [] = m
ops_after m (o ∷ os) = ops_after (op_after m o) os

-- the value of a node on a list of entries and own updates after it
abbrev pub value_over : List Entry → List Op → List ℕ → Option (List ℕ)
value_over es ops key = value_at (ops_after (fold es).pairs ops) key
