-- What is answered on a list of entries.
use Rattle.std.specs.Prelude.{◌≡◌, ℕ, zero, suc, ◌+◌, Bool, true, not, ◌&&◌, if◌then◌else◌, List, [], ◌∷◌, ◌++◌, Option, Some, None, take, is_some, slice_get}
use Rattle.std.specs.List.{list_any}
use Rattle.std.specs.Ordering.{is_lt}
use Rattle.subscript_keys.specs.declared.sub.Sub.{Sub}
use Rattle.subscript_keys.specs.Key.{sub_bytes, IsSub}
use Rattle.plain_orders.specs.declared.entry.Entry.{Entry}
use Rattle.plain_orders.specs.declared.entry.Entry.TheVariants.{Epoch, Opened, Closed, Update, Commit, Rollback}
use Rattle.plain_orders.specs.declared.sum.Sum.{Sum}
use Rattle.plain_orders.specs.declared.sum.Sum.TheVariants.{Nothing}
use Rattle.plain_orders.specs.PairMap.{Map, key_cmp, is_under, is_below, value_at}
use Rattle.plain_orders.specs.Fold.{fold, op_sum}

-- whether a pair is below the node
abbrev pub is_descendant : List ℕ → List ℕ × List ℕ → Bool
is_descendant node p = is_below node p.0

-- 1 for a value and 10 for descendants, or both, or 0
abbrev pub data_code : Bool → Bool → ℕ
data_code has_value has_descendants = (if has_descendants then 10 else 0) + (if has_value then 1 else 0)

-- what a map holds at the node and below it
abbrev pub data_at : Map → List ℕ → ℕ
data_at m key = data_code (is_some (value_at m key)) (list_any (is_descendant key) m)

-- whether a node has a value, descendants, both or neither
abbrev pub data_on : List Entry → List ℕ → ℕ
data_on es key = data_at (fold es).pairs key

-- whether a key is after a subscript of the parent with all that is below it; each is after none
abbrev pub is_behind : List ℕ → Option Sub → List ℕ → Bool
is_behind parent None key = true
is_behind parent (Some sub) key = is_lt (key_cmp (parent ++ sub_bytes sub) key) && not (is_under (parent ++ sub_bytes sub) key)

-- the key of the first pair below the parent and after the subscript
abbrev pub next_key : Map → List ℕ → Option Sub → Option (List ℕ)
next_key [] parent sub = None
next_key (p ∷ ps) parent sub = if is_below parent p.0 && is_behind parent sub p.0 then Some p.0 else next_key ps parent sub

-- the subscript that stands in a key right after the parent, if there is a key
abbrev pub IsSubIn : List ℕ → Option (List ℕ) → Option Sub → Type 0
IsSubIn parent None None = Unit {0}
IsSubIn parent None (Some sub) = ⊥
IsSubIn parent (Some key) None = ⊥
IsSubIn parent (Some key) (Some sub) = IsSub sub × (is_under (parent ++ sub_bytes sub) key ≡ true)

-- the next subscript on its level: of the first node below the parent that stands after this subscript
abbrev pub IsNextOn : List Entry → List ℕ → Option Sub → Option Sub → Type 0
IsNextOn es parent sub found = IsSubIn parent (next_key (fold es).pairs parent sub) found

-- what an entry does as an increment, on the map before it
abbrev pub entry_sum : Map → Entry → Sum
entry_sum m (Epoch number) = Nothing
entry_sum m (Opened session app) = Nothing
entry_sum m (Closed session) = Nothing
entry_sum m (Update session w job txn op) = op_sum m op
entry_sum m (Commit session w job txn) = Nothing
entry_sum m (Rollback session w job txn) = Nothing

-- the same of an entry that may be missing
abbrev pub sum_if : Map → Option Entry → Sum
sum_if m None = Nothing
sum_if m (Some e) = entry_sum m e

-- what the increment at a position, the first being 1, does on the entries before it
abbrev pub sum_at : List Entry → ℕ → Sum
sum_at es zero = Nothing
sum_at es (suc i) = sum_if (fold (take i es)).pairs (slice_get es i)
