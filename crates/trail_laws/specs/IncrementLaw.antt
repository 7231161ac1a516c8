-- Two increments never both answer the same number.
use Rattle.std.specs.Prelude.{◌≡◌, ◌≢◌, ℕ, Bool, true, false, ◌&&◌, ◌<◌, List, [], ◌∷◌, ◌++◌, IsSomeAnd, ℤ, pos, negsuc, nat_eq, nat_lt, min, max}
use Rattle.std.specs.Cmp.Lexicographic.{pointwise}
use Rattle.plain_orders.specs.declared.op.Op.{Op}
use Rattle.plain_orders.specs.declared.op.Op.TheVariants.{Set, Kill, Add}
use Rattle.plain_orders.specs.declared.entry.Entry.{Entry}
use Rattle.plain_orders.specs.declared.entry.Entry.TheVariants.{Epoch, Opened, Closed, Update, Commit, Rollback}
use Rattle.plain_orders.specs.declared.act.Act.{Act}
use Rattle.plain_orders.specs.declared.act.Act.TheVariants.{Counted}
use Rattle.plain_orders.specs.declared.layout.Layout.{Layout}
use Rattle.plain_orders.specs.Entries.{entry_at}
use Rattle.plain_runs.specs.Run.{IsRun}
use Rattle.plain_runs.specs.Laws.{server_after}
use Rattle.trail_laws.specs.ExampleTrails.{added, two_jobs, x_node}
use Rattle.trail_laws.specs.Touches.{touched_at}

-- a whole number is positive
abbrev pub is_positive : ℤ → Bool
is_positive (pos n) = nat_lt 0 n
is_positive (negsuc n) = false

-- an increment of the node by a positive amount
abbrev pub is_rise_op : List ℕ → Op → Bool
is_rise_op node (Set key value) = false
is_rise_op node (Kill key) = false
is_rise_op node (Add key amount) = pointwise nat_eq key node && is_positive amount

-- an entry that is one
abbrev pub is_rise : List ℕ → Entry → Bool
is_rise node (Epoch number) = false
is_rise node (Opened session app) = false
is_rise node (Closed session) = false
is_rise node (Update session w job txn op) = is_rise_op node op
is_rise node (Commit session w job txn) = false
is_rise node (Rollback session w job txn) = false

-- one stands at this position
abbrev pub RisesAt : List Entry → List ℕ → ℕ → Type 0
RisesAt es node at = IsSomeAnd (entry_at es at) (λ e. is_rise node e ≡ true)

-- no entry between two positions touches the node
abbrev pub NoneBetween : List Entry → List ℕ → ℕ → ℕ → Type 0
NoneBetween es node i j = (k : ℕ) → min i j < k → k < max i j → touched_at es node k ≡ false

-- Two increments of one node by positive amounts, with no other entry touching it from the one to the other, are never
-- both answered by the same whole number. What stands where is said of the order at the second answer.
abbrev pub IncrementsDiffer : Type 0
IncrementsDiffer =
    (layout : Layout) (before middle later : List Act) (d job line at other_job other_line other_at : ℕ) (sum other_sum : ℤ) (node : List ℕ)
    → IsRun layout (before ++ Counted job line d at sum ∷ middle ++ Counted other_job other_line d other_at other_sum ∷ later)
    → at ≢ other_at
    → RisesAt (server_after layout (before ++ Counted job line d at sum ∷ middle) d).order node at
    → RisesAt (server_after layout (before ++ Counted job line d at sum ∷ middle) d).order node other_at
    → NoneBetween (server_after layout (before ++ Counted job line d at sum ∷ middle) d).order node at other_at
    → sum ≢ other_sum

-- Two increments are answered by 1 and 3.
abbrev pub IncrementExample : Type 0
IncrementExample =
    IsRun two_jobs (added ++ Counted 0 5 0 3 (pos 1) ∷ [] ++ Counted 0 6 0 4 (pos 3) ∷ [])
    × (◌≢◌ {A = ℕ} 3 4)
    × RisesAt (server_after two_jobs (added ++ Counted 0 5 0 3 (pos 1) ∷ []) 0).order x_node 3
    × RisesAt (server_after two_jobs (added ++ Counted 0 5 0 3 (pos 1) ∷ []) 0).order x_node 4
    × NoneBetween (server_after two_jobs (added ++ Counted 0 5 0 3 (pos 1) ∷ []) 0).order x_node 3 4
