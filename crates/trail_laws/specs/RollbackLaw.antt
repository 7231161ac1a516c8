-- A transaction that is rolled back leaves no trace.
use Rattle.std.specs.Prelude.{◌≡◌, ℕ, Bool, true, false, ◌==◌, ◌&&◌, List, [], ◌∷◌, ◌++◌}
use Rattle.std.specs.List.{AllByRecursion}
use Rattle.plain_orders.specs.declared.op.Op.TheVariants.{Set}
use Rattle.plain_orders.specs.declared.entry.Entry.{Entry}
use Rattle.plain_orders.specs.declared.entry.Entry.TheVariants.{Epoch, Opened, Closed, Update, Commit, Rollback}
use Rattle.plain_orders.specs.declared.act.Act.{Act}
use Rattle.plain_orders.specs.declared.layout.Layout.{Layout}
use Rattle.plain_orders.specs.Begun.{is_named, is_of_one}
use Rattle.plain_orders.specs.Fold.{Transaction, fold, is_begun}
use Rattle.plain_orders.specs.Own.{op_touches}
use Rattle.plain_orders.specs.PairMap.{value_at}
use Rattle.plain_runs.specs.Plain.{order_at}
use Rattle.plain_runs.specs.Run.{IsRun}
use Rattle.plain_runs.specs.Laws.{server_after}
use Rattle.trail_laws.specs.ExampleTrails.{rolled_back, two_jobs, x_node}
use Rattle.trail_laws.specs.Touches.{has_touched}

-- the entry is an update of the transaction
abbrev pub is_update_in : ℕ → ℕ → ℕ → Entry → Bool
is_update_in s j t (Epoch number) = false
is_update_in s j t (Opened session app) = false
is_update_in s j t (Closed session) = false
is_update_in s j t (Update session w job txn op) = is_named s j t session job txn && is_of_one txn op
is_update_in s j t (Commit session w job txn) = false
is_update_in s j t (Rollback session w job txn) = false

-- the entry rolls the transaction back: its Rollback, or a Close of its session
abbrev pub rolls_back : ℕ → ℕ → ℕ → Entry → Bool
rolls_back s j t (Epoch number) = false
rolls_back s j t (Opened session app) = false
rolls_back s j t (Closed session) = session == s
rolls_back s j t (Update session w job txn op) = false
rolls_back s j t (Commit session w job txn) = false
rolls_back s j t (Rollback session w job txn) = is_named s j t session job txn

-- the entry ends the transaction
abbrev pub ends_it : ℕ → ℕ → ℕ → Entry → Bool
ends_it s j t (Epoch number) = false
ends_it s j t (Opened session app) = false
ends_it s j t (Closed session) = session == s
ends_it s j t (Update session w job txn op) = false
ends_it s j t (Commit session w job txn) = is_named s j t session job txn
ends_it s j t (Rollback session w job txn) = is_named s j t session job txn

-- the entry is an update that touches the node
abbrev pub update_touches : List ℕ → Entry → Bool
update_touches node (Epoch number) = false
update_touches node (Opened session app) = false
update_touches node (Closed session) = false
update_touches node (Update session w job txn op) = op_touches node op
update_touches node (Commit session w job txn) = false
update_touches node (Rollback session w job txn) = false

-- In an order a transaction begins by the entry `first`, and `last` is the first entry that ends it, by rolling it back.
-- Where no other update between them touches a node, and no other transaction that is open before `first` has touched
-- it, the node's value after `last` is the one before `first`. That no other entry undoes an update there follows.
abbrev pub LeavesNoTrace : Type 0
LeavesNoTrace =
    (layout : Layout) (acts : List Act) (d k session job txn : ℕ) (before middle after : List Entry) (first last : Entry) (node : List ℕ)
    → IsRun layout acts → order_at (server_after layout acts d) k ≡ before ++ first ∷ middle ++ last ∷ after
    → is_begun session job txn (fold before).begun ≡ false → is_update_in session job txn first ≡ true
    → AllByRecursion (λ e. ends_it session job txn e ≡ false) middle → rolls_back session job txn last ≡ true
    → AllByRecursion (λ e. is_update_in session job txn e ≡ false → update_touches node e ≡ false) middle
    → AllByRecursion (λ (t : Transaction). has_touched node t ≡ false) (fold before).begun
    → value_at (fold (before ++ first ∷ middle ++ last ∷ [])).pairs node ≡ value_at (fold before).pairs node

-- A transaction of job 0 sets a node and is rolled back.
abbrev pub RollbackExample : Type 0
RollbackExample =
    IsRun two_jobs rolled_back
    × (order_at (server_after two_jobs rolled_back 0) 0 ≡ (Epoch 1 ∷ Opened 2 0 ∷ []) ++ Update 2 1 0 1 (Set x_node (53 ∷ [])) ∷ [] ++ Rollback 2 2 0 1 ∷ [])
    × (is_begun 2 0 1 (fold (Epoch 1 ∷ Opened 2 0 ∷ [])).begun ≡ false)
    × (is_update_in 2 0 1 (Update 2 1 0 1 (Set x_node (53 ∷ []))) ≡ true)
    × (rolls_back 2 0 1 (Rollback 2 2 0 1) ≡ true)
