-- The items of a session and of its jobs stand in order.
use Rattle.std.specs.Prelude.{◌≡◌, ℕ, Bool, false, ◌==◌, ◌&&◌, ◌<◌, if◌then◌else◌, List, [], ◌∷◌}
use Rattle.plain_orders.specs.declared.entry.Entry.{Entry}
use Rattle.plain_orders.specs.declared.entry.Entry.TheVariants.{Epoch, Opened, Closed, Update, Commit, Rollback}
use Rattle.plain_orders.specs.declared.act.Act.{Act}
use Rattle.plain_orders.specs.declared.layout.Layout.{Layout}
use Rattle.plain_orders.specs.ItemEntries.{is_item_of, w_of}
use Rattle.plain_runs.specs.Plain.{order_at}
use Rattle.plain_runs.specs.Run.{IsRun}
use Rattle.plain_runs.specs.Laws.{server_after}
use Rattle.trail_laws.specs.ExampleTrails.{rolled_back, two_jobs}

-- the entry is an item of this job
abbrev pub is_by : ℕ → Entry → Bool
is_by j (Epoch number) = false
is_by j (Opened session app) = false
is_by j (Closed session) = false
is_by j (Update session w job txn op) = job == j
is_by j (Commit session w job txn) = job == j
is_by j (Rollback session w job txn) = job == j

-- the running numbers of a job's items in a session, in the order of the list
abbrev pub job_numbers : List Entry → ℕ → ℕ → List ℕ
job_numbers [] s j = []
job_numbers (e ∷ es) s j = if is_item_of s e && is_by j e then w_of e ∷ job_numbers es s j else job_numbers es s j

-- numbers above k, each above the one before
abbrev pub RiseAbove : ℕ → List ℕ → Type 0
RiseAbove k [] = Unit {0}
RiseAbove k (n ∷ ns) = (k < n) × RiseAbove n ns

-- In each order the items of a job in a session stand in the order of their running numbers, which is the order in which it issued them.
abbrev pub JobsInOrder : Type 0
JobsInOrder =
    (layout : Layout) (acts : List Act) (d k session job : ℕ) → IsRun layout acts
    → RiseAbove 0 (job_numbers (order_at (server_after layout acts d) k) session job)

-- A job has two items in a session.
abbrev pub OrderExample : Type 0
OrderExample = IsRun two_jobs rolled_back × (job_numbers (order_at (server_after two_jobs rolled_back 0) 0) 2 0 ≡ 1 ∷ 2 ∷ [])
