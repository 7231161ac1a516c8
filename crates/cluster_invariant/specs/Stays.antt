-- What stays of an order, in every run of the plain machine.
use Rattle.std.specs.Prelude.{◌≡◌, ◌≤◌, ℕ, List, take}
use Rattle.plain_orders.specs.declared.act.Act.{Act}
use Rattle.plain_orders.specs.declared.layout.Layout.{Layout}
use Rattle.plain_runs.specs.Plain.{current, order_at}
use Rattle.plain_runs.specs.Run.{IsRun, state_after}
use Rattle.cluster_invariant.specs.Orders.{OrdersAgree}
use Rattle.cluster_invariant.specs.Words.{stays_at}

-- Each order is an ordered list and goes on from the one before it by the next Epoch.
abbrev pub EachGoesOn : Type 0
EachGoesOn = (l : Layout) (acts : List Act) (d : ℕ) → IsRun l acts → OrdersAgree ((state_after l acts).server_at d)

-- What stays of it is synced.
abbrev pub StaysSynced : Type 0
StaysSynced = (l : Layout) (acts : List Act) (d k : ℕ) → IsRun l acts → k ≤ current ((state_after l acts).server_at d)
    → stays_at ((state_after l acts).server_at d) k ≤ ((state_after l acts).server_at d).synced

-- And it is the front of each later one.
abbrev pub FrontStays : Type 0
FrontStays = (l : Layout) (acts : List Act) (d k j : ℕ) → IsRun l acts → k ≤ j → j ≤ current ((state_after l acts).server_at d)
    → take (stays_at ((state_after l acts).server_at d) k) (order_at ((state_after l acts).server_at d) j)
    ≡ take (stays_at ((state_after l acts).server_at d) k) (order_at ((state_after l acts).server_at d) k)
