-- A data server's order, as its node, its disk and the plain machine have it.
use Rattle.std.specs.Prelude.{◌≡◌, ◌<◌, ◌≤◌, ℕ, zero, suc, false, ◌+◌, true, max, List, length, take, Option, Some, None, IfSome, if◌then◌else◌}
use Rattle.plain_orders.specs.declared.entry.Entry.{Entry}
use Rattle.plain_orders.specs.declared.entry.Entry.TheVariants.{Epoch}
use Rattle.plain_orders.specs.declared.layout.Layout.{Layout}
use Rattle.plain_orders.specs.Entries.{entry_at, last_epoch}
use Rattle.plain_orders.specs.Ordered.{IsOrdered}
use Rattle.plain_runs.specs.Plain.{Server, current, order_at}
use Rattle.data_rules.specs.DataState.{DataState}
use Rattle.data_rules.specs.Places.{epoch_place}
use Rattle.cluster_runs.specs.Sent.{no_lane}
use Rattle.cluster_runs.specs.Machine.{Site}
use Rattle.cluster_runs.specs.Goes.{past_with}
use Rattle.cluster_invariant.specs.Words.{stays_at}

-- the order that a disk has
abbrev pub disk_order : Server → Option (List Entry)
disk_order v = if v.opened then Some v.order else None

-- What is synced at once with the first start: its Epoch, which the plain machine has synced while no save reached it yet.
abbrev pub synced_first : ℕ → List Entry → ℕ
synced_first zero es = epoch_place es
synced_first (suc past) es = 0

-- a node that runs
pub record NodeOrder (l : Layout) (d past : ℕ) (v : Server) (n : DataState) : Type 0 where
  pub its_server : n.server ≡ d
  pub its_times : n.times ≡ l.times
  pub opened : v.opened ≡ true
  -- the node's order is the plain one
  pub order : n.order ≡ v.order
  -- and so is what is synced, but for the first Epoch before a save
  pub synced : v.synced ≡ max n.synced (synced_first past v.order)

-- The last plain order is the data server's.
pub record OrderIs (l : Layout) (d : ℕ) (v : Server) (x : Site) : Type 0 where
  -- as many orders were before it
  pub past : x.past ≡ current v
  -- the disk has it
  pub disk : x.order ≡ disk_order v
  -- a node that runs has it
  pub node : IfSome x.node (NodeOrder l d x.past v)
  -- one that never started accepted no connection
  pub no_conns : v.opened ≡ false → (conn : ℕ) → x.connection_at conn ≡ None
  -- nothing was put or taken in an order to come
  pub to_come : (session k : ℕ) → past_with x.order x.past ≤ k → x.lane_at session k ≡ no_lane

-- what an order and the one before it have alike
pub record KeptAlike (v : Server) (k : ℕ) : Type 0 where
  pub within : stays_at v k ≤ length (order_at v k)
  pub front : take (stays_at v k) (order_at v (k + 1)) ≡ take (stays_at v k) (order_at v k)
  pub next : entry_at (order_at v (k + 1)) (stays_at v k + 1) ≡ Some (Epoch (last_epoch (take (stays_at v k) (order_at v k)) + 1))

-- What each run of the plain machine has: ordered lists, and each order goes on from the one before it. It isn't carried.
pub record OrdersAgree (v : Server) : Type 0 where
  pub ordered : (k : ℕ) → k ≤ current v → IsOrdered (order_at v k)
  pub within : v.synced ≤ length v.order
  pub kept : (k : ℕ) → k < current v → KeptAlike v k
