-- What steps of a data server keep of a running node, where the invariant holds before them.
use Rattle.std.specs.Prelude.{◌≡◌, ℕ, Bool, true, List, IfSome}
use Rattle.std.specs.List.{AllByRecursion, flat_map}
use Rattle.plain_orders.specs.declared.act.Act.{Act}
use Rattle.plain_orders.specs.declared.layout.Layout.{Layout}
use Rattle.plain_runs.specs.Plain.{Server}
use Rattle.plain_runs.specs.Run.{IsRun, state_after}
use Rattle.data_rules.specs.declared.data_in.DataIn.{DataIn}
use Rattle.data_rules.specs.DataState.{DataState}
use Rattle.cluster_runs.specs.declared.move_outs.MoveOuts.{MoveOuts}
use Rattle.cluster_runs.specs.declared.moves.Move.TheVariants.{Server as ServerMove}
use Rattle.cluster_runs.specs.CoresState.{CoresState}
use Rattle.cluster_runs.specs.Moves.{Allowed}
use Rattle.cluster_runs.specs.Mirrors.{Mirrors}
use Rattle.cluster_runs.specs.Machine.{Machine, Site}
use Rattle.cluster_runs.specs.Goes.{ServerGoes}
use Rattle.cluster_invariant.specs.Holds.{Holds}
use Rattle.cluster_invariant.specs.Link.{LaneCounts, NodeLink, NodeWindows}
use Rattle.cluster_invariant.specs.Served.{NodeServes}
use Rattle.cluster_invariant.specs.Waiting.{ReplyWaits, conns_in}
use Rattle.cluster_invariant.specs.Words.{all_differ}

-- the lanes of a site, and what a running node has of its sessions
pub record LanesServed (x : Site) : Type 0 where
  pub lanes : (session k : ℕ) → LaneCounts (x.lane_at session k)
  pub windows : IfSome x.node (NodeWindows x)
  pub serves : IfSome x.node (NodeServes x)

-- After each step of a data server what was taken of each lane was put, its windows are as the lanes, and what it has of its sessions is of
-- those that learnt of the order.
abbrev pub StepsKeepServed : Type 0
StepsKeepServed = (l : Layout) (c : CoresState) (m : Machine) (server now : ℕ) (input : DataIn) (outs : MoveOuts) (written : List Act) (new : Machine)
    → Holds l m → IsRun l m.trail → Mirrors c m → Allowed c (ServerMove server now input) → ServerGoes m server now input outs written new
    → (d : ℕ) → LanesServed (new.site_at d)

-- the replies that wait at a running node
pub record RepliesWait (v : Server) (x : Site) (n : DataState) : Type 0 where
  pub each : AllByRecursion (ReplyWaits v x n) n.replies
  -- at most one for each connection
  pub one_each : all_differ (flat_map conns_in n.replies) ≡ true

-- Each step of a data server keeps the replies that wait.
abbrev pub StepsKeepReplies : Type 0
StepsKeepReplies = (l : Layout) (c : CoresState) (m : Machine) (server now : ℕ) (input : DataIn) (outs : MoveOuts) (written : List Act) (new : Machine)
    → Holds l m → IsRun l m.trail → IsRun l new.trail → Mirrors c m → Allowed c (ServerMove server now input) → ServerGoes m server now input outs written new
    → (d : ℕ) → IfSome (new.site_at d).node (RepliesWait ((state_after l new.trail).server_at d) (new.site_at d))

-- the lanes of a site, and what is on its way at its running node
pub record NodeStands (v : Server) (x : Site) (is_dead : ℕ → Bool) : Type 0 where
  pub lanes : (session k : ℕ) → LaneCounts (x.lane_at session k)
  pub node : IfSome x.node (NodeLink v x is_dead)

-- Each step of a data server keeps the lanes, and of what is on its way the half of each running node.
abbrev pub StepsKeepNodes : Type 0
StepsKeepNodes = (l : Layout) (c : CoresState) (m : Machine) (server now : ℕ) (input : DataIn) (outs : MoveOuts) (written : List Act) (new : Machine)
    → Holds l m → IsRun l m.trail → IsRun l new.trail → Mirrors c m → Allowed c (ServerMove server now input) → ServerGoes m server now input outs written new
    → (d : ℕ) → NodeStands ((state_after l new.trail).server_at d) (new.site_at d) new.is_dead_at
