-- What steps of a data server keep of what is on its way, where the invariant holds before them.
use Rattle.std.specs.Prelude.{ℕ, List}
use Rattle.plain_orders.specs.declared.act.Act.{Act}
use Rattle.plain_orders.specs.declared.layout.Layout.{Layout}
use Rattle.plain_runs.specs.Run.{IsRun, state_after}
use Rattle.data_rules.specs.declared.data_in.DataIn.{DataIn}
use Rattle.cluster_runs.specs.declared.move_outs.MoveOuts.{MoveOuts}
use Rattle.cluster_runs.specs.declared.moves.Move.TheVariants.{Server as ServerMove}
use Rattle.cluster_runs.specs.CoresState.{CoresState}
use Rattle.cluster_runs.specs.Moves.{Allowed}
use Rattle.cluster_runs.specs.Mirrors.{Mirrors}
use Rattle.cluster_runs.specs.Machine.{Machine}
use Rattle.cluster_runs.specs.Goes.{ServerGoes}
use Rattle.cluster_invariant.specs.Holds.{Holds}
use Rattle.cluster_invariant.specs.Link.{LinkHolds}

-- Each step of a data server keeps what is on its way at each data server.
abbrev pub StepsKeepLinks : Type 0
StepsKeepLinks = (l : Layout) (c : CoresState) (m : Machine) (server now : ℕ) (input : DataIn) (outs : MoveOuts) (written : List Act) (new : Machine)
    → Holds l m → IsRun l m.trail → IsRun l new.trail → Mirrors c m → Allowed c (ServerMove server now input) → ServerGoes m server now input outs written new
    → (d : ℕ) → LinkHolds ((state_after l new.trail).server_at d) (new.site_at d) new.is_dead_at
