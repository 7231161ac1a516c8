-- Moves keep the fronts of application ends, where the invariant holds before them.
use Rattle.std.specs.Prelude.{ℕ, List}
use Rattle.plain_orders.specs.declared.act.Act.{Act}
use Rattle.plain_orders.specs.declared.layout.Layout.{Layout}
use Rattle.plain_runs.specs.Run.{IsRun, state_after}
use Rattle.cluster_runs.specs.declared.move_outs.MoveOuts.{MoveOuts}
use Rattle.cluster_runs.specs.declared.moves.Move.{Move}
use Rattle.cluster_runs.specs.CoresState.{CoresState}
use Rattle.cluster_runs.specs.Goes.{Goes}
use Rattle.cluster_runs.specs.Machine.{Machine}
use Rattle.cluster_runs.specs.Mirrors.{Mirrors}
use Rattle.cluster_runs.specs.Moves.{Allowed}
use Rattle.cluster_invariant.specs.Fronts.{FrontsHold}
use Rattle.cluster_invariant.specs.Holds.{Holds}

-- at each data server, the fronts of the ends with it
abbrev pub EachHasFronts : Layout → Machine → Type 0
EachHasFronts l m = (d : ℕ) → FrontsHold ((state_after l m.trail).server_at d) (m.site_at d) m.is_dead_at

-- Each move keeps them.
abbrev pub MovesKeepFronts : Type 0
MovesKeepFronts = (l : Layout) (c : CoresState) (m : Machine) (move : Move) (outs : MoveOuts) (written : List Act) (new : Machine)
    → Holds l m → IsRun l m.trail → Mirrors c m → Allowed c move → Goes m move outs written new → EachHasFronts l new
