-- Moves that keep the windows of live sessions that were told, where the invariant holds before them.
use Rattle.std.specs.Prelude.{ℕ, List}
use Rattle.plain_orders.specs.declared.act.Act.{Act}
use Rattle.plain_orders.specs.declared.layout.Layout.{Layout}
use Rattle.plain_runs.specs.Run.{IsRun}
use Rattle.cluster_runs.specs.declared.move_outs.MoveOuts.{MoveOuts}
use Rattle.cluster_runs.specs.declared.moves.Move.{Move}
use Rattle.cluster_runs.specs.CoresState.{CoresState}
use Rattle.cluster_runs.specs.Goes.{Goes}
use Rattle.cluster_runs.specs.Machine.{Machine}
use Rattle.cluster_runs.specs.Mirrors.{Mirrors}
use Rattle.cluster_runs.specs.Moves.{Allowed}
use Rattle.cluster_invariant.specs.Holds.{Holds}
use Rattle.cluster_invariant.specs.Windows.{WindowsAre}

-- at each data server, a live session whose Welcome was put in the current order has a window
abbrev pub EachHasWindows : Machine → Type 0
EachHasWindows m = (d : ℕ) → WindowsAre (m.site_at d)

-- Each move keeps that.
abbrev pub MovesKeepWindows : Type 0
MovesKeepWindows = (l : Layout) (c : CoresState) (m : Machine) (move : Move) (outs : MoveOuts) (written : List Act) (new : Machine)
    → Holds l m → IsRun l m.trail → Mirrors c m → Allowed c move → Goes m move outs written new → EachHasWindows new
