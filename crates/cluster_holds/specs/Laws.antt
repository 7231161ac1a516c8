-- What holds in each state that some list of allowed moves leads to, as long as the trail is a run of the plain machine.
use Rattle.std.specs.Prelude.{List}
use Rattle.plain_orders.specs.declared.act.Act.{Act}
use Rattle.plain_orders.specs.declared.layout.Layout.{Layout}
use Rattle.plain_runs.specs.Run.{IsRun}
use Rattle.cluster_runs.specs.declared.move_outs.MoveOuts.{MoveOuts}
use Rattle.cluster_runs.specs.declared.moves.Move.{Move}
use Rattle.cluster_runs.specs.CoresState.{CoresState}
use Rattle.cluster_runs.specs.Goes.{Goes}
use Rattle.cluster_runs.specs.Machine.{Machine}
use Rattle.cluster_runs.specs.Mirrors.{Mirrors}
use Rattle.cluster_runs.specs.Moves.{Allowed}
use Rattle.cluster_runs.specs.Reached.{Reached}
use Rattle.cluster_invariant.specs.Holds.{Holds}

-- Each move keeps the whole invariant, where the trail before it and after it is a run.
abbrev pub MovesKeepHolds : Type 0
MovesKeepHolds = (l : Layout) (c : CoresState) (m : Machine) (move : Move) (outs : MoveOuts) (written : List Act) (new : Machine)
    → Holds l m → IsRun l m.trail → IsRun l new.trail → Mirrors c m → Allowed c move → Goes m move outs written new → Holds l new

-- It holds in each state that some list of allowed moves leads to, where its trail is a run.
abbrev pub HoldsWhereReached : Type 0
HoldsWhereReached = (l : Layout) (m : Machine) → Reached l m → IsRun l m.trail → Holds l m
