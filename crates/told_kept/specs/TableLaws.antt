-- The tables of application ends, where the invariant holds before a move.
use Rattle.std.specs.Prelude.{◌≡◌, ℕ, false, List}
use Rattle.plain_orders.specs.declared.act.Act.{Act}
use Rattle.plain_orders.specs.declared.layout.Layout.{Layout}
use Rattle.plain_runs.specs.Run.{IsRun, state_after}
use Rattle.cluster_runs.specs.CoresState.{CoresState}
use Rattle.cluster_runs.specs.declared.move_outs.MoveOuts.{MoveOuts}
use Rattle.cluster_runs.specs.declared.moves.Move.{Move}
use Rattle.cluster_runs.specs.Goes.{Goes}
use Rattle.cluster_runs.specs.Machine.{Machine}
use Rattle.cluster_runs.specs.Mirrors.{Mirrors}
use Rattle.cluster_runs.specs.Moves.{Allowed}
use Rattle.cluster_invariant.specs.Ends.{AppTables}
use Rattle.cluster_invariant.specs.Holds.{Holds}

-- Each move keeps that the tables of the ends of all living application servers are the plain pairs'.
abbrev pub MovesKeepTables : Type 0
MovesKeepTables = (l : Layout) (c : CoresState) (m : Machine) (move : Move) (outs : MoveOuts) (written : List Act) (new : Machine)
    → Holds l m → IsRun l m.trail → Mirrors c m → Allowed c move → Goes m move outs written new
    → (d app : ℕ) → new.is_dead_at app ≡ false → AppTables (((state_after l new.trail).server_at d).pair_at app) ((new.site_at d).end_at app).state
