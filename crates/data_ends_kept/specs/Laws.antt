-- What each move keeps of the data ends, where the invariant holds before it.
use Rattle.std.specs.Prelude.{◌≡◌, ℕ, false, List, None, IfSome}
use Rattle.plain_orders.specs.declared.act.Act.{Act}
use Rattle.plain_orders.specs.declared.layout.Layout.{Layout}
use Rattle.plain_runs.specs.Run.{IsRun, state_after}
use Rattle.cluster_runs.specs.CoresState.{CoresState}
use Rattle.cluster_runs.specs.declared.move_outs.MoveOuts.{MoveOuts}
use Rattle.cluster_runs.specs.declared.moves.Move.{Move}
use Rattle.cluster_runs.specs.Goes.{Goes}
use Rattle.cluster_runs.specs.Machine.{Machine}
use Rattle.cluster_runs.specs.Mirrors.{Mirrors}
use Rattle.cluster_runs.specs.Moves.{Allowed}
use Rattle.cluster_invariant.specs.Ends.{NodeEnds}
use Rattle.cluster_invariant.specs.Holds.{Holds}

-- Before its first start no data end of a data server broke.
abbrev pub MovesKeepUnopened : Type 0
MovesKeepUnopened = (l : Layout) (c : CoresState) (m : Machine) (move : Move) (outs : MoveOuts) (written : List Act) (new : Machine)
    → Holds l m → IsRun l m.trail → Mirrors c m → Allowed c move → Goes m move outs written new
    → (d : ℕ) → ((state_after l new.trail).server_at d).opened ≡ false → (app : ℕ) → ((state_after l new.trail).server_at d).end_at app ≡ None

-- The data ends of running nodes are as the invariant has them: links, round, and waiting Hellos.
abbrev pub MovesKeepDataEnds : Type 0
MovesKeepDataEnds = (l : Layout) (c : CoresState) (m : Machine) (move : Move) (outs : MoveOuts) (written : List Act) (new : Machine)
    → Holds l m → IsRun l m.trail → Mirrors c m → Allowed c move → Goes m move outs written new
    → (d : ℕ) → IfSome (new.site_at d).node (NodeEnds ((state_after l new.trail).server_at d) (new.site_at d))
