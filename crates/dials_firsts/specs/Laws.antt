-- First frames keep the connections of each pair, and so does each move, where the invariant holds before it and the trail stays a run.
use Rattle.std.specs.Prelude.{◌≡◌, ℕ, List, None}
use Rattle.plain_orders.specs.declared.act.Act.{Act}
use Rattle.plain_orders.specs.declared.layout.Layout.{Layout}
use Rattle.plain_runs.specs.Run.{IsRun}
use Rattle.ecp_messages.specs.declared.up.UpFrame.{UpFrame}
use Rattle.data_rules.specs.declared.data_in.DataIn.TheVariants as data_in
use Rattle.cluster_runs.specs.declared.move_outs.MoveOuts.{MoveOuts}
use Rattle.cluster_runs.specs.declared.moves.Move.{Move}
use Rattle.cluster_runs.specs.declared.moves.Move.TheVariants.{Server}
use Rattle.cluster_runs.specs.CoresState.{CoresState}
use Rattle.cluster_runs.specs.Moves.{Allowed}
use Rattle.cluster_runs.specs.Mirrors.{Mirrors}
use Rattle.cluster_runs.specs.Machine.{Machine}
use Rattle.cluster_runs.specs.Connections.{link_of}
use Rattle.cluster_runs.specs.Goes.{Goes, ServerGoes}
use Rattle.cluster_invariant.specs.Holds.{Holds}
use Rattle.dials_kept.specs.Laws.{EachDialsAre}

-- The first frame on a connection keeps them.
abbrev pub FirstsKeepDials : Type 0
FirstsKeepDials = (conn : ℕ) (frame : UpFrame) (l : Layout) (c : CoresState) (m : Machine) (server now : ℕ) (outs : MoveOuts) (written : List Act)
    (new : Machine)
    → Holds l m → IsRun l m.trail → IsRun l new.trail → Mirrors c m → Allowed c (Server server now (data_in.Frame conn frame))
    → ServerGoes m server now (data_in.Frame conn frame) outs written new → link_of (m.site_at server) conn ≡ None → EachDialsAre l new

-- Each move keeps them.
abbrev pub MovesKeepDials : Type 0
MovesKeepDials = (l : Layout) (c : CoresState) (m : Machine) (move : Move) (outs : MoveOuts) (written : List Act) (new : Machine)
    → Holds l m → IsRun l m.trail → IsRun l new.trail → Mirrors c m → Allowed c move → Goes m move outs written new → EachDialsAre l new
