-- Steps of a data server that keep the connections of each pair, where the invariant holds before them and the trail stays a run.
use Rattle.std.specs.Prelude.{◌≡◌, ℕ, List, Some}
use Rattle.plain_orders.specs.declared.act.Act.{Act}
use Rattle.plain_orders.specs.declared.layout.Layout.{Layout}
use Rattle.plain_runs.specs.Run.{IsRun}
use Rattle.ecp_messages.specs.declared.up.UpFrame.{UpFrame}
use Rattle.data_rules.specs.declared.data_in.DataIn.{DataIn}
use Rattle.data_rules.specs.declared.data_in.DataIn.TheVariants as data_in
use Rattle.cluster_runs.specs.declared.move_outs.MoveOuts.{MoveOuts}
use Rattle.cluster_runs.specs.declared.moves.Move.TheVariants.{Server}
use Rattle.cluster_runs.specs.CoresState.{CoresState, Linked}
use Rattle.cluster_runs.specs.Moves.{Allowed}
use Rattle.cluster_runs.specs.Mirrors.{Mirrors}
use Rattle.cluster_runs.specs.Machine.{Machine}
use Rattle.cluster_runs.specs.Connections.{link_of}
use Rattle.cluster_runs.specs.Goes.{ServerGoes}
use Rattle.cluster_invariant.specs.Holds.{Holds}
use Rattle.dials_kept.specs.Laws.{EachDialsAre}

-- a step of a data server that takes this
abbrev pub StepKeepsDials : DataIn → Type 0
StepKeepsDials input = (l : Layout) (c : CoresState) (m : Machine) (server now : ℕ) (outs : MoveOuts) (written : List Act) (new : Machine)
    → Holds l m → IsRun l m.trail → IsRun l new.trail → Mirrors c m → Allowed c (Server server now input)
    → ServerGoes m server now input outs written new → EachDialsAre l new

-- A connection that comes keeps them.
abbrev pub AcceptsKeepDials : Type 0
AcceptsKeepDials = (conn : ℕ) → StepKeepsDials (data_in.Connected conn)

-- One that ended there does.
abbrev pub EndingsKeepDials : Type 0
EndingsKeepDials = (conn : ℕ) → StepKeepsDials (data_in.Broken conn)

-- A tick does.
abbrev pub ServerTicksKeepDials : Type 0
ServerTicksKeepDials = StepKeepsDials data_in.Tick

-- A save does.
abbrev pub SavesKeepDials : Type 0
SavesKeepDials = (upto : ℕ) → StepKeepsDials (data_in.Saved upto)

-- A frame on a connection of which a first frame was taken does.
abbrev pub FramesKeepDials : Type 0
FramesKeepDials = (conn : ℕ) (frame : UpFrame) (link : Linked) (l : Layout) (c : CoresState) (m : Machine) (server now : ℕ) (outs : MoveOuts) (written : List Act) (new : Machine)
    → Holds l m → IsRun l m.trail → IsRun l new.trail → Mirrors c m → Allowed c (Server server now (data_in.Frame conn frame))
    → ServerGoes m server now (data_in.Frame conn frame) outs written new → link_of (m.site_at server) conn ≡ Some link → EachDialsAre l new
