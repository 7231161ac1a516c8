-- Steps of application servers that keep what is on its way, where the invariant holds before them.
use Rattle.std.specs.Prelude.{◌≡◌, ◌≢◌, ⊤, ℕ, false, true, List}
use Rattle.plain_orders.specs.declared.act.Act.{Act}
use Rattle.plain_orders.specs.declared.layout.Layout.{Layout}
use Rattle.plain_runs.specs.Run.{IsRun, state_after}
use Rattle.ecp_messages.specs.declared.down.DownFrame.{DownFrame}
use Rattle.app_job.specs.declared.command.Command.{Command}
use Rattle.app_rules.specs.declared.app_in.AppIn.{AppIn}
use Rattle.app_rules.specs.declared.app_in.AppIn.TheVariants as app_in
use Rattle.cluster_runs.specs.CoresState.{CoresState, app_of_job}
use Rattle.cluster_runs.specs.declared.move_outs.MoveOuts.{MoveOuts}
use Rattle.cluster_runs.specs.declared.moves.Move.TheVariants.{App, Step}
use Rattle.cluster_runs.specs.Goes.{AppGoes, JobGoes}
use Rattle.app_rules.specs.Works.{end_at}
use Rattle.cluster_runs.specs.Lanes.{is_told_new}
use Rattle.cluster_runs.specs.Machine.{Machine}
use Rattle.cluster_runs.specs.Mirrors.{Mirrors}
use Rattle.cluster_runs.specs.Moves.{Allowed}
use Rattle.cluster_invariant.specs.Holds.{Holds}
use Rattle.cluster_invariant.specs.Link.{AppWay, LaneCounts, LinkHolds}
use Rattle.link_kept.specs.Laws.{EachLinkHolds}

-- Each command of a job keeps it.
abbrev pub CommandsKeepLinks : Type 0
CommandsKeepLinks = (l : Layout) (c : CoresState) (m : Machine) (job now line : ℕ) (command : Command) (outs : MoveOuts) (written : List Act) (new : Machine)
    → Holds l m → IsRun l m.trail → Mirrors c m → Allowed c (Step job now line command)
    → JobGoes m (app_of_job m.layout job) job now line command outs written new → EachLinkHolds l new

-- an input that is no frame
abbrev pub IsNoFrame : AppIn → Type 0
IsNoFrame (app_in.Frame d frame) = ⊥
IsNoFrame (app_in.Connected d) = ⊤
IsNoFrame (app_in.NoWay d before later) = ⊤
IsNoFrame (app_in.Broken d) = ⊤
IsNoFrame (app_in.Join d) = ⊤
IsNoFrame app_in.Tick = ⊤

-- So does each input of an application server that is no frame: a connection, an attempt that failed, one that ended, a line that joined
-- again, and a tick.
abbrev pub OtherInputsKeepLinks : Type 0
OtherInputsKeepLinks = (l : Layout) (c : CoresState) (m : Machine) (app now : ℕ) (input : AppIn) (outs : MoveOuts) (written : List Act) (new : Machine)
    → Holds l m → IsRun l m.trail → Mirrors c m → Allowed c (App app now input) → AppGoes m app now input outs written new → IsNoFrame input
    → EachLinkHolds l new

-- And each frame by which the end at its data server learns of no order: one that is no Welcome, and the Welcome of the epoch that it was told.
abbrev pub FramesWithoutNewsKeepLinks : Type 0
FramesWithoutNewsKeepLinks = (l : Layout) (c : CoresState) (m : Machine) (app now d : ℕ) (frame : DownFrame) (outs : MoveOuts) (written : List Act) (new : Machine)
    → Holds l m → IsRun l m.trail → Mirrors c m → Allowed c (App app now (app_in.Frame d frame)) → (goes : AppGoes m app now (app_in.Frame d frame) outs written new)
    → is_told_new ((m.site_at d).end_at app).state.session (end_at goes.state d).session ≡ false → EachLinkHolds l new

-- Where the end learns of an order, what is on its way to it is as it has to be.
abbrev pub NewsKeepOwnWay : Type 0
NewsKeepOwnWay = (l : Layout) (c : CoresState) (m : Machine) (app now d : ℕ) (frame : DownFrame) (outs : MoveOuts) (written : List Act) (new : Machine)
    → Holds l m → IsRun l m.trail → Mirrors c m → Allowed c (App app now (app_in.Frame d frame)) → (goes : AppGoes m app now (app_in.Frame d frame) outs written new)
    → is_told_new ((m.site_at d).end_at app).state.session (end_at goes.state d).session ≡ true
    → AppWay ((state_after l new.trail).server_at d) (new.site_at d) app ((new.site_at d).end_at app)

-- And the other data servers keep it.
abbrev pub NewsKeepOtherLinks : Type 0
NewsKeepOtherLinks = (l : Layout) (c : CoresState) (m : Machine) (app now d : ℕ) (frame : DownFrame) (outs : MoveOuts) (written : List Act) (new : Machine)
    → Holds l m → IsRun l m.trail → Mirrors c m → Allowed c (App app now (app_in.Frame d frame)) → (goes : AppGoes m app now (app_in.Frame d frame) outs written new)
    → is_told_new ((m.site_at d).end_at app).state.session (end_at goes.state d).session ≡ true → (k : ℕ) → k ≢ d
    → LinkHolds ((state_after l new.trail).server_at k) (new.site_at k) new.is_dead_at

-- And the lanes at its own count what was put and taken.
abbrev pub NewsKeepLanes : Type 0
NewsKeepLanes = (l : Layout) (c : CoresState) (m : Machine) (app now d : ℕ) (frame : DownFrame) (outs : MoveOuts) (written : List Act) (new : Machine)
    → Holds l m → IsRun l m.trail → Mirrors c m → Allowed c (App app now (app_in.Frame d frame)) → (goes : AppGoes m app now (app_in.Frame d frame) outs written new)
    → is_told_new ((m.site_at d).end_at app).state.session (end_at goes.state d).session ≡ true → (session k : ℕ)
    → LaneCounts ((new.site_at d).lane_at session k)
