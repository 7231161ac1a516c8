-- The connections of each pair stay as the invariant has them over each move.
use Rattle.std.proofs.Common.{◌≡◌, ℕ, List, Option, Some, None, refl}
use Rattle.plain_orders.specs.declared.act.Act.{Act}
use Rattle.plain_orders.specs.declared.layout.Layout.{Layout}
use Rattle.plain_runs.specs.Run.{IsRun, state_after}
use Rattle.app_job.specs.declared.command.Command.{Command}
use Rattle.app_job.specs.declared.command.Command.TheVariants as commands
use Rattle.ecp_messages.specs.declared.up.UpFrame.{UpFrame}
use Rattle.data_rules.specs.declared.data_in.DataIn.{DataIn}
use Rattle.data_rules.specs.declared.data_in.DataIn.TheVariants as data_in
use Rattle.cluster_runs.specs.CoresState.{CoresState, Linked, app_of_job}
use Rattle.cluster_runs.specs.declared.move_outs.MoveOuts.{MoveOuts}
use Rattle.cluster_runs.specs.declared.moves.Move.{Move}
use Rattle.cluster_runs.specs.declared.moves.Move.TheVariants.{Step, Looked, App, Server, Begin, Halt, Die, Tick}
use Rattle.cluster_runs.specs.Connections.{link_of}
use Rattle.cluster_runs.specs.Goes.{Goes, LookedGoes, ServerGoes}
use Rattle.cluster_runs.specs.Machine.{Machine}
use Rattle.cluster_runs.specs.Mirrors.{Mirrors}
use Rattle.cluster_runs.specs.Moves.{Allowed}
use Rattle.cluster_invariant.specs.Holds.{Holds}
use Rattle.dials_frames.proofs.FramesDials.{dials_kept_by_inputs}
use Rattle.dials_kept.proofs.BeginDials.{dials_kept_by_begin}
use Rattle.dials_kept.proofs.JobDials.{dials_kept_by_job}
use Rattle.dials_kept.proofs.ShortDials.{EachDials, dials_kept_by_die, dials_kept_by_halt, dials_kept_by_look, dials_kept_by_tick}
use Rattle.dials_server.proofs.AcceptedDials.{dials_kept_by_accept}
use Rattle.dials_server.proofs.EndedDials.{dials_kept_by_ending}
use Rattle.dials_server.proofs.FrameKept.{dials_kept_by_frame}
use Rattle.dials_server.proofs.SaveDials.{dials_kept_by_save}
use Rattle.dials_server.proofs.TickDials.{dials_kept_by_server_tick}
use Rattle.dials_firsts.proofs.FirstFrames.{dials_kept_by_first}

-- a look

dials_kept_by_looked : (l : Layout) (m : Machine) (app job line : ℕ) (command : Command) (outs : MoveOuts) (written : List Act) (new : Machine)
    → Holds l m → LookedGoes m app job line command outs written new → EachDials l (state_after l new.trail) new
dials_kept_by_looked l m app job line (commands.Set at value) outs written new h goes = absurd goes
dials_kept_by_looked l m app job line (commands.Kill at) outs written new h goes = absurd goes
dials_kept_by_looked l m app job line (commands.Get at) outs written new h goes = dials_kept_by_look l m app job line at outs written new h goes
dials_kept_by_looked l m app job line (commands.Shape at) outs written new h goes = absurd goes
dials_kept_by_looked l m app job line (commands.Next parent sub) outs written new h goes = absurd goes
dials_kept_by_looked l m app job line (commands.Incr at amount) outs written new h goes = absurd goes
dials_kept_by_looked l m app job line (commands.Lock at mode wait) outs written new h goes = absurd goes
dials_kept_by_looked l m app job line (commands.Unlock at mode at_once) outs written new h goes = absurd goes
dials_kept_by_looked l m app job line commands.Start outs written new h goes = absurd goes
dials_kept_by_looked l m app job line (commands.Commit sync) outs written new h goes = absurd goes
dials_kept_by_looked l m app job line commands.Rollback outs written new h goes = absurd goes
dials_kept_by_looked l m app job line (commands.Sync server) outs written new h goes = absurd goes

-- a step of a data server

dials_kept_by_any_frame : (conn : ℕ) (f : UpFrame) (l : Layout) (c : CoresState) (m : Machine) (server now : ℕ) (outs : MoveOuts) (written : List Act)
    (new : Machine)
    → Holds l m → IsRun l m.trail → IsRun l new.trail → Mirrors c m → Allowed c (Server server now (data_in.Frame conn f))
    → ServerGoes m server now (data_in.Frame conn f) outs written new → (o : Option Linked) → link_of (m.site_at server) conn ≡ o
    → EachDials l (state_after l new.trail) new
dials_kept_by_any_frame conn f l c m server now outs written new h run after_run shows allowed goes None link =
    dials_kept_by_first conn f l c m server now outs written new h run after_run shows allowed goes link
dials_kept_by_any_frame conn f l c m server now outs written new h run after_run shows allowed goes (Some k) link =
    dials_kept_by_frame conn f k l c m server now outs written new h run after_run shows allowed goes link

dials_kept_by_server : (l : Layout) (c : CoresState) (m : Machine) (server now : ℕ) (input : DataIn) (outs : MoveOuts) (written : List Act) (new : Machine)
    → Holds l m → IsRun l m.trail → IsRun l new.trail → Mirrors c m → Allowed c (Server server now input) → ServerGoes m server now input outs written new
    → EachDials l (state_after l new.trail) new
dials_kept_by_server l c m server now (data_in.Frame conn f) outs written new h run after_run shows allowed goes =
    dials_kept_by_any_frame conn f l c m server now outs written new h run after_run shows allowed goes (link_of (m.site_at server) conn) refl
dials_kept_by_server l c m server now (data_in.Connected conn) outs written new h run after_run shows allowed goes =
    dials_kept_by_accept conn l c m server now outs written new h run after_run shows allowed goes
dials_kept_by_server l c m server now (data_in.Broken conn) outs written new h run after_run shows allowed goes =
    dials_kept_by_ending conn l c m server now outs written new h run after_run shows allowed goes
dials_kept_by_server l c m server now data_in.Tick outs written new h run after_run shows allowed goes =
    dials_kept_by_server_tick l c m server now outs written new h run after_run shows allowed goes
dials_kept_by_server l c m server now (data_in.Saved upto) outs written new h run after_run shows allowed goes =
    dials_kept_by_save upto l c m server now outs written new h run after_run shows allowed goes

-- Each move keeps them.
pub dials_stay : (l : Layout) (c : CoresState) (m : Machine) (move : Move) (outs : MoveOuts) (written : List Act) (new : Machine)
    → Holds l m → IsRun l m.trail → IsRun l new.trail → Mirrors c m → Allowed c move → Goes m move outs written new → EachDials l (state_after l new.trail) new
dials_stay l c m (Step job now line command) outs written new h run after_run shows allowed goes =
    dials_kept_by_job l c m job now line command outs written new h run after_run shows allowed goes
dials_stay l c m (Looked job line command) outs written new h run after_run shows allowed goes =
    dials_kept_by_looked l m (app_of_job m.layout job) job line command outs written new h goes
dials_stay l c m (App app now input) outs written new h run after_run shows allowed goes =
    dials_kept_by_inputs l c m app now input outs written new h run shows allowed goes
dials_stay l c m (Server server now input) outs written new h run after_run shows allowed goes =
    dials_kept_by_server l c m server now input outs written new h run after_run shows allowed goes
dials_stay l c m (Begin server now entries) outs written new h run after_run shows allowed goes =
    dials_kept_by_begin l c m server now entries outs written new h run shows allowed goes
dials_stay l c m (Halt server) outs written new h run after_run shows allowed goes = dials_kept_by_halt l m server outs written new h goes
dials_stay l c m (Die app) outs written new h run after_run shows allowed goes = dials_kept_by_die l m app outs written new h goes
dials_stay l c m (Tick now) outs written new h run after_run shows allowed goes = dials_kept_by_tick l m new now outs written h goes
