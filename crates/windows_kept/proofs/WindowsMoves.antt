-- The windows of live sessions that were told are there over each move.
use Rattle.std.proofs.Common.{ℕ, List}
use Rattle.plain_orders.specs.declared.act.Act.{Act}
use Rattle.plain_orders.specs.declared.layout.Layout.{Layout}
use Rattle.plain_runs.specs.Run.{IsRun}
use Rattle.app_job.specs.declared.command.Command.{Command}
use Rattle.app_job.specs.declared.command.Command.TheVariants as commands
use Rattle.cluster_runs.specs.CoresState.{CoresState, app_of_job}
use Rattle.cluster_runs.specs.declared.move_outs.MoveOuts.{MoveOuts}
use Rattle.cluster_runs.specs.declared.moves.Move.{Move}
use Rattle.cluster_runs.specs.declared.moves.Move.TheVariants.{Step, Looked, App, Server, Begin, Halt, Die, Tick}
use Rattle.cluster_runs.specs.Goes.{Goes, LookedGoes}
use Rattle.cluster_runs.specs.Machine.{Machine}
use Rattle.cluster_runs.specs.Mirrors.{Mirrors}
use Rattle.cluster_runs.specs.Moves.{Allowed}
use Rattle.cluster_invariant.specs.Holds.{Holds}
use Rattle.windows_kept.specs.Laws.{EachHasWindows}
use Rattle.windows_kept.proofs.WindowsServer.{windows_kept_by_server}
use Rattle.windows_kept.proofs.WindowsShort.{windows_kept_by_app, windows_kept_by_begin, windows_kept_by_die, windows_kept_by_halt, windows_kept_by_job, windows_kept_by_look, windows_kept_by_tick}

windows_kept_by_looked : (l : Layout) (m : Machine) (app job line : ℕ) (command : Command) (outs : MoveOuts) (written : List Act) (new : Machine)
    → Holds l m → LookedGoes m app job line command outs written new → EachHasWindows new
windows_kept_by_looked l m app job line (commands.Set at value) outs written new h goes = absurd goes
windows_kept_by_looked l m app job line (commands.Kill at) outs written new h goes = absurd goes
windows_kept_by_looked l m app job line (commands.Get at) outs written new h goes = windows_kept_by_look l m app job line at outs written new h goes
windows_kept_by_looked l m app job line (commands.Shape at) outs written new h goes = absurd goes
windows_kept_by_looked l m app job line (commands.Next parent sub) outs written new h goes = absurd goes
windows_kept_by_looked l m app job line (commands.Incr at amount) outs written new h goes = absurd goes
windows_kept_by_looked l m app job line (commands.Lock at mode wait) outs written new h goes = absurd goes
windows_kept_by_looked l m app job line (commands.Unlock at mode at_once) outs written new h goes = absurd goes
windows_kept_by_looked l m app job line commands.Start outs written new h goes = absurd goes
windows_kept_by_looked l m app job line (commands.Commit sync) outs written new h goes = absurd goes
windows_kept_by_looked l m app job line commands.Rollback outs written new h goes = absurd goes
windows_kept_by_looked l m app job line (commands.Sync server) outs written new h goes = absurd goes

pub windows_stay : (l : Layout) (c : CoresState) (m : Machine) (move : Move) (outs : MoveOuts) (written : List Act) (new : Machine)
    → Holds l m → IsRun l m.trail → Mirrors c m → Allowed c move → Goes m move outs written new → EachHasWindows new
windows_stay l c m (Step job now line command) outs written new h run shows allowed goes = windows_kept_by_job l m (app_of_job m.layout job) job now line command outs written new h goes
windows_stay l c m (Looked job line command) outs written new h run shows allowed goes = windows_kept_by_looked l m (app_of_job m.layout job) job line command outs written new h goes
windows_stay l c m (App app now input) outs written new h run shows allowed goes = windows_kept_by_app l m app now input outs written new h goes
windows_stay l c m (Server server now input) outs written new h run shows allowed goes = windows_kept_by_server l c m server now input outs written new h run shows allowed goes
windows_stay l c m (Begin server now entries) outs written new h run shows allowed goes =
    windows_kept_by_begin l c m server now entries outs written new h run shows allowed goes
windows_stay l c m (Halt server) outs written new h run shows allowed goes = windows_kept_by_halt l m server outs written new h goes
windows_stay l c m (Die app) outs written new h run shows allowed goes = windows_kept_by_die l m app outs written new h goes
windows_stay l c m (Tick now) outs written new h run shows allowed goes = windows_kept_by_tick l m new now outs written h goes
