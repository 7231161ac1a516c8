-- What was put stays coherent over each move.
use Rattle.std.proofs.Common.{ℕ, List}
use Rattle.plain_orders.specs.declared.act.Act.{Act}
use Rattle.plain_orders.specs.declared.layout.Layout.{Layout}
use Rattle.plain_runs.specs.Run.{IsRun}
use Rattle.app_job.specs.declared.command.Command.{Command}
use Rattle.app_job.specs.declared.command.Command.TheVariants as commands
use Rattle.cluster_runs.specs.CoresState.{CoresState, app_of_job}
use Rattle.cluster_runs.specs.declared.move_outs.MoveOuts.{MoveOuts}
use Rattle.cluster_runs.specs.declared.moves.Move.{Move}
use Rattle.cluster_runs.specs.declared.moves.Move.TheVariants.{Step, Looked, App, Server, Begin, Halt, Die, Tick}
use Rattle.cluster_runs.specs.Goes.{Goes, LookedGoes}
use Rattle.cluster_runs.specs.Machine.{Machine}
use Rattle.cluster_runs.specs.Mirrors.{Mirrors}
use Rattle.cluster_runs.specs.Moves.{Allowed}
use Rattle.cluster_invariant.specs.Holds.{Holds}
use Rattle.coherence_kept.proofs.BeginMoves.{coherence_kept_by_begin}
use Rattle.coherence_kept.proofs.CoherenceApps.{puts_kept_by_app}
use Rattle.coherence_kept.proofs.CoherenceJobs.{puts_kept_by_job}
use Rattle.coherence_kept.proofs.ShortMoves.{PutsCoherent, coherence_kept_by_die, coherence_kept_by_halt, coherence_kept_by_look, coherence_kept_by_tick}
use Rattle.coherence_moves.proofs.CoherenceServer.{puts_kept_by_server}

-- only a get is looked at
puts_kept_by_looked : (l : Layout) (m : Machine) (app job line : ℕ) (command : Command) (outs : MoveOuts) (written : List Act) (new : Machine)
    → Holds l m → LookedGoes m app job line command outs written new → PutsCoherent l new
puts_kept_by_looked l m app job line (commands.Set at value) outs written new h goes = absurd goes
puts_kept_by_looked l m app job line (commands.Kill at) outs written new h goes = absurd goes
puts_kept_by_looked l m app job line (commands.Get at) outs written new h goes = coherence_kept_by_look l m app job line at outs written new h goes
puts_kept_by_looked l m app job line (commands.Shape at) outs written new h goes = absurd goes
puts_kept_by_looked l m app job line (commands.Next parent sub) outs written new h goes = absurd goes
puts_kept_by_looked l m app job line (commands.Incr at amount) outs written new h goes = absurd goes
puts_kept_by_looked l m app job line (commands.Lock at mode wait) outs written new h goes = absurd goes
puts_kept_by_looked l m app job line (commands.Unlock at mode at_once) outs written new h goes = absurd goes
puts_kept_by_looked l m app job line commands.Start outs written new h goes = absurd goes
puts_kept_by_looked l m app job line (commands.Commit sync) outs written new h goes = absurd goes
puts_kept_by_looked l m app job line commands.Rollback outs written new h goes = absurd goes
puts_kept_by_looked l m app job line (commands.Sync server) outs written new h goes = absurd goes

-- Each move keeps it.
pub puts_kept_by_moves : (l : Layout) (c : CoresState) (m : Machine) (move : Move) (outs : MoveOuts) (written : List Act) (new : Machine)
    → Holds l m → IsRun l m.trail → IsRun l new.trail → Mirrors c m → Allowed c move → Goes m move outs written new → PutsCoherent l new
puts_kept_by_moves l c m (Step job now line command) outs written new h run after shows allowed goes =
    puts_kept_by_job l c m job now line command outs written new h run shows allowed goes
puts_kept_by_moves l c m (Looked job line command) outs written new h run after shows allowed goes =
    puts_kept_by_looked l m (app_of_job m.layout job) job line command outs written new h goes
puts_kept_by_moves l c m (App app now input) outs written new h run after shows allowed goes =
    puts_kept_by_app l c m app now input outs written new h run shows allowed goes
puts_kept_by_moves l c m (Server server now input) outs written new h run after shows allowed goes =
    puts_kept_by_server l c m server now input outs written new h run after shows allowed goes
puts_kept_by_moves l c m (Begin server now entries) outs written new h run after shows allowed goes =
    coherence_kept_by_begin l c m server now entries outs written new h run shows allowed goes
puts_kept_by_moves l c m (Halt server) outs written new h run after shows allowed goes = coherence_kept_by_halt l m server outs written new h goes
puts_kept_by_moves l c m (Die app) outs written new h run after shows allowed goes = coherence_kept_by_die l m app outs written new h goes
puts_kept_by_moves l c m (Tick now) outs written new h run after shows allowed goes = coherence_kept_by_tick l m new now outs written h goes
