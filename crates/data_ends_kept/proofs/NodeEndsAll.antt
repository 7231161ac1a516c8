-- The data ends of running nodes stay as the invariant has them over each move.
use Rattle.std.proofs.Common.{List}
use Rattle.plain_orders.specs.declared.act.Act.{Act}
use Rattle.plain_orders.specs.declared.layout.Layout.{Layout}
use Rattle.plain_runs.specs.Run.{IsRun, state_after}
use Rattle.cluster_runs.specs.CoresState.{CoresState, app_of_job}
use Rattle.cluster_runs.specs.declared.move_outs.MoveOuts.{MoveOuts}
use Rattle.cluster_runs.specs.declared.moves.Move.{Move}
use Rattle.cluster_runs.specs.declared.moves.Move.TheVariants.{Step, Looked, App, Server, Begin, Halt, Die, Tick}
use Rattle.cluster_runs.specs.Goes.{Goes}
use Rattle.cluster_runs.specs.Machine.{Machine}
use Rattle.cluster_runs.specs.Mirrors.{Mirrors}
use Rattle.cluster_runs.specs.Moves.{Allowed}
use Rattle.cluster_invariant.specs.Holds.{Holds}
use Rattle.data_ends_kept.proofs.NodeEndsBegin.{node_ends_kept_by_begin}
use Rattle.data_ends_kept.proofs.NodeEndsFrames.{node_ends_kept_by_inputs}
use Rattle.data_ends_kept.proofs.NodeEndsJobs.{node_ends_kept_by_job}
use Rattle.data_ends_kept.proofs.NodeEndsMoves.{NodeEndsHold, node_ends_kept_by_die, node_ends_kept_by_halt, node_ends_kept_by_looked, node_ends_kept_by_tick}
use Rattle.data_ends_kept.proofs.NodeEndsServer.{node_ends_kept_by_server}

pub node_ends_are_kept : (l : Layout) (c : CoresState) (m : Machine) (move : Move) (outs : MoveOuts) (written : List Act) (new : Machine)
    → Holds l m → IsRun l m.trail → Mirrors c m → Allowed c move → Goes m move outs written new → NodeEndsHold l (state_after l new.trail) new
node_ends_are_kept l c m (Step job now line command) outs written new h run shows allowed goes = node_ends_kept_by_job l c m job now line command outs written new h shows allowed goes
node_ends_are_kept l c m (Looked job line command) outs written new h run shows allowed goes = node_ends_kept_by_looked l m (app_of_job m.layout job) job line command outs written new h goes
node_ends_are_kept l c m (App app now input) outs written new h run shows allowed goes = node_ends_kept_by_inputs l c m app now input outs written new h shows allowed goes
node_ends_are_kept l c m (Server server now input) outs written new h run shows allowed goes = node_ends_kept_by_server l c m server now input outs written new h run shows allowed goes
node_ends_are_kept l c m (Begin server now entries) outs written new h run shows allowed goes = node_ends_kept_by_begin l c m server now entries outs written new h run shows allowed goes
node_ends_are_kept l c m (Halt server) outs written new h run shows allowed goes = node_ends_kept_by_halt l m server outs written new h goes
node_ends_are_kept l c m (Die app) outs written new h run shows allowed goes = node_ends_kept_by_die l m app outs written new h goes
node_ends_are_kept l c m (Tick now) outs written new h run shows allowed goes = node_ends_kept_by_tick l m new now outs written h goes
