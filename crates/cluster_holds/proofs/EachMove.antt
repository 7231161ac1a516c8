-- Each move keeps the whole invariant, by its parts.
use Rattle.std.proofs.Common.{ℕ, List}
use Rattle.plain_orders.specs.declared.act.Act.{Act}
use Rattle.plain_orders.specs.declared.layout.Layout.{Layout}
use Rattle.plain_runs.specs.Run.{IsRun, state_after}
use Rattle.app_job.specs.declared.command.Command.{Command}
use Rattle.app_job.specs.declared.command.Command.TheVariants as commands
use Rattle.cluster_runs.specs.declared.move_outs.MoveOuts.{MoveOuts}
use Rattle.cluster_runs.specs.declared.moves.Move.{Move}
use Rattle.cluster_runs.specs.declared.moves.Move.TheVariants.{Step, Looked, App, Server, Begin, Halt, Die, Tick}
use Rattle.cluster_runs.specs.CoresState.{CoresState, app_of_job}
use Rattle.cluster_runs.specs.Goes.{Goes, LookedGoes}
use Rattle.cluster_runs.specs.Machine.{Machine}
use Rattle.cluster_runs.specs.Mirrors.{Mirrors}
use Rattle.cluster_runs.specs.Moves.{Allowed, LookMayBe}
use Rattle.cluster_invariant.specs.Commands.{CommandsHold}
use Rattle.cluster_invariant.specs.Holds.{Holds}
use Rattle.cluster_invariant.proofs.OrdersStay.{orders_agree}
use Rattle.ends_kept.proofs.OrdersKept.{orders_are_kept}
use Rattle.told_kept.proofs.TablesAll.{tables_are_kept}
use Rattle.told_kept.proofs.ToldMoves.{told_is_kept}
use Rattle.data_ends_kept.proofs.NodeEndsAll.{node_ends_are_kept}
use Rattle.data_ends_kept.proofs.Unopened.{unopened_is_kept}
use Rattle.dials_firsts.proofs.DialsMoves.{dials_stay}
use Rattle.link_kept.specs.Laws.{EachLinkHolds}
use Rattle.link_kept.proofs.ShortMoves.{link_kept_by_die, link_kept_by_halt, link_kept_by_look, link_kept_by_tick}
use Rattle.link_kept.proofs.StartsKept.{link_kept_by_start}
use Rattle.link_apps.proofs.CommandLinks.{links_kept_by_job}
use Rattle.link_news.proofs.NewsKept.{links_kept_by_inputs}
use Rattle.link_steps.proofs.LinksKept.{links_are_kept}
use Rattle.coherence_moves.proofs.CoherenceMoves.{puts_kept_by_moves}
use Rattle.fronts_kept.proofs.FrontsMoves.{fronts_stay}
use Rattle.rounds_server.proofs.RoundsMoves.{rounds_kept_by_moves}
use Rattle.windows_kept.proofs.WindowsMoves.{windows_stay}
use Rattle.asks_moves.specs.Laws.{EachAsksHold}
use Rattle.asks_moves.proofs.AsksApps.{asks_kept_by_app}
use Rattle.asks_moves.proofs.AsksJobs.{asks_kept_by_job}
use Rattle.asks_moves.proofs.AsksServer.{asks_kept_by_server}
use Rattle.asks_moves.proofs.AsksShort.{asks_kept_by_begin, asks_kept_by_die, asks_kept_by_halt, asks_kept_by_look, asks_kept_by_tick}
use Rattle.commands_kept.proofs.CommandsApps.{commands_kept_by_app}
use Rattle.commands_kept.proofs.CommandsJobs.{commands_kept_by_job}
use Rattle.commands_kept.proofs.CommandsShort.{commands_kept_by_begin, commands_kept_by_die, commands_kept_by_halt, commands_kept_by_look, commands_kept_by_server, commands_kept_by_tick}
use Rattle.cluster_holds.proofs.Times.{TimesHold, times_stay}

-- what is on its way

looked_links : (l : Layout) (c : CoresState) (m : Machine) (app job line : ℕ) (command : Command) (outs : MoveOuts) (written : List Act) (new : Machine)
    → Holds l m → IsRun l m.trail → Mirrors c m → LookMayBe c job line command → LookedGoes m app job line command outs written new → EachLinkHolds l new
looked_links l c m app job line (commands.Set at value) outs written new h run shows may goes = absurd goes
looked_links l c m app job line (commands.Kill at) outs written new h run shows may goes = absurd goes
looked_links l c m app job line (commands.Get at) outs written new h run shows may goes = link_kept_by_look l m app job line at outs written new h (λ d. orders_agree l m.trail d run) goes
looked_links l c m app job line (commands.Shape at) outs written new h run shows may goes = absurd goes
looked_links l c m app job line (commands.Next parent sub) outs written new h run shows may goes = absurd goes
looked_links l c m app job line (commands.Incr at amount) outs written new h run shows may goes = absurd goes
looked_links l c m app job line (commands.Lock at mode wait) outs written new h run shows may goes = absurd goes
looked_links l c m app job line (commands.Unlock at mode at_once) outs written new h run shows may goes = absurd goes
looked_links l c m app job line commands.Start outs written new h run shows may goes = absurd goes
looked_links l c m app job line (commands.Commit sync) outs written new h run shows may goes = absurd goes
looked_links l c m app job line commands.Rollback outs written new h run shows may goes = absurd goes
looked_links l c m app job line (commands.Sync server) outs written new h run shows may goes = absurd goes

pub links_stay : (l : Layout) (c : CoresState) (m : Machine) (move : Move) (outs : MoveOuts) (written : List Act) (new : Machine)
    → Holds l m → IsRun l m.trail → IsRun l new.trail → Mirrors c m → Allowed c move → Goes m move outs written new → EachLinkHolds l new
links_stay l c m (Step job now line command) outs written new h run after shows allowed goes =
    links_kept_by_job l c m job now line command outs written new h run shows allowed goes
links_stay l c m (Looked job line command) outs written new h run after shows allowed goes =
    looked_links l c m (app_of_job m.layout job) job line command outs written new h run shows allowed goes
links_stay l c m (App app now input) outs written new h run after shows allowed goes =
    links_kept_by_inputs l c m app now input outs written new h run shows allowed goes
links_stay l c m (Server server now input) outs written new h run after shows allowed goes =
    links_are_kept l c m server now input outs written new h run after shows allowed goes
links_stay l c m (Begin server now entries) outs written new h run after shows allowed goes =
    link_kept_by_start l c m server now entries outs written new h run shows allowed goes
links_stay l c m (Halt server) outs written new h run after shows allowed goes =
    link_kept_by_halt l m server outs written new h (λ d. orders_agree l m.trail d run) goes
links_stay l c m (Die app) outs written new h run after shows allowed goes =
    link_kept_by_die l m app outs written new h (λ d. orders_agree l m.trail d run) goes
links_stay l c m (Tick now) outs written new h run after shows allowed goes =
    link_kept_by_tick l m new now outs written h goes

-- requests for locks

looked_asks : (l : Layout) (c : CoresState) (m : Machine) (app job line : ℕ) (command : Command) (outs : MoveOuts) (written : List Act) (new : Machine)
    → Holds l m → IsRun l m.trail → Mirrors c m → LookMayBe c job line command → LookedGoes m app job line command outs written new → EachAsksHold new
looked_asks l c m app job line (commands.Set at value) outs written new h run shows may goes = absurd goes
looked_asks l c m app job line (commands.Kill at) outs written new h run shows may goes = absurd goes
looked_asks l c m app job line (commands.Get at) outs written new h run shows may goes = asks_kept_by_look l m app job line at outs written new h goes
looked_asks l c m app job line (commands.Shape at) outs written new h run shows may goes = absurd goes
looked_asks l c m app job line (commands.Next parent sub) outs written new h run shows may goes = absurd goes
looked_asks l c m app job line (commands.Incr at amount) outs written new h run shows may goes = absurd goes
looked_asks l c m app job line (commands.Lock at mode wait) outs written new h run shows may goes = absurd goes
looked_asks l c m app job line (commands.Unlock at mode at_once) outs written new h run shows may goes = absurd goes
looked_asks l c m app job line commands.Start outs written new h run shows may goes = absurd goes
looked_asks l c m app job line (commands.Commit sync) outs written new h run shows may goes = absurd goes
looked_asks l c m app job line commands.Rollback outs written new h run shows may goes = absurd goes
looked_asks l c m app job line (commands.Sync server) outs written new h run shows may goes = absurd goes

pub asks_stay : (l : Layout) (c : CoresState) (m : Machine) (move : Move) (outs : MoveOuts) (written : List Act) (new : Machine)
    → Holds l m → IsRun l m.trail → Mirrors c m → Allowed c move → Goes m move outs written new → EachAsksHold new
asks_stay l c m (Step job now line command) outs written new h run shows allowed goes =
    asks_kept_by_job l c m job now line command outs written new h run shows allowed goes
asks_stay l c m (Looked job line command) outs written new h run shows allowed goes =
    looked_asks l c m (app_of_job m.layout job) job line command outs written new h run shows allowed goes
asks_stay l c m (App app now input) outs written new h run shows allowed goes =
    asks_kept_by_app l c m app now input outs written new h run shows allowed goes
asks_stay l c m (Server server now input) outs written new h run shows allowed goes =
    asks_kept_by_server l c m server now input outs written new h run shows allowed goes
asks_stay l c m (Begin server now entries) outs written new h run shows allowed goes =
    asks_kept_by_begin l c m server now entries outs written new h run shows allowed goes
asks_stay l c m (Halt server) outs written new h run shows allowed goes =
    asks_kept_by_halt l m server outs written new h goes
asks_stay l c m (Die app) outs written new h run shows allowed goes =
    asks_kept_by_die l m app outs written new h goes
asks_stay l c m (Tick now) outs written new h run shows allowed goes =
    asks_kept_by_tick l m new now outs written h goes

-- the commands that they are of

looked_commands : (l : Layout) (c : CoresState) (m : Machine) (app job line : ℕ) (command : Command) (outs : MoveOuts) (written : List Act) (new : Machine)
    → Holds l m → IsRun l m.trail → Mirrors c m → LookMayBe c job line command → LookedGoes m app job line command outs written new → CommandsHold new
looked_commands l c m app job line (commands.Set at value) outs written new h run shows may goes = absurd goes
looked_commands l c m app job line (commands.Kill at) outs written new h run shows may goes = absurd goes
looked_commands l c m app job line (commands.Get at) outs written new h run shows may goes = commands_kept_by_look l c m app job line at outs written new h shows may goes
looked_commands l c m app job line (commands.Shape at) outs written new h run shows may goes = absurd goes
looked_commands l c m app job line (commands.Next parent sub) outs written new h run shows may goes = absurd goes
looked_commands l c m app job line (commands.Incr at amount) outs written new h run shows may goes = absurd goes
looked_commands l c m app job line (commands.Lock at mode wait) outs written new h run shows may goes = absurd goes
looked_commands l c m app job line (commands.Unlock at mode at_once) outs written new h run shows may goes = absurd goes
looked_commands l c m app job line commands.Start outs written new h run shows may goes = absurd goes
looked_commands l c m app job line (commands.Commit sync) outs written new h run shows may goes = absurd goes
looked_commands l c m app job line commands.Rollback outs written new h run shows may goes = absurd goes
looked_commands l c m app job line (commands.Sync server) outs written new h run shows may goes = absurd goes

pub commands_stay : (l : Layout) (c : CoresState) (m : Machine) (move : Move) (outs : MoveOuts) (written : List Act) (new : Machine)
    → Holds l m → IsRun l m.trail → Mirrors c m → Allowed c move → Goes m move outs written new → CommandsHold new
commands_stay l c m (Step job now line command) outs written new h run shows allowed goes =
    commands_kept_by_job l c m job now line command outs written new h run shows allowed goes
commands_stay l c m (Looked job line command) outs written new h run shows allowed goes =
    looked_commands l c m (app_of_job m.layout job) job line command outs written new h run shows allowed goes
commands_stay l c m (App app now input) outs written new h run shows allowed goes =
    commands_kept_by_app l c m app now input outs written new h run shows allowed goes
commands_stay l c m (Server server now input) outs written new h run shows allowed goes =
    commands_kept_by_server l c m server now input outs written new h run shows allowed goes
commands_stay l c m (Begin server now entries) outs written new h run shows allowed goes =
    commands_kept_by_begin l c m server now entries outs written new h run shows allowed goes
commands_stay l c m (Halt server) outs written new h run shows allowed goes =
    commands_kept_by_halt l m server outs written new h goes
commands_stay l c m (Die app) outs written new h run shows allowed goes =
    commands_kept_by_die l m app outs written new h goes
commands_stay l c m (Tick now) outs written new h run shows allowed goes =
    commands_kept_by_tick l m new now outs written h goes

-- Each move keeps all parts.
pub holds_stays : (l : Layout) (c : CoresState) (m : Machine) (move : Move) (outs : MoveOuts) (written : List Act) (new : Machine)
    → Holds l m → IsRun l m.trail → IsRun l new.trail → Mirrors c m → Allowed c move → Goes m move outs written new → Holds l new
holds_stays l c m move outs written new h run after shows allowed goes = record {
  layout = times.layout;
  clock = times.clock;
  died = times.died;
  sites = λ d. record {
    order = orders_are_kept l c m move outs written new h run shows allowed goes d;
    ends = record {
      tables = λ app alive. tables_are_kept l c m move outs written new h run shows allowed goes d app alive;
      told = λ app alive. told_is_kept l c m move outs written new h run shows allowed goes d app alive;
      node = node_ends_are_kept l c m move outs written new h run shows allowed goes d;
      unopened = unopened_is_kept l c m move outs written new h run shows allowed goes d;
    };
    dials = dials_stay l c m move outs written new h run after shows allowed goes d;
    link = links_stay l c m move outs written new h run after shows allowed goes d;
    coherence = puts_kept_by_moves l c m move outs written new h run after shows allowed goes d;
    fronts = fronts_stay l c m move outs written new h run shows allowed goes d;
    rounds = rounds_kept_by_moves l c m move outs written new h run shows allowed goes d;
    windows = windows_stay l c m move outs written new h run shows allowed goes d;
    asks = asks_stay l c m move outs written new h run shows allowed goes d;
  };
  commands = commands_stay l c m move outs written new h run shows allowed goes;
}
  where
    times : TimesHold l new
    times = times_stay l c m move outs written new h run shows allowed goes
