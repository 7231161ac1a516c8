-- The part on what is on its way, for each input of an application server that is no frame.
use Rattle.std.proofs.Common.{ℕ, List}
use Rattle.plain_orders.specs.declared.act.Act.{Act}
use Rattle.plain_orders.specs.declared.layout.Layout.{Layout}
use Rattle.plain_runs.specs.Run.{IsRun}
use Rattle.app_rules.specs.declared.app_in.AppIn.{AppIn}
use Rattle.app_rules.specs.declared.app_in.AppIn.TheVariants as app_in
use Rattle.cluster_runs.specs.CoresState.{CoresState}
use Rattle.cluster_runs.specs.declared.move_outs.MoveOuts.{MoveOuts}
use Rattle.cluster_runs.specs.declared.moves.Move.TheVariants.{App}
use Rattle.cluster_runs.specs.Goes.{AppGoes}
use Rattle.cluster_runs.specs.Machine.{Machine}
use Rattle.cluster_runs.specs.Mirrors.{Mirrors}
use Rattle.cluster_runs.specs.Moves.{Allowed}
use Rattle.cluster_invariant.specs.Holds.{Holds}
use Rattle.link_kept.specs.Laws.{EachLinkHolds}
use Rattle.link_apps.specs.Laws.{IsNoFrame}
use Rattle.link_apps.proofs.DialLinks.{links_kept_by_connected}
use Rattle.link_apps.proofs.RestLinks.{links_kept_by_app_tick, links_kept_by_broken, links_kept_by_join, links_kept_by_no_way}

pub links_kept_by_others : (l : Layout) (c : CoresState) (m : Machine) (app now : ℕ) (input : AppIn) (outs : MoveOuts) (written : List Act) (new : Machine)
    → Holds l m → IsRun l m.trail → Mirrors c m → Allowed c (App app now input) → AppGoes m app now input outs written new → IsNoFrame input → EachLinkHolds l new
links_kept_by_others l c m app now (app_in.Frame d frame) outs written new h run shows allowed goes no_frame = absurd no_frame
links_kept_by_others l c m app now (app_in.Connected d) outs written new h run shows allowed goes no_frame =
    links_kept_by_connected l c m app now d outs written new h run shows allowed goes
links_kept_by_others l c m app now (app_in.NoWay d before later) outs written new h run shows allowed goes no_frame =
    links_kept_by_no_way l c m app now d before later outs written new h run shows allowed goes
links_kept_by_others l c m app now (app_in.Broken d) outs written new h run shows allowed goes no_frame =
    links_kept_by_broken l c m app now d outs written new h run shows allowed goes
links_kept_by_others l c m app now (app_in.Join d) outs written new h run shows allowed goes no_frame =
    links_kept_by_join l c m app now d outs written new h run shows allowed goes
links_kept_by_others l c m app now app_in.Tick outs written new h run shows allowed goes no_frame =
    links_kept_by_app_tick l c m app now outs written new h run shows allowed goes
