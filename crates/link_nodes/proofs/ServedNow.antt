-- The lanes, the windows, and what a data server has of its sessions after each of its steps, from the invariant alone.
use Rattle.std.proofs.Common.{◌≡◌, ℕ, true, List, Option, Some, None, sym, subst}
use Rattle.std.specs.Prelude.{IfSome}
use Rattle.plain_orders.specs.declared.act.Act.{Act}
use Rattle.plain_orders.specs.declared.layout.Layout.{Layout}
use Rattle.plain_orders.specs.Entries.{live}
use Rattle.plain_runs.specs.Run.{IsRun, state_after}
use Rattle.lock_table.specs.declared.rows.Request.{Request}
use Rattle.data_rules.specs.DataState.{DataState}
use Rattle.data_rules.specs.declared.data_in.DataIn.{DataIn}
use Rattle.cluster_runs.specs.declared.move_outs.MoveOuts.{MoveOuts}
use Rattle.cluster_runs.specs.declared.moves.Move.TheVariants.{Server as ServerMove}
use Rattle.cluster_runs.specs.CoresState.{CoresState}
use Rattle.cluster_runs.specs.Moves.{Allowed}
use Rattle.cluster_runs.specs.Mirrors.{Mirrors}
use Rattle.cluster_runs.specs.Machine.{Machine, Site}
use Rattle.cluster_runs.specs.Goes.{ServerGoes, server_site}
use Rattle.cluster_invariant.specs.Asks.{NodeAsks}
use Rattle.cluster_invariant.specs.Holds.{Holds}
use Rattle.cluster_invariant.specs.Link.{NodeLink, NodeWindows}
use Rattle.cluster_invariant.specs.Served.{IsServed, NodeServes}
use Rattle.cluster_invariant.proofs.AllLists.{all_follow}
use Rattle.cluster_invariant.proofs.OrderKept.{step_site}
use Rattle.cluster_invariant.proofs.OrderMoves.{server_wrote}
use Rattle.cluster_invariant.proofs.SiteMoves.{kept_at_one}
use Rattle.cluster_invariant.proofs.Small.{of_some}
use Rattle.asks_kept.proofs.AsksFit.{asks_fit, cancels_fit, claims_fit}
use Rattle.data_ends_kept.proofs.NodeEndsServer as ends
use Rattle.link_kept.proofs.CloseRequests.{AskersLive}
use Rattle.link_kept.proofs.FitsWell.{may_close}
use Rattle.link_kept.proofs.ServesServer.{ServesAfter}
use Rattle.link_nodes.proofs.ServedSteps.{AsksLeft, lane_of, served_by_step, serves_now, t}
use Rattle.link_nodes.specs.Laws.{LanesServed}

module _ (l : Layout) (c : CoresState) (m : Machine) (server now : ℕ) (input : DataIn) (outs : MoveOuts) (written : List Act) (new : Machine)
    (h : Holds l m) (run : IsRun l m.trail) (shows : Mirrors c m) (allowed : Allowed c (ServerMove server now input)) (goes : ServerGoes m server now input outs written new) where
  abbrev x : Site
  x = m.site_at server

  abbrev y : Site
  y = server_site goes.node now input goes.data_outs goes.state (m.site_at server)

  node : NodeLink ((state_after l m.trail).server_at server) (m.site_at server) m.is_dead_at goes.node
  node = ends.link l c m server now input outs written new h run shows allowed goes

  asks : NodeAsks (λ s. (m.site_at server).lane_at s (m.site_at server).past) goes.node
  asks = of_some (NodeAsks (λ s. (m.site_at server).lane_at s (m.site_at server).past)) (m.site_at server).node goes.node goes.runs (h.sites server).asks.node

  askers : AskersLive goes.node
  askers =
      all_follow (λ (r : Request). IsServed (m.site_at server) goes.node r.who.session) (λ (r : Request). live goes.node.order r.who.session ≡ true) (λ r is. is.lives)
      goes.node.locks.requests node.serves.requests

  pub left : AsksLeft (lane_of l c m server now input outs written new h run shows allowed goes) (t l c m server now input outs written new h run shows allowed goes)
  left = record {
    asks = λ r b may. asks_fit (m.site_at server) m.is_dead_at (record { old = goes.node; now = now; input = input })
        (ends.at_frame l c m server now input outs written new h run shows allowed goes) (h.sites server).asks.lanes asks r b may;
    claims = λ who key mode number at b may. claims_fit (m.site_at server) m.is_dead_at (record { old = goes.node; now = now; input = input })
        (ends.at_frame l c m server now input outs written new h run shows allowed goes) (h.sites server).asks.lanes asks who mode number at key b may.asked;
    cancels = λ r b served may. cancels_fit (m.site_at server) m.is_dead_at (record { old = goes.node; now = now; input = input })
        (ends.at_frame l c m server now input outs written new h run shows allowed goes) (h.sites server).asks.lanes asks r b askers served.waits may;
  }

  after : ServesAfter goes.node goes.state (m.site_at server) y (may_close input)
  after = (served_by_step l c m server now input outs written new h run shows allowed goes left (λ b. Unit {0}) (λ q b made well k g. tt) tt).0

  here : LanesServed y
  here = record {
    lanes = after.windows.lanes;
    windows = subst (λ o. IfSome o (NodeWindows y)) (sym (step_site goes.node now input goes.data_outs goes.state (m.site_at server)).node) after.windows.windows;
    serves =
        subst (λ o. IfSome o (NodeServes y)) (sym (step_site goes.node now input goes.data_outs goes.state (m.site_at server)).node)
        (serves_now l c m server now input outs written new h run shows allowed goes left);
  }

  pub served_is_kept : (d : ℕ) → LanesServed (new.site_at d)
  served_is_kept =
      kept_at_one (λ dead d v z. LanesServed z) l m new server (server_site goes.node now input goes.data_outs goes.state) written
      (λ d. record {
        lanes = (h.sites d).link.lanes;
        windows = some_of (m.site_at d).node (NodeLink ((state_after l m.trail).server_at d) (m.site_at d) m.is_dead_at) (NodeWindows (m.site_at d)) (λ n is. is.windows) (h.sites d).link.node;
        serves = some_of (m.site_at d).node (NodeLink ((state_after l m.trail).server_at d) (m.site_at d) m.is_dead_at) (NodeServes (m.site_at d)) (λ n is. is.serves) (h.sites d).link.node;
      })
      goes.after (server_wrote l c m server now input outs written new h run shows allowed goes).others here
    where
      some_of : (o : Option DataState) (P Q : DataState → Type 0) → ((n : DataState) → P n → Q n) → IfSome o P → IfSome o Q
      some_of None P Q f is = tt
      some_of (Some n) P Q f is = f n is
