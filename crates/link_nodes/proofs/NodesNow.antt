-- Each step of a data server keeps the lanes and the half of a running node.
use Rattle.std.proofs.Common.{ℕ, List, Option, sym, subst}
use Rattle.std.specs.Prelude.{IfSome}
use Rattle.plain_orders.specs.declared.act.Act.{Act}
use Rattle.plain_orders.specs.declared.layout.Layout.{Layout}
use Rattle.plain_runs.specs.Plain.{Server}
use Rattle.plain_runs.specs.Run.{IsRun, after_all, state_after}
use Rattle.data_rules.specs.DataState.{DataState}
use Rattle.data_rules.specs.declared.data_in.DataIn.{DataIn}
use Rattle.cluster_runs.specs.declared.move_outs.MoveOuts.{MoveOuts}
use Rattle.cluster_runs.specs.declared.moves.Move.TheVariants.{Server as ServerMove}
use Rattle.cluster_runs.specs.CoresState.{CoresState}
use Rattle.cluster_runs.specs.Goes.{ServerGoes, server_site}
use Rattle.cluster_runs.specs.Machine.{Machine, Site}
use Rattle.cluster_runs.specs.Mirrors.{Mirrors}
use Rattle.cluster_runs.specs.Moves.{Allowed}
use Rattle.cluster_invariant.specs.Holds.{Holds}
use Rattle.cluster_invariant.specs.Link.{NodeLink}
use Rattle.cluster_invariant.proofs.OrderKept.{step_site}
use Rattle.cluster_invariant.proofs.OrderMoves.{server_wrote}
use Rattle.cluster_invariant.proofs.SiteMoves.{kept_at_one}
use Rattle.link_kept.proofs.FitsWell.{may_close}
use Rattle.link_kept.proofs.ServesServer.{ServesAfter}
use Rattle.link_nodes.proofs.RepliesNow.{dials_after}
use Rattle.link_nodes.proofs.ServedNow.{left}
use Rattle.link_nodes.proofs.ServedSteps as served
use Rattle.link_nodes.proofs.StepGreets.{greets_now}
use Rattle.link_nodes.proofs.StepReplies.{replies_now}
use Rattle.link_nodes.proofs.StepUps.{ups_now}
use Rattle.link_nodes.specs.Laws.{NodeStands, RepliesWait}

module _ (l : Layout) (c : CoresState) (m : Machine) (server now : ℕ) (input : DataIn) (outs : MoveOuts) (written : List Act) (new : Machine)
    (h : Holds l m) (run : IsRun l m.trail) (after_run : IsRun l new.trail) (shows : Mirrors c m) (allowed : Allowed c (ServerMove server now input))
    (goes : ServerGoes m server now input outs written new) where
  abbrev y : Site
  y = server_site goes.node now input goes.data_outs goes.state (m.site_at server)

  abbrev w : Server
  w = (after_all l (state_after l m.trail) written).server_at server

  after : ServesAfter goes.node goes.state (m.site_at server) y (may_close input)
  after = (served.served_by_step l c m server now input outs written new h run shows allowed goes (left l c m server now input outs written new h run shows allowed goes) (λ b. Unit {0}) (λ q b made_so well k g. tt) tt).0

  replies : RepliesWait w y goes.state
  replies = replies_now l c m server now input outs written new h run shows allowed goes (dials_after l c m server now input outs written new h run after_run shows allowed goes)

  node_link : NodeLink w y m.is_dead_at goes.state
  node_link = record {
    windows = after.windows.windows;
    ups = ups_now l c m server now input outs written new h run shows allowed goes (dials_after l c m server now input outs written new h run after_run shows allowed goes);
    greets = greets_now l c m server now input outs written new h run after_run shows allowed goes (dials_after l c m server now input outs written new h run after_run shows allowed goes);
    replies = replies.each;
    one_each = replies.one_each;
    serves = served.serves_now l c m server now input outs written new h run shows allowed goes (left l c m server now input outs written new h run shows allowed goes);
  }

  pub nodes_are_kept : (d : ℕ) → NodeStands ((state_after l new.trail).server_at d) (new.site_at d) new.is_dead_at
  nodes_are_kept =
      kept_at_one (λ dead d v x. NodeStands v x dead) l m new server (server_site goes.node now input goes.data_outs goes.state) written
      (λ d. record { lanes = (h.sites d).link.lanes; node = (h.sites d).link.node }) goes.after
      (server_wrote l c m server now input outs written new h run shows allowed goes).others
      (record {
        lanes = after.windows.lanes;
        node = subst (λ (o : Option DataState). IfSome o (NodeLink w y m.is_dead_at)) (sym (step_site goes.node now input goes.data_outs goes.state (m.site_at server)).node) node_link;
      })
