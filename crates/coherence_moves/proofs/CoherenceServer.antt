-- Each step of a data server keeps what was put to its sessions coherent.
use Rattle.std.proofs.Common.{◌≡◌, ℕ, List, true, sym, ◌∙◌, ap, subst}
use Rattle.plain_orders.specs.declared.act.Act.{Act}
use Rattle.plain_orders.specs.declared.layout.Layout.{Layout}
use Rattle.plain_orders.specs.Entries.{live}
use Rattle.plain_runs.specs.Run.{IsRun}
use Rattle.lock_table.specs.declared.rows.Request.{Request}
use Rattle.data_rules.specs.DataState.{DataState}
use Rattle.data_rules.specs.declared.data_in.DataIn.{DataIn}
use Rattle.data_rules.specs.Step.{made}
use Rattle.cluster_runs.specs.declared.move_outs.MoveOuts.{MoveOuts}
use Rattle.cluster_runs.specs.declared.moves.Move.TheVariants.{Server as ServerMove}
use Rattle.cluster_runs.specs.CoresState.{CoresState}
use Rattle.cluster_runs.specs.Goes.{ServerGoes, server_site}
use Rattle.cluster_runs.specs.Machine.{Machine, Site}
use Rattle.cluster_runs.specs.Mirrors.{Mirrors}
use Rattle.cluster_runs.specs.Moves.{Allowed}
use Rattle.cluster_runs.specs.Sent.{Lane}
use Rattle.cluster_invariant.specs.Asks.{NodeAsks}
use Rattle.cluster_invariant.specs.Holds.{Holds}
use Rattle.cluster_invariant.specs.Served.{IsServed, NodeServes}
use Rattle.cluster_invariant.proofs.AllLists.{all_follow}
use Rattle.cluster_invariant.proofs.PieceMay.{AskersLive, Coming}
use Rattle.cluster_invariant.proofs.Small.{of_some, put_same}
use Rattle.data_ends_kept.proofs.NodeEndsServer as ends
use Rattle.link_kept.proofs.FitsWell.{may_close}
use Rattle.link_kept.proofs.FramesFit.{FrameAt}
use Rattle.link_kept.proofs.ServesServer.{ServesAfter}
use Rattle.asks_kept.proofs.AsksFit.{asks_fit, cancels_fit, claims_fit}
use Rattle.link_nodes.proofs.ServedSteps.{AsksLeft, served_by_step}
use Rattle.coherence_kept.proofs.ShortMoves.{PutsCoherent}
use Rattle.coherence_server.proofs.CoherentSteps.{HeldSo, coherence_kept_by_serving, held_begin, held_so}

module _ (l : Layout) (c : CoresState) (m : Machine) (server now : ℕ) (input : DataIn) (outs : MoveOuts) (written : List Act) (new : Machine) (h : Holds l m)
    (run : IsRun l m.trail) (after_run : IsRun l new.trail) (shows : Mirrors c m) (allowed : Allowed c (ServerMove server now input))
    (goes : ServerGoes m server now input outs written new) where
  abbrev x : Site
  x = m.site_at server

  abbrev old : DataState
  old = goes.node

  abbrev t : Coming
  t = record { old = goes.node; now = now; input = input }

  abbrev lane_of : ℕ → Lane
  lane_of s = x.lane_at s x.past

  at_frame : FrameAt x m.is_dead_at old input
  at_frame = ends.at_frame l c m server now input outs written new h run shows allowed goes

  serves : NodeServes x old
  serves = (ends.link l c m server now input outs written new h run shows allowed goes).serves

  node : NodeAsks lane_of old
  node = of_some (NodeAsks lane_of) x.node old goes.runs (h.sites server).asks.node

  askers : AskersLive old
  askers =
      all_follow (λ (r : Request). IsServed x old r.who.session) (λ (r : Request). live old.order r.who.session ≡ true)
      (λ r is. is.lives) old.locks.requests serves.requests

  -- what it asks of its table of locks fits
  left : AsksLeft lane_of t
  left = record {
    asks = λ r b asked. asks_fit x m.is_dead_at t at_frame (h.sites server).asks.lanes node r b asked;
    claims = λ w key mode number at b may. claims_fit x m.is_dead_at t at_frame (h.sites server).asks.lanes node w mode number at key b may.asked;
    cancels = λ r b goes_on may. cancels_fit x m.is_dead_at t at_frame (h.sites server).asks.lanes node r b askers goes_on.waits may;
  }

  site : new.site_at server ≡ server_site old now input goes.data_outs goes.state x
  site =
      ap (λ (n : Machine). n.site_at server) goes.after ∙ put_same m.site_at server (server_site old now input goes.data_outs goes.state x)

  abbrev Held : Type 0
  Held = HeldSo l c m server now input outs written new h run after_run shows allowed goes (made goes.state goes.data_outs)

  served : ServesAfter old goes.state x (server_site old now input goes.data_outs goes.state x) (may_close input) × Held
  served =
      go
      (served_by_step l c m server now input outs written new h run shows allowed goes left
      (HeldSo l c m server now input outs written new h run after_run shows allowed goes)
      (λ q b may well known g. held_so l c m server now input outs written new h run after_run shows allowed goes q b may well g)
      (held_begin l c m server now input outs written new h run after_run shows allowed goes))
    where
      go : {K : Type 0} → ServesAfter old goes.state x (server_site old now input goes.data_outs goes.state x) (may_close input) × (K × Held)
          → ServesAfter old goes.state x (server_site old now input goes.data_outs goes.state x) (may_close input) × Held
      go both = (both.0, both.1.1)

  -- So what was put stays coherent.
  pub puts_kept_by_server : PutsCoherent l new
  puts_kept_by_server =
      coherence_kept_by_serving l c m server now input outs written new h run after_run shows allowed goes
      (subst (λ (y : Site). ServesAfter old goes.state x y (may_close input)) (sym site) served.0, served.1)
