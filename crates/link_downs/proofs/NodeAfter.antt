-- The orders of a running node before and after a step, against the plain ones, and its data end after it.
use Rattle.std.proofs.Common.{◌≡◌, ℕ, List, ◌++◌, length, sym, ◌∙◌, ap, subst, arith}
use Rattle.plain_orders.specs.declared.act.Act.{Act}
use Rattle.plain_orders.specs.declared.entry.Entry.{Entry}
use Rattle.plain_orders.specs.declared.layout.Layout.{Layout}
use Rattle.plain_runs.specs.Plain.{Server, current, order_at, Plain, put, start}
use Rattle.plain_runs.specs.Run.{IsRun, after_all, state_after}
use Rattle.data_rules.specs.declared.data_in.DataIn.{DataIn}
use Rattle.cluster_runs.specs.declared.move_outs.MoveOuts.{MoveOuts}
use Rattle.cluster_runs.specs.declared.moves.Move.TheVariants.{Server as ServerMove}
use Rattle.cluster_runs.specs.CoresState.{CoresState}
use Rattle.cluster_runs.specs.Goes.{ServerGoes, server_site, at_site}
use Rattle.cluster_runs.specs.Machine.{Machine, Site, with_acts}
use Rattle.cluster_runs.specs.Mirrors.{Mirrors}
use Rattle.cluster_runs.specs.Moves.{Allowed}
use Rattle.cluster_invariant.specs.Ends.{NodeEnds}
use Rattle.cluster_invariant.specs.Holds.{Holds}
use Rattle.cluster_invariant.specs.Words.{IsFront}
use Rattle.cluster_invariant.proofs.OrderKept.{step_site}
use Rattle.cluster_invariant.proofs.OrderRows.{StepWrote}
use Rattle.cluster_invariant.proofs.PastOrders.{order_now}
use Rattle.cluster_invariant.proofs.Small.{of_some, put_same}
use Rattle.data_ends_kept.proofs.NodeEndsServer as ends
use Rattle.link_kept.proofs.Later.{Later}
use Rattle.link_downs.proofs.ServerLater.{wrote}
use Rattle.link_downs.proofs.StepWays as step
use Rattle.plain_orders.specs.Ordered.{IsOrdered}
use Rattle.plain_runs.proofs.Ordered.{ordered_kept}
use Rattle.plain_runs.proofs.RunLemmas.{after_all-append}
use Rattle.cluster_invariant.proofs.Deeds.{order_by}
use Rattle.data_ends_kept.proofs.NodeEndsMoves.{NodeEndsAt}

module _ (l : Layout) (c0 : CoresState) (m : Machine) (server now : ℕ) (input : DataIn) (outs : MoveOuts) (written : List Act) (new : Machine)
    (h : Holds l m) (run : IsRun l m.trail) (after_run : IsRun l new.trail) (shows : Mirrors c0 m) (allowed : Allowed c0 (ServerMove server now input))
    (goes : ServerGoes m server now input outs written new) where
  abbrev x : Site
  x = m.site_at server

  abbrev v : Server
  v = (state_after l m.trail).server_at server

  abbrev w : Server
  w = (after_all l (state_after l m.trail) written).server_at server

  abbrev y : Site
  y = server_site goes.node now input goes.data_outs goes.state (m.site_at server)

  pub wr : StepWrote server goes.node goes.state (state_after l m.trail) (after_all l (state_after l m.trail) written)
  wr = wrote l c0 m server now input outs written new h run shows allowed goes

  pub later : Later x v w
  later = step.later l c0 m server now input outs written new h run after_run shows allowed goes

  pub past_is : x.past ≡ current v
  past_is = step.past_now l c0 m server now input outs written new h run after_run shows allowed goes

  pub now_past : x.past ≡ current w
  now_past = past_is ∙ sym (ap (λ (xs : List (List Entry)). length xs) wr.past)

  -- the orders of the node are the plain ones
  pub node_order : order_at v x.past ≡ goes.node.order
  node_order = ap (order_at v) past_is ∙ order_now v ∙ sym (step.order_node l c0 m server now input outs written new h run after_run shows allowed goes).order

  pub order_same : w.order ≡ goes.state.order
  order_same = wr.order ∙ ap (order_by wr.deeds) (sym (step.order_node l c0 m server now input outs written new h run after_run shows allowed goes).order) ∙ sym wr.its

  pub node_front : IsFront goes.node.order goes.state.order
  node_front =
      subst (λ (es : List Entry). IsFront goes.node.order es) (ap (order_at w) now_past ∙ order_now w ∙ order_same)
      (subst (λ (es : List Entry). IsFront es (order_at w x.past)) node_order (later.goes_on x.past (omega (arith, past_is))))

  pub ordered_new : IsOrdered goes.state.order
  ordered_new = subst IsOrdered order_same ordered_w
    where
      trail_new : new.trail ≡ m.trail ++ written
      trail_new = ap (λ (z : Machine). z.trail) goes.after

      ordered_w : IsOrdered w.order
      ordered_w =
          subst (λ (p : Plain). IsOrdered (p.server_at server).order) (after_all-append l start m.trail written)
          (ordered_kept l (m.trail ++ written) server (subst (IsRun l) trail_new after_run)).now

  -- the data end after it
  pub after_ends : NodeEnds w y goes.state
  after_ends =
      of_some (NodeEnds w y) y.node goes.state (step_site goes.node now input goes.data_outs goes.state x).node
      (subst (λ (p : Plain). NodeEndsAt (p.server_at server) y) (after_all-append l start m.trail written)
      (subst (λ (z : Site). NodeEndsAt ((state_after l (m.trail ++ written)).server_at server) z) (put_same m.site_at server y)
      (at_new goes.after (ends.node_ends_kept_by_server l c0 m server now input outs written new h run shows allowed goes server))))
    where
      at_new : new ≡ with_acts written (at_site server (server_site goes.node now input goes.data_outs goes.state) m)
          → NodeEndsAt ((state_after l new.trail).server_at server) (new.site_at server)
          → NodeEndsAt ((state_after l (m.trail ++ written)).server_at server) (put m.site_at server y server)
      at_new same is = subst (λ (n : Machine). NodeEndsAt ((state_after l n.trail).server_at server) (n.site_at server)) same is
