-- Each step of a data server keeps what is on its way: what first frames put, and all else.
use Rattle.std.proofs.Common.{◌≡◌, ℕ, false, List, Option, Some, sym, ◌∙◌, ap, subst}
use Rattle.std.specs.Prelude.{IfSome}
use Rattle.plain_orders.specs.declared.act.Act.{Act}
use Rattle.plain_orders.specs.declared.layout.Layout.{Layout}
use Rattle.plain_runs.specs.Plain.{Server}
use Rattle.plain_runs.specs.Run.{IsRun, after_all, state_after}
use Rattle.ecp_messages.specs.declared.down.DownFrame.{DownFrame}
use Rattle.data_rules.specs.declared.data_in.DataIn.{DataIn}
use Rattle.app_rules.specs.declared.line.Line.TheVariants.{Asking}
use Rattle.app_rules.specs.AppState.{Session}
use Rattle.cluster_runs.specs.declared.move_outs.MoveOuts.{MoveOuts}
use Rattle.cluster_runs.specs.declared.moves.Move.TheVariants.{Server as ServerMove}
use Rattle.cluster_runs.specs.CoresState.{CoresState}
use Rattle.cluster_runs.specs.Goes.{ServerGoes, server_site}
use Rattle.cluster_runs.specs.Machine.{End, Machine, Site}
use Rattle.cluster_runs.specs.Mirrors.{Mirrors}
use Rattle.cluster_runs.specs.Moves.{Allowed}
use Rattle.cluster_runs.specs.Sent.{Connection, Place}
use Rattle.cluster_invariant.specs.Ends.{ToldPlace}
use Rattle.cluster_invariant.specs.Holds.{Holds}
use Rattle.cluster_invariant.specs.Link.{AskedWay, GreetedWay, LinkHolds}
use Rattle.cluster_invariant.specs.Words.{downs_left}
use Rattle.cluster_invariant.proofs.Small.{of_some}
use Rattle.link_downs.proofs.EndsNow.{LeftToFirsts}
use Rattle.link_downs.proofs.LinksNow.{links_now}
use Rattle.link_firsts.proofs.AskedAfter.{asked_after}
use Rattle.link_firsts.proofs.FirstConns as conns
use Rattle.link_firsts.proofs.GreetedAfter.{greeted_after}
use Rattle.link_firsts.proofs.SilentWays.{has_welcome, is_welcome}

module _ (l : Layout) (c0 : CoresState) (m : Machine) (server now : ℕ) (input : DataIn) (outs : MoveOuts) (written : List Act) (new : Machine)
    (h : Holds l m) (run : IsRun l m.trail) (after_run : IsRun l new.trail) (shows : Mirrors c0 m) (allowed : Allowed c0 (ServerMove server now input))
    (goes : ServerGoes m server now input outs written new) where
  abbrev x : Site
  x = m.site_at server

  abbrev v : Server
  v = (state_after l m.trail).server_at server

  abbrev w : Server
  w = (after_all l (state_after l m.trail) written).server_at server

  abbrev y : Site
  y = server_site goes.node now input goes.data_outs goes.state (m.site_at server)

  module _ (a : ℕ) (alive : m.is_dead_at a ≡ false) where
    abbrev e : End
    e = (m.site_at server).end_at a

    -- what is known of a connection after the step is known of the end's
    at_dial : (P : Connection → Type 0) (c : Connection) (it : e.connection_at e.state.dial ≡ Some c)
        → P (conns.d l c0 m server now input outs written new h run after_run shows allowed goes a e.state.dial c it) → IfSome ((y.end_at a).connection_at e.state.dial) P
    at_dial P c it is =
        subst (λ (o : Option Connection). IfSome o P)
        (sym (conns.after l c0 m server now input outs written new h run after_run shows allowed goes a e.state.dial c it).there) is

    -- an end that asks
    module _ (line : e.state.line ≡ Asking) (s : Session) (p : Place) (has : e.state.session ≡ Some s) (told : e.told ≡ Some p)
        (c : Connection) (it : e.connection_at e.state.dial ≡ Some c) where
      place : ToldPlace v a s e.told
      place = of_some (λ (z : Session). ToldPlace v a z e.told) e.state.session s has ((h.sites server).ends.told a alive).place

      one : (i j : Place) → Some i ≡ Some j → i ≡ j
      one i j same = cc

      p_is : p ≡ record { session = s.number; order = place.order }
      p_is = one p (record { session = s.number; order = place.order }) (sym told ∙ place.its)

      told_so : e.told ≡ Some (record { session = s.number; order = p.order })
      told_so = place.its ∙ ap (λ (i : ℕ). Some (record { session = s.number; order = i })) (sym (ap (λ (q : Place). q.order) p_is))

      asked : AskedWay v x s p.order c (downs_left c) → has_welcome (downs_left c) ≡ false
          → IfSome ((y.end_at a).connection_at e.state.dial) (λ d. AskedWay w y s p.order d (downs_left d))
      asked way other =
          at_dial (λ (d : Connection). AskedWay w y s p.order d (downs_left d)) c it
          (asked_after l c0 m server now input outs written new h run after_run shows allowed goes a alive line s has p.order told_so c it way other)

    firsts : LeftToFirsts v w x y a e
    firsts = record {
      greets = λ line c it way.
          at_dial (λ (d : Connection). GreetedWay w y a e.state.told d (downs_left d)) c it
          (greeted_after l c0 m server now input outs written new h run after_run shows allowed goes a alive line c it way);
      untold = λ line s p has told c it none unmarked.
          asked line s p has told c it (subst (λ (fs : List DownFrame). AskedWay v x s p.order c fs) (sym none) unmarked) (ap has_welcome none);
      reset = λ line s p has told c it f fs some session at says way.
          asked line s p has told c it (subst (λ (gs : List DownFrame). AskedWay v x s p.order c gs) (sym some) way)
          (ap has_welcome some ∙ ap is_welcome says);
    }

  pub links_are_kept : (d : ℕ) → LinkHolds ((state_after l new.trail).server_at d) (new.site_at d) new.is_dead_at
  links_are_kept = links_now l c0 m server now input outs written new h run after_run shows allowed goes (λ a alive. firsts a alive)
