-- What is on its way on the connection of a living application end that greets, or that asked and got no Welcome yet, after each step of
-- its data server.
use Rattle.std.proofs.Common.{List, None, Option, Some, [], ap, drop, false, refl, subst, sym, ℕ, ◌∙◌, ◌≡◌}
use Rattle.std.specs.Prelude.{IfSome, IsSomeAnd}
use Rattle.app_rules.specs.AppState.{Session}
use Rattle.app_rules.specs.declared.line.Line.{Line}
use Rattle.app_rules.specs.declared.line.Line.TheVariants.{Asking, Greeting}
use Rattle.cluster_invariant.proofs.PieceMay.{Coming}
use Rattle.cluster_invariant.proofs.Small.{of_some}
use Rattle.cluster_invariant.specs.Dials.{KnowsStill}
use Rattle.cluster_invariant.specs.Ends.{AppTables, ToldPlace}
use Rattle.cluster_invariant.specs.Holds.{Holds}
use Rattle.cluster_invariant.specs.Link.{AppWay, AskedWay, DownBy, WithSession}
use Rattle.cluster_invariant.specs.Words.{downs_left}
use Rattle.cluster_runs.specs.Connections.{knows}
use Rattle.cluster_runs.specs.CoresState.{CoresState}
use Rattle.cluster_runs.specs.Goes.{ServerGoes, server_site}
use Rattle.cluster_runs.specs.Machine.{End, Machine, Site}
use Rattle.cluster_runs.specs.Mirrors.{Mirrors}
use Rattle.cluster_runs.specs.Moves.{Allowed}
use Rattle.cluster_runs.specs.Sent.{Connection, Place}
use Rattle.cluster_runs.specs.declared.move_outs.MoveOuts.{MoveOuts}
use Rattle.data_rules.specs.declared.data_in.DataIn.{DataIn}
use Rattle.link_firsts.proofs.SilentWays.{has_welcome}
use Rattle.link_nodes.proofs.NodeGreets.{GreetsAlone, greets_known}
use Rattle.plain_orders.specs.declared.act.Act.{Act}
use Rattle.plain_orders.specs.declared.layout.Layout.{Layout}
use Rattle.plain_runs.specs.Plain.{Server}
use Rattle.plain_runs.specs.Run.{IsRun, after_all, state_after}
use Rattle.cluster_runs.specs.declared.moves.Move.TheVariants.{Server as ServerMove}
use Rattle.link_firsts.proofs.FirstConns as conns
use Rattle.link_firsts.proofs.GreetedAfter as greeted
use Rattle.link_firsts.proofs.AskedAfter as asked

module _ (l : Layout) (c0 : CoresState) (m : Machine) (server now : ℕ) (input : DataIn) (outs : MoveOuts) (written : List Act) (new : Machine)
    (h : Holds l m) (run : IsRun l m.trail) (after_run : IsRun l new.trail) (shows : Mirrors c0 m) (allowed : Allowed c0 (ServerMove server now input))
    (goes : ServerGoes m server now input outs written new) where
  abbrev x : Site
  x = m.site_at server

  abbrev v : Server
  v = (state_after l m.trail).server_at server

  abbrev w : Server
  w = (after_all l (state_after l m.trail) written).server_at server

  abbrev y : Site
  y = server_site goes.node now input goes.data_outs goes.state (m.site_at server)

  abbrev t : Coming
  t = record { old = goes.node; now = now; input = input }

  module _ (a : ℕ) (alive : m.is_dead_at a ≡ false) where
    abbrev n : ℕ
    n = (x.end_at a).state.dial

    abbrev e : End
    e = x.end_at a

    way : AppWay v x a (x.end_at a)
    way = (h.sites server).link.apps a alive

    tables : AppTables (v.pair_at a) (x.end_at a).state
    tables = (h.sites server).ends.tables a alive

    -- by its connection after the step
    at_after : (P : Connection → Type 0) (c : Connection) (it : (x.end_at a).connection_at n ≡ Some c)
        → P (conns.d l c0 m server now input outs written new h run after_run shows allowed goes a n c it) → IfSome ((y.end_at a).connection_at n) P
    at_after P c it holds =
        subst (λ (o : Option Connection). IfSome o P)
        (sym (conns.after l c0 m server now input outs written new h run after_run shows allowed goes a n c it).there) holds

    pub greeting_after : (x.end_at a).state.line ≡ Greeting
        → IfSome ((y.end_at a).connection_at (x.end_at a).state.dial) (DownBy (x.end_at a).state.line w y a (x.end_at a))
    greeting_after line =
        subst (λ (i : Line). IfSome ((y.end_at a).connection_at n) (DownBy i w y a e)) (sym line)
        (go (greets_known e.state.link e.state.line e.state.session e.told e.state.told (e.connection_at n) line tables.stands tables.connected
        ((h.sites server).dials.pairs a).still))
      where
        go : GreetsAlone ((x.end_at a).connection_at n) → IfSome ((y.end_at a).connection_at n) (DownBy Greeting w y a e)
        go g =
            at_after (DownBy Greeting w y a e) g.on g.there
            (greeted.greeted_after l c0 m server now input outs written new h run after_run shows allowed goes a alive line g.on g.there
            (of_some (DownBy Greeting v x a e) ((x.end_at a).connection_at n) g.on g.there
            (subst (λ (i : Line). IfSome ((x.end_at a).connection_at n) (DownBy i v x a e)) line way.down)))

    pub asking_after : (x.end_at a).state.line ≡ Asking → IfSome ((x.end_at a).connection_at (x.end_at a).state.dial) (λ c. has_welcome (downs_left c) ≡ false)
        → IfSome ((y.end_at a).connection_at (x.end_at a).state.dial) (DownBy (x.end_at a).state.line w y a (x.end_at a))
    asking_after line other =
        subst (λ (i : Line). IfSome ((y.end_at a).connection_at n) (DownBy i w y a e)) (sym line)
        (go ((x.end_at a).connection_at n) refl
        (subst (λ (i : Line). KnowsStill i (knows e) ((x.end_at a).connection_at n)) line ((h.sites server).dials.pairs a).still))
      where
        down : (c : Connection) → (x.end_at a).connection_at n ≡ Some c → DownBy Asking v x a e c
        down c it =
            of_some (DownBy Asking v x a e) ((x.end_at a).connection_at n) c it
            (subst (λ (i : Line). IfSome ((x.end_at a).connection_at n) (DownBy i v x a e)) line way.down)

        one : (p r : Place) → Some p ≡ Some r → p ≡ r
        one p r same = cc

        at : (c : Connection) (it : (x.end_at a).connection_at n ≡ Some c) (o : Option Session) (p : Option Place) → e.state.session ≡ o → e.told ≡ p
            → WithSession o p (λ s k. AskedWay v x s k c (downs_left c)) → WithSession o p
            (λ s k. AskedWay w y s k (conns.d l c0 m server now input outs written new h run after_run shows allowed goes a n c it)
            (downs_left (conns.d l c0 m server now input outs written new h run after_run shows allowed goes a n c it)))
        at c it None p has told is = is
        at c it (Some sn) None has told is = is
        at c it (Some sn) (Some p) has told is =
            asked.asked_after l c0 m server now input outs written new h run after_run shows allowed goes a alive line sn has p.order told_so c it is
            (of_some (λ (z : Connection). has_welcome (downs_left z) ≡ false) ((x.end_at a).connection_at n) c it other)
          where
            place : ToldPlace v a sn (x.end_at a).told
            place = of_some (λ (s : Session). ToldPlace v a s (x.end_at a).told) (x.end_at a).state.session sn has ((h.sites server).ends.told a alive).place

            told_so : (x.end_at a).told ≡ Some (record { session = sn.number; order = p.order })
            told_so =
                place.its ∙ ap (λ (i : ℕ). Some (record { session = sn.number; order = i }))
                (ap (λ (z : Place). z.order) (one (record { session = sn.number; order = place.order }) p (sym place.its ∙ told)))

        go : (o : Option Connection) → (x.end_at a).connection_at n ≡ o → IsSomeAnd o (λ z. (z.knew ≡ knows e) × (drop 1 z.ups ≡ []))
            → IfSome ((y.end_at a).connection_at n) (DownBy Asking w y a e)
        go None it is = absurd is
        go (Some c) it is = at_after (DownBy Asking w y a e) c it (at c it e.state.session e.told refl refl (down c it))
