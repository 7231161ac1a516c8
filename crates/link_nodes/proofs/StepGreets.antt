-- What is known of sessions that were entered for greeting application servers after each step of a data server, from the invariant.
use Rattle.std.proofs.Common.{◌≡◌, ◌≤◌, ◌<◌, inl, inr, ℕ, false, List, ◌++◌, length, Option, Some, None, is_some, refl, sym, ◌∙◌, ap, subst, arith}
use Rattle.std.specs.Prelude.{IfSome}
use Rattle.std.proofs.lemmas.Bool.{false≢true}
use Rattle.plain_orders.specs.declared.act.Act.{Act}
use Rattle.plain_orders.specs.declared.entry.Entry.{Entry}
use Rattle.plain_orders.specs.declared.layout.Layout.{Layout}
use Rattle.plain_orders.specs.Entries.{count}
use Rattle.plain_orders.specs.Sessions.{app_in}
use Rattle.plain_orders.proofs.LiveSessions.{none_opened}
use Rattle.plain_orders.proofs.PastLemmas.{ordered_past}
use Rattle.plain_runs.specs.Plain.{Server, Session as PlainSession, start}
use Rattle.plain_runs.specs.Run.{IsRun, after_all, state_after}
use Rattle.plain_runs.proofs.Bases.{told_in}
use Rattle.plain_runs.proofs.OrderLaws.{orders_kept}
use Rattle.plain_runs.proofs.RunLemmas.{run_parts}
use Rattle.plain_runs.proofs.SeenLaw.{told_kept}
use Rattle.app_rules.specs.declared.line.Line.TheVariants.{Greeting}
use Rattle.app_rules.specs.AppState.{AppEnd}
use Rattle.data_rules.specs.DataState.{DataState}
use Rattle.data_rules.specs.declared.data_in.DataIn.{DataIn}
use Rattle.data_rules.specs.declared.data_in.DataIn.TheVariants as data_in
use Rattle.data_rules.specs.declared.rows.Role.{Role}
use Rattle.data_rules.specs.declared.rows.Role.TheVariants.{Bound}
use Rattle.data_rules.specs.Conns.{role_of}
use Rattle.data_rules.specs.Places.{epoch_place}
use Rattle.data_rules.specs.Step.{DataMay, made}
use Rattle.cluster_runs.specs.declared.move_outs.MoveOuts.{MoveOuts}
use Rattle.cluster_runs.specs.declared.moves.Move.TheVariants.{Server as ServerMove}
use Rattle.cluster_runs.specs.CoresState.{CoresState, Linked}
use Rattle.cluster_runs.specs.Connections.{link_of}
use Rattle.cluster_runs.specs.Goes.{ServerGoes, server_site, server_takes}
use Rattle.cluster_runs.specs.Machine.{End, Machine, Site}
use Rattle.cluster_runs.specs.Mirrors.{Mirrors}
use Rattle.cluster_runs.specs.Moves.{Allowed}
use Rattle.cluster_runs.specs.Sent.{Connection, Lane, Mark}
use Rattle.cluster_invariant.specs.Dials.{BoundIs, BoundTo, CameFor, DialsAre, LinkedTo, NodeDials, RoleIs}
use Rattle.cluster_invariant.specs.Ends.{AppTables, HelloAlone}
use Rattle.cluster_invariant.specs.Holds.{Holds, SiteHolds}
use Rattle.cluster_invariant.specs.Link.{GreetsBy, NodeLink, Unmet}
use Rattle.cluster_invariant.specs.Orders.{NodeOrder}
use Rattle.cluster_invariant.proofs.Deeds.{Does, order_by}
use Rattle.cluster_invariant.proofs.OrderKept.{step_site}
use Rattle.cluster_invariant.proofs.OrderMoves.{server_wrote}
use Rattle.cluster_invariant.proofs.OrderRows.{StepWrote}
use Rattle.cluster_invariant.proofs.PieceDeeds.{does_step}
use Rattle.cluster_invariant.proofs.PieceMay.{Coming, begins}
use Rattle.cluster_invariant.proofs.Small.{of_some}
use Rattle.cluster_invariant.proofs.Written.{place_kept}
use Rattle.data_ends_kept.proofs.NodeEndsServer as ends
use Rattle.dials_server.proofs.FittingNodes.{same_link}
use Rattle.dials_server.proofs.QuietServer.{of_some_and}
use Rattle.link_kept.proofs.WindowsServer.{LanesGrow, server_lanes}
use Rattle.link_nodes.proofs.BoundsGo.{CameBack, OpenedNow, Whence}
use Rattle.link_nodes.proofs.EnteredGo.{AllOwn, GoesBy, begins_own, both_own, deeds_own, raised_own, rows_go}
use Rattle.link_nodes.proofs.NodeGreets.{GreetsAlone, greets_known, greets_line, line_greets, unmet_goes, unmet_new}
use Rattle.link_nodes.proofs.NodeReplies.{heard_from}
use Rattle.link_nodes.proofs.RecoverComes.{RecoverAlone}
use Rattle.link_nodes.proofs.ServedNow.{left}
use Rattle.link_nodes.proofs.ServedSteps as served
use Rattle.link_nodes.proofs.SiteAfter.{Heard, SiteAfter, link_takes, put_on, site_after}
use Rattle.link_nodes.proofs.StepReplies.{hello_on, recover_on}

module _ (l : Layout) (c : CoresState) (m : Machine) (server now : ℕ) (input : DataIn) (outs : MoveOuts) (written : List Act) (new : Machine)
    (h : Holds l m) (run : IsRun l m.trail) (after_run : IsRun l new.trail) (shows : Mirrors c m) (allowed : Allowed c (ServerMove server now input))
    (goes : ServerGoes m server now input outs written new) where
  abbrev x : Site
  x = m.site_at server

  abbrev v : Server
  v = (state_after l m.trail).server_at server

  abbrev w : Server
  w = (after_all l (state_after l m.trail) written).server_at server

  abbrev old : DataState
  old = goes.node

  abbrev next : DataState
  next = goes.state

  abbrev z : Site
  z = server_takes input (m.site_at server)

  abbrev y : Site
  y = server_site goes.node now input goes.data_outs goes.state (m.site_at server)

  abbrev t : Coming
  t = record { old = goes.node; now = now; input = input }

  its : SiteHolds l server m.is_dead_at v x
  its = h.sites server

  node : NodeLink v x m.is_dead_at old
  node = ends.link l c m server now input outs written new h run shows allowed goes

  order : NodeOrder l server x.past v old
  order = ends.order l c m server now input outs written new h run shows allowed goes

  may : DataMay old input
  may = ends.may l c m server now input outs written new h run shows allowed goes

  wrote : StepWrote server goes.node goes.state (state_after l m.trail) (after_all l (state_after l m.trail) written)
  wrote = server_wrote l c m server now input outs written new h run shows allowed goes

  -- the plain server

  -- each act of the step may come
  acts_may : IsRun l (m.trail ++ written)
  acts_may = subst (λ (n : Machine). IsRun l n.trail) goes.after after_run

  own : Does (begins (record { old = goes.node; now = now; input = input })) (made goes.state goes.data_outs) → AllOwn written
  own does =
      subst AllOwn (sym goes.acts)
      (raised_own ((state_after m.layout m.trail).server_at server).synced goes.data_outs.acts
      (subst AllOwn (sym does.acts) (both_own (begins (record { old = goes.node; now = now; input = input })).outs.acts _ (begins_own goes.node now input) (deeds_own _ does.deeds))))

  pub acts_go : GoesBy ((state_after l m.trail).server_at server) ((after_all l (state_after l m.trail) written).server_at server)
  acts_go = rows_go l (state_after l m.trail) written (own (does_step goes.node now input goes.data_outs goes.state (ends.from l c m server now input outs written new h run shows allowed goes) may goes.steps))
      (run_parts l start m.trail written acts_may).1 server

  order_new : w.order ≡ next.order
  order_new = wrote.order ∙ ap (order_by wrote.deeds) (sym order.order) ∙ sym wrote.its

  within : v.synced ≤ length v.order
  within = (orders_kept l m.trail server run).within

  -- a session to come wasn't met
  not_met : (s : ℕ) → length v.order < s → v.session_at s ≡ None
  not_met s above = go (v.session_at s) refl
    where
      go : (o : Option PlainSession) → v.session_at s ≡ o → o ≡ None
      go None is = refl
      go (Some q) is = absurd (omega (arith, above, within, (told_kept l m.trail server run).met s (ap (λ (p : Option PlainSession). is_some (told_in p)) is)))

  -- the site

  after : SiteAfter x z y goes.data_outs.frames
  after = site_after goes.node now input goes.data_outs goes.state (m.site_at server)

  lanes : LanesGrow old next goes.data_outs x y
  lanes = server_lanes old now input goes.data_outs next x

  began_same : (s : ℕ) → (y.lane_at s y.past).began ≡ (x.lane_at s x.past).began
  began_same s = ap (λ (k : Lane). k.began) (ap (y.lane_at s) lanes.past ∙ lanes.here s)

  whence : (conn s : ℕ) → role_of next conn ≡ Some (Bound s) → Whence t (served.W l c m server now input outs written new h run shows allowed goes) next.order conn s
  whence conn s role =
      (served.served_by_step l c m server now input outs written new h run shows allowed goes (left l c m server now input outs written new h run shows allowed goes) (λ b. Unit {0})
      (λ q b made_so well k g. tt) tt).1.0.bounds.whence conn s role

  module _ (dials_new : DialsAre w y m.is_dead_at) where
    node_new : NodeDials y next
    node_new = of_some (NodeDials y) y.node next (step_site goes.node now input goes.data_outs goes.state (m.site_at server)).node dials_new.node

    module _ (conn s : ℕ) (b : BoundIs y next conn s) (alive : m.is_dead_at b.app ≡ false) (line : (y.end_at b.app).state.line ≡ Greeting) (at : b.linked.dial ≡ (y.end_at b.app).state.dial) where
      abbrev e : End
      e = y.end_at b.app

      state_same : (y.end_at b.app).state ≡ (x.end_at b.app).state
      state_same = after.states b.app

      tables : AppTables (v.pair_at b.app) (y.end_at b.app).state
      tables = subst (AppTables (v.pair_at b.app)) (sym state_same) (its.ends.tables b.app alive)

      alone : GreetsAlone ((y.end_at b.app).connection_at b.linked.dial)
      alone =
          subst (λ (n : ℕ). GreetsAlone ((y.end_at b.app).connection_at n)) (sym at)
          (greets_known e.state.link e.state.line e.state.session e.told e.state.told (e.connection_at e.state.dial) line tables.stands tables.connected (dials_new.pairs b.app).still)

      behind : epoch_place w.order < s
      behind =
          subst (λ (es : List Entry). epoch_place es < s) (sym order_new)
          (subst (CameFor next.order s alone.on.knew) alone.mark (of_some_and (BoundTo y next.order s) ((y.end_at b.app).connection_at b.linked.dial) alone.on alone.there b.linked.its).came)

      low : (x.end_at b.app).state.told ≤ length v.order
      low = omega (arith, (its.ends.told b.app alive).synced, within)

      place : epoch_place w.order ≡ epoch_place v.order
      place = ap epoch_place wrote.order ∙ place_kept wrote.deeds v.order wrote.may

      unopened : length old.order < s → app_in v.order s ≡ None
      unopened above = ap (λ (es : List Entry). app_in es s) (sym order.order) ∙ none_opened old.order (ends.from l c m server now input outs written new h run shows allowed goes).ordered s above

      unused : length old.order < s → count v.order s ≡ 0
      unused above = ap (λ (es : List Entry). count es s) (sym order.order) ∙ (ordered_past old.order (ends.from l c m server now input outs written new h run shows allowed goes).ordered).counts_none s above

      unlearnt : length old.order < s → (y.lane_at s y.past).began ≡ None
      unlearnt above = began_same s ∙ served.to_open l c m server now input outs written new h run shows allowed goes s above

      -- the session was the connection's before
      unmet_was : role_of old conn ≡ Some (Bound s) → Unmet w y b.app (x.end_at b.app).state.told s y.past
      unmet_was was =
          unmet_goes v w x y acts_go after.past its.order.past place b.app (x.end_at b.app).state.told s (began_same s)
          (line_greets v x s b.app (x.end_at b.app) b.linked.dial (x.end_at b.app).state.line (ap (λ (q : AppEnd). q.line) (sym state_same) ∙ line)
          (of_some (GreetsBy v x m.is_dead_at s) (link_of x conn) (record { app = b.app; dial = b.linked.dial }) link_old (node.greets s conn was) alive) (at ∙ ap (λ (q : AppEnd). q.dial) state_same))
        where
          bound : BoundIs x old conn s
          bound = of_some (RoleIs x old conn) (role_of old conn) (Bound s) was ((ends.dials l c m server now input outs written new h run shows allowed goes).roles conn)

          not_new : input ≡ data_in.Connected conn → ⊥
          not_new same = false≢true (sym (subst (DataMay old) same may) ∙ ap (λ (o : Option Role). is_some o) was)

          link_old : link_of x conn ≡ Some (record { app = b.app; dial = b.linked.dial })
          link_old =
              bound.linked.link
              ∙ sym (after.links conn ∙ link_takes input x conn (record { app = bound.app; dial = bound.linked.dial }) not_new bound.linked.link)
              ∙ b.linked.link

      -- it was opened in the step
      unmet_opened : OpenedNow t (served.W l c m server now input outs written new h run shows allowed goes) next.order conn s → Unmet w y b.app (x.end_at b.app).state.told s y.past
      unmet_opened o =
          unmet_new v w x y acts_go after.past its.order.past place b.app (x.end_at b.app).state.told s above low (unopened o.above) (not_met s above) (unused o.above)
          (ap (λ (es : List Entry). app_in es s) order_new ∙ o.opened ∙ ap (λ (n : ℕ). Some n) (sym same_app)) behind (unlearnt o.above)
        where
          above : length v.order < s
          above = subst (λ (es : List Entry). length es < s) order.order o.above

          hello : LinkedTo z conn o.app HelloAlone
          hello = hello_on l c m server now input outs written new h run shows allowed goes conn o.app o.called

          same_app : b.app ≡ o.app
          same_app = (same_link b.app o.app b.linked.dial hello.dial (sym b.linked.link ∙ after.links conn ∙ hello.link)).0

      -- no Recover came on it
      not_back : CameBack t next.order conn s → ⊥
      not_back r = go (heard_from x.past (put_on z b.app b.linked.dial goes.data_outs.frames) ((z.end_at b.app).connection_at b.linked.dial) ((y.end_at b.app).connection_at b.linked.dial) alone.on
          (after.each b.app b.linked.dial) alone.there)
        where
          recover : LinkedTo z conn r.app (RecoverAlone v x r.app s r.epoch)
          recover = recover_on l c m server now input outs written new h run shows allowed goes conn r.app s r.epoch r.taken r.dial r.came

          same : (b.app ≡ r.app) × (b.linked.dial ≡ recover.dial)
          same = same_link b.app r.app b.linked.dial recover.dial (sym b.linked.link ∙ after.links conn ∙ recover.link)

          clash : (o : Option Mark) (k : Mark) → o ≡ Some k → o ≡ None → ⊥
          clash o k some none = absurd cc

          go : (on : Connection) × (((z.end_at b.app).connection_at b.linked.dial ≡ Some on) × Heard x.past (put_on z b.app b.linked.dial goes.data_outs.frames) on alone.on) → ⊥
          go heard = clash heard.0.knew.mark known.mark.mark known.mark.its (ap (λ (k : _). k.mark) (sym heard.1.1.knew) ∙ alone.mark)
            where
              known : RecoverAlone v x r.app s r.epoch heard.0
              known =
                  of_some_and (RecoverAlone v x r.app s r.epoch) ((z.end_at r.app).connection_at recover.dial) heard.0
                  (ap (λ (i : ℕ). (z.end_at i).connection_at recover.dial) (sym same.0) ∙ ap (z.end_at b.app).connection_at (sym same.1) ∙ heard.1.0) recover.its

      unmet_now : Whence t (served.W l c m server now input outs written new h run shows allowed goes) next.order conn s → Unmet w y b.app (y.end_at b.app).state.told s y.past
      unmet_now from = subst (λ (q : AppEnd). Unmet w y b.app q.told s y.past) (sym state_same) (go from)
        where
          go : Whence t (served.W l c m server now input outs written new h run shows allowed goes) next.order conn s → Unmet w y b.app (x.end_at b.app).state.told s y.past
          go (inl was) = unmet_was was
          go (inr (inl o)) = unmet_opened o
          go (inr (inr back)) = absurd (not_back back)

    -- Each connection of a live session.
    pub greets_now : (session conn : ℕ) → role_of next conn ≡ Some (Bound session) → IfSome (link_of y conn) (GreetsBy w y m.is_dead_at session)
    greets_now s conn role =
        subst (λ (o : Option Linked). IfSome o (GreetsBy w y m.is_dead_at s)) (sym b.linked.link)
        (λ alive. greets_line w y s b.app (y.end_at b.app) b.linked.dial (y.end_at b.app).state.line (λ line at. unmet_now conn s b alive line at (whence conn s role)))
      where
        b : BoundIs y next conn s
        b = of_some (RoleIs y next conn) (role_of next conn) (Bound s) role (node_new.roles conn)
