-- An end that asked where its data connection awaits a Reset: nothing is put on it, or its Reset alone.
use Rattle.std.proofs.Common.{List, Option, Some, [], ap, arith, false, inl, inr, is_some, refl, subst, sym, true, ℕ, ◌++◌, ◌==◌, ◌∙◌, ◌∷◌, ◌≡◌, ◌≢◌, ◌≤◌}
use Rattle.std.proofs.lemmas.Bool.{eqb-true, false≢true, leb-true}
use Rattle.std.specs.List.{AllByRecursion}
use Rattle.std.specs.Prelude.{IfSome, IsSomeAnd}
use Rattle.app_rules.specs.AppState.{Session}
use Rattle.app_rules.specs.declared.line.Line.TheVariants.{Asking}
use Rattle.cluster_invariant.proofs.PieceMay.{Coming}
use Rattle.cluster_invariant.proofs.Small.{of_some}
use Rattle.cluster_invariant.specs.Dials.{ClosedOn, ClosingIs, NodeDials, RoleIs}
use Rattle.cluster_invariant.specs.Holds.{Holds}
use Rattle.cluster_invariant.specs.Link.{AskedWay, NodeLink, ResetIs}
use Rattle.cluster_invariant.specs.Waiting.{ReplyWaits, ResetWaits, WaitsFor, WaitsResetOn}
use Rattle.cluster_invariant.specs.Words.{IsFront, downs_left, stays_at}
use Rattle.cluster_runs.specs.Connections.{link_of}
use Rattle.cluster_runs.specs.CoresState.{CoresState, Linked}
use Rattle.cluster_runs.specs.Goes.{ServerGoes, server_site}
use Rattle.cluster_runs.specs.Machine.{Machine, Site}
use Rattle.cluster_runs.specs.Mirrors.{Mirrors}
use Rattle.cluster_runs.specs.Moves.{Allowed}
use Rattle.cluster_runs.specs.Sent.{Connection, FirstTaken, Knew, Mark}
use Rattle.cluster_runs.specs.declared.move_outs.MoveOuts.{MoveOuts}
use Rattle.data_rules.specs.Conns.{role_of}
use Rattle.data_rules.specs.Puts.{says_on}
use Rattle.data_rules.specs.Step.{DataMay, made}
use Rattle.data_rules.specs.declared.data_in.DataIn.{DataIn}
use Rattle.data_rules.specs.declared.rows.Reply.{Reply}
use Rattle.data_rules.specs.declared.rows.Role.{Role}
use Rattle.data_rules.specs.declared.rows.Role.TheVariants.{Bound, Closing}
use Rattle.data_rules.specs.declared.rows.Says.{Says}
use Rattle.data_rules.specs.declared.rows.Says.TheVariants.{AnswerOf, EpochWelcome, GrantOf, NewWelcome, ResetOf}
use Rattle.ecp_messages.specs.declared.down.DownFrame.{DownFrame}
use Rattle.link_downs.proofs.LinkedConns.{linked_at}
use Rattle.link_downs.proofs.OffConn.{LeftReset, Off, OffPut, SaysReset, is_off, listed}
use Rattle.link_downs.proofs.OnConn.{put_on, waiting_on, waits_on}
use Rattle.link_downs.proofs.ReplyLists.{known_waits, one_waits}
use Rattle.link_firsts.proofs.AskedBound.{reset_there}
use Rattle.link_firsts.proofs.SilentWays.{has_welcome}
use Rattle.link_kept.proofs.Later.{Later}
use Rattle.plain_orders.proofs.Places.{entry_append}
use Rattle.plain_orders.specs.Entries.{entry_at}
use Rattle.plain_orders.specs.declared.act.Act.{Act}
use Rattle.plain_orders.specs.declared.entry.Entry.{Entry}
use Rattle.plain_orders.specs.declared.entry.Entry.TheVariants.{Closed}
use Rattle.plain_orders.specs.declared.layout.Layout.{Layout}
use Rattle.plain_runs.specs.Plain.{Server, current, order_at}
use Rattle.plain_runs.specs.Run.{IsRun, after_all, state_after}
use Rattle.cluster_runs.specs.declared.moves.Move.TheVariants.{Server as ServerMove}
use Rattle.ecp_messages.specs.declared.down.Down.TheVariants as down
use Rattle.data_rules.specs.declared.data_in.DataIn.TheVariants as data_in
use Rattle.data_ends_kept.proofs.NodeEndsServer as ends
use Rattle.link_downs.proofs.StepWays as step
use Rattle.link_firsts.proofs.FirstConns as conns
use Rattle.link_firsts.proofs.StepOrders as base
use Rattle.link_firsts.proofs.AskedBound as asked

module _ (l : Layout) (c0 : CoresState) (m : Machine) (server now : ℕ) (input : DataIn) (outs : MoveOuts) (written : List Act) (new : Machine)
    (h : Holds l m) (run : IsRun l m.trail) (after_run : IsRun l new.trail) (shows : Mirrors c0 m) (allowed : Allowed c0 (ServerMove server now input))
    (goes : ServerGoes m server now input outs written new) where
  abbrev x : Site
  x = m.site_at server

  abbrev v : Server
  v = (state_after l m.trail).server_at server

  abbrev w : Server
  w = (after_all l (state_after l m.trail) written).server_at server

  abbrev y : Site
  y = server_site goes.node now input goes.data_outs goes.state (m.site_at server)

  abbrev t : Coming
  t = record { old = goes.node; now = now; input = input }

  node : NodeLink v x m.is_dead_at goes.node
  node = ends.link l c0 m server now input outs written new h run shows allowed goes

  dials : NodeDials x goes.node
  dials = ends.dials l c0 m server now input outs written new h run shows allowed goes

  later : Later x v w
  later = base.later l c0 m server now input outs written new h run after_run shows allowed goes

  module _ (a : ℕ) (alive : m.is_dead_at a ≡ false) (line : (x.end_at a).state.line ≡ Asking) (sn : Session) (has : (x.end_at a).state.session ≡ Some sn)
      (k : ℕ)
      (told : (x.end_at a).told ≡ Some (record { session = sn.number; order = k })) (c : Connection)
      (it : (x.end_at a).connection_at (x.end_at a).state.dial ≡ Some c)
      (way : AskedWay v x sn k c (downs_left c)) (other : has_welcome (downs_left c) ≡ false) where
    abbrev n : ℕ
    n = (x.end_at a).state.dial

    abbrev d : Connection
    d = conns.d l c0 m server now input outs written new h run after_run shows allowed goes a n c it

    abbrev put_now : List DownFrame
    put_now = conns.put_now l c0 m server now input outs written new h run after_run shows allowed goes a n c it

    -- its Reset is put where a first frame of it was taken in the order that runs
    pub reset_way : (q s place : ℕ) → d.first ≡ Some (record { order = x.past; conn = q }) → s ≡ sn.number → place ≤ goes.state.synced
        → entry_at goes.node.order place ≡ Some (Closed s)
        → downs_left c ≡ [] → put_now ≡ record { seq = 0; ack = 0; message = down.Reset s place } ∷ [] → AskedWay w y sn k d (downs_left d)
    reset_way q s place first number low closed none put =
        subst (λ (fs : List DownFrame). AskedWay w y sn k d fs)
        (sym (conns.d_left l c0 m server now input outs written new h run after_run shows allowed goes a n c it
        ∙ ap (λ (fs : List DownFrame). fs ++ put_now) none ∙ put)) (
          refl,
          (
            subst (λ (o : Option FirstTaken). IsSomeAnd o (λ f. ResetIs (order_at w f.order) (stays_at w f.order) sn.number (down.Reset s place)))
                (sym first) (number, stays, entry),
            refl,
          ),
        )
      where
        past_now : x.past ≡ current v
        past_now = base.past_now l c0 m server now input outs written new h run after_run shows allowed goes

        stays : place ≤ stays_at w x.past
        stays = omega (arith, low, base.stays_w l c0 m server now input outs written new h run after_run shows allowed goes)

        front : IsFront (order_at v x.past) (order_at w x.past)
        front = later.goes_on x.past (omega (arith, past_now))

        entry : entry_at (order_at w x.past) place ≡ Some (Closed sn.number)
        entry =
            ap (λ (es : List Entry). entry_at es place) front.1
            ∙ entry_append (order_at v x.past) front.0 (Closed sn.number) place
            (ap (λ (es : List Entry). entry_at es place) (base.order_v l c0 m server now input outs written new h run after_run shows allowed goes) ∙ closed
            ∙ ap (λ (i : ℕ). Some (Closed i)) number)

    module _ (g : FirstTaken) (at_first : d.first ≡ Some g) (r : ℕ) (role : role_of goes.node g.conn ≡ Some (Closing r)) (no_tick : input ≡ data_in.Tick → ⊥)
      where
        abbrev q : ℕ
        q = g.conn

        is : ClosingIs x goes.node q r
        is = of_some (RoleIs x goes.node q) (role_of goes.node q) (Closing r) role (dials.roles q)

        link_is : link_of x q ≡ Some (record { app = a; dial = n })
        link_is =
            asked.linked_by l c0 m server now input outs written new h run after_run shows allowed goes a alive line sn has k told c it way other g at_first
            is.app is.linked.dial is.linked.link

        was : c.first ≡ Some g
        was =
            (asked.linked l c0 m server now input outs written new h run after_run shows allowed goes a alive line sn has k told c it way other g at_first
            (ap (λ (o : Option Linked). is_some o) link_is)).1

        closed_on : (c.first ≡ Some (record { order = x.past; conn = q })) × ClosedOn x r c
        closed_on = linked_at x q is.app a n (ClosedOn x r) c is.linked link_is it

        session_is : r ≡ sn.number
        session_is =
            sym (asked.of_mark l c0 m server now input outs written new h run after_run shows allowed goes a alive line sn has k told c it way other
            (λ (mk : Mark). c.knew.session ≡ r) closed_on.1.came)
            ∙ ap (λ (z : Knew). z.session)
            (asked.knew l c0 m server now input outs written new h run after_run shows allowed goes a alive line sn has k told c it way other)

        one_reply : (ws : Option Reply) × (waiting_on q goes.node.replies ≡ listed ws)
        one_reply = one_waits q goes.node.replies node.one_each

        reply_waits : (z : Reply) → one_reply.0 ≡ Some z → ReplyWaits v x goes.node z × (waits_on q z ≡ true)
        reply_waits z same =
            (subst (λ (zs : List Reply). AllByRecursion (λ (u : Reply). ReplyWaits v x goes.node u × (waits_on q u ≡ true)) zs) (one_reply.1 ∙ ap listed same)
            (known_waits (ReplyWaits v x goes.node) q goes.node.replies node.replies)).0

        record ResetSaid (z : Reply) : Type 0 where
          says : SaysReset q z
          waits : ResetWaits x goes.node z.at q says.session says.place

        reset_said : (z : Reply) → ReplyWaits v x goes.node z → waits_on q z ≡ true → ResetSaid z
        reset_said z is_so on = go z.says refl is_so.says on
          where
            not_bound : (i b : ℕ) → role_of goes.node i ≡ Some (Bound b) → (i == q) ≡ true → ⊥
            not_bound i b bound same =
                (let both : Some (Bound b) ≡ Some (Closing r) = sym bound ∙ ap (role_of goes.node) (eqb-true i q same) ∙ role in absurd cc)

            go : (u : Says) → z.says ≡ u → WaitsFor v x goes.node z.at u → says_on q u ≡ true → ResetSaid z
            go (NewWelcome conn session) says at there = absurd (not_bound conn session at.bound there)
            go (EpochWelcome conn session kept) says at there = absurd (not_bound conn session at.bound there)
            go (ResetOf conn session place) says at there = record {
              says = record { session = session; place = place; its = says ∙ ap (λ (i : ℕ). ResetOf i session place) (eqb-true conn q there) };
              waits = subst (λ (i : ℕ). ResetWaits x goes.node z.at i session place) (eqb-true conn q there) at;
            }
            go (GrantOf session ticket number) says at there = absurd (false≢true there)
            go (AnswerOf session about job number place sum) says at there = absurd (false≢true there)

        module _ (left : LeftReset q one_reply.0 goes.state.synced (put_on q goes.data_outs.frames)) where
          said : ResetSaid left.reply
          said = reset_said left.reply (reply_waits left.reply left.waited).0 (reply_waits left.reply left.waited).1

          says_same : (z : Reply) (i j : SaysReset q z) → (i.session ≡ j.session) × (i.place ≡ j.place)
          says_same z i j = (session i.session i.place j.session j.place (sym i.its ∙ j.its), place i.session i.place j.session j.place (sym i.its ∙ j.its))
            where
              session : (e p u b : ℕ) → ResetOf q e p ≡ ResetOf q u b → e ≡ u
              session e p u b same = cc

              place : (e p u b : ℕ) → ResetOf q e p ≡ ResetOf q u b → p ≡ b
              place e p u b same = cc

          waits_so : ResetWaits x goes.node left.reply.at q left.says.session left.says.place
          waits_so =
              subst (λ (i : ℕ). ResetWaits x goes.node left.reply.at q i left.says.place) (says_same left.reply said.says left.says).0
              (subst (λ (i : ℕ). ResetWaits x goes.node left.reply.at q said.says.session i) (says_same left.reply said.says left.says).1 said.waits)

          number : left.says.session ≡ sn.number
          number = one left.says.session r (sym waits_so.closing ∙ role) ∙ session_is
            where
              one : (i j : ℕ) → Some (Closing i) ≡ Some (Closing j) → i ≡ j
              one i j same = cc

          follows : WaitsResetOn goes.node.order left.says.session (x.lane_at left.says.session x.past) c
          follows =
              of_some (WaitsResetOn goes.node.order left.says.session (x.lane_at left.says.session x.past)) ((x.end_at a).connection_at n) c it
              (of_some (λ (j : Linked). IfSome ((x.end_at j.app).connection_at j.dial)
              (WaitsResetOn goes.node.order left.says.session (x.lane_at left.says.session x.past))) (link_of x q)
              (record { app = a; dial = n }) link_is waits_so.follows)

          left_way : AskedWay w y sn k d (downs_left d)
          left_way =
              reset_way q left.says.session left.says.place (at_first ∙ sym was ∙ closed_on.0) number
              (omega (arith, waits_so.until, leb-true left.reply.at goes.state.synced left.synced)) waits_so.closed
              (reset_there v x sn k c (downs_left c) way other refl follows.first)
              (asked.put_is l c0 m server now input outs written new h run after_run shows allowed goes a alive line sn has k told c it way other g at_first
              ∙ left.put)

        pub closing : AskedWay w y sn k d (downs_left d)
        closing = go off_now.put
          where
            off_now : Off q true one_reply.0 (made goes.state goes.data_outs)
            off_now =
                step.off_after l c0 m server now input outs written new h run after_run shows allowed goes q true one_reply.0
                (λ z same. (reset_said z (reply_waits z same).0 (reply_waits z same).1).says) (ap (is_off true) role) one_reply.1 no_tick
                (λ same. false≢true
                (sym (subst (DataMay goes.node) same (ends.may l c0 m server now input outs written new h run shows allowed goes))
                ∙ ap (λ (o : Option Role). is_some o) role))

            go : OffPut q one_reply.0 (made goes.state goes.data_outs) → AskedWay w y sn k d (downs_left d)
            go (inl none) =
                asked.silent_on l c0 m server now input outs written new h run after_run shows allowed goes a alive line sn has k told c it way other g at_first
                none.0
            go (inr left) = left_way left.0
