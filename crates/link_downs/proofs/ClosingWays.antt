-- A connection that carries a session's messages, over a step of its data server, where the node closed it before: nothing is put on it, or
-- the Reset that waited. So what of the session is on its way then is known wherever the step puts what it may.
use Rattle.std.proofs.Common.{◌≡◌, ◌≢◌, ◌≤◌, ◌⊎◌, inl, inr, ℕ, Bool, true, false, List, [], ◌∷◌, ◌++◌, Option, Some, None, is_some, refl, sym, ◌∙◌, ap, subst, arith, ◌==◌}
use Rattle.std.specs.Prelude.{IfSome, IsSomeAnd, not}
use Rattle.std.specs.List.{AllByRecursion, list_any}
use Rattle.std.proofs.lemmas.Bool.{eqb-true, leb-true, false≢true, true≢false}
use Rattle.std.proofs.lemmas.List.{append-nil}
use Rattle.plain_orders.specs.declared.act.Act.{Act}
use Rattle.plain_orders.specs.declared.entry.Entry.{Entry}
use Rattle.plain_orders.specs.declared.entry.Entry.TheVariants.{Closed}
use Rattle.plain_orders.specs.declared.layout.Layout.{Layout}
use Rattle.plain_orders.proofs.Places.{entry_append}
use Rattle.plain_orders.specs.Entries.{entry_at, live, closes}
use Rattle.plain_runs.specs.Plain.{Server, current, order_at, put}
use Rattle.plain_runs.specs.Run.{IsRun, after_all, state_after}
use Rattle.ecp_messages.specs.declared.down.Down.{Down}
use Rattle.ecp_messages.specs.declared.down.Down.TheVariants as down
use Rattle.ecp_messages.specs.declared.down.DownFrame.{DownFrame}
use Rattle.data_rules.specs.declared.data_in.DataIn.{DataIn}
use Rattle.data_rules.specs.declared.rows.Reply.{Reply}
use Rattle.data_rules.specs.declared.rows.Role.{Role}
use Rattle.data_rules.specs.declared.rows.Role.TheVariants.{New, Waiting, Bound, Closing}
use Rattle.data_rules.specs.declared.rows.Says.{Says}
use Rattle.data_rules.specs.declared.rows.Says.TheVariants.{NewWelcome, EpochWelcome, ResetOf, GrantOf, AnswerOf}
use Rattle.data_rules.specs.Conns.{role_of}
use Rattle.data_rules.specs.Puts.{says_on}
use Rattle.cluster_runs.specs.declared.move_outs.MoveOuts.{MoveOuts}
use Rattle.cluster_runs.specs.declared.moves.Move.TheVariants.{Server as ServerMove}
use Rattle.cluster_runs.specs.CoresState.{CoresState, Linked}
use Rattle.cluster_runs.specs.Connections.{link_of, with_downs}
use Rattle.cluster_runs.specs.Goes.{ServerGoes, server_site, server_takes}
use Rattle.cluster_runs.specs.Machine.{Machine, Site}
use Rattle.cluster_runs.specs.Mirrors.{Mirrors}
use Rattle.cluster_runs.specs.Moves.{Allowed}
use Rattle.cluster_runs.specs.Sent.{Connection, FirstTaken, Place}
use Rattle.cluster_invariant.specs.Dials.{BoundIs, BoundTo, ClosedOn, ClosingIs, DialsAre, FirstIs, NodeDials, RoleIs}
use Rattle.cluster_invariant.specs.Holds.{Holds}
use Rattle.cluster_invariant.specs.Link.{DownWay, DownWhole, NodeLink, WholeIf, is_normal_frame}
use Rattle.cluster_invariant.specs.Waiting.{IsUnended, ReplyWaits, ResetWaits, WaitsFor, WaitsResetOn}
use Rattle.cluster_invariant.specs.Words.{IsFront, downs_left, is_reset_frame, numbered_behind, numbered_downs, stays_at}
use Rattle.cluster_invariant.proofs.OrderKept.{StepSite, step_site}
use Rattle.cluster_invariant.proofs.OrderRows.{StepWrote}
use Rattle.cluster_invariant.proofs.PastOrders.{now_stays}
use Rattle.cluster_invariant.proofs.Small.{of_some}
use Rattle.data_ends_kept.proofs.NodeEndsServer as ends
use Rattle.link_kept.proofs.AppLater.{LaneLater}
use Rattle.link_kept.proofs.Later.{Later}
use Rattle.link_downs.proofs.LinkedConns.{linked_at, waiting_untold}
use Rattle.link_downs.proofs.NodeAfter as nodes
use Rattle.link_downs.proofs.NumberedPuts.{numbered_downs_joined}
use Rattle.link_downs.proofs.OffConn.{LeftReset, SaysReset, listed}
use Rattle.link_downs.proofs.OnConn.{put_on, waiting_on, waits_on}
use Rattle.link_downs.proofs.ReplyLists.{ends_none, known_waits, no_reset_behind, no_reset_dropped, no_normal, one_waits}
use Rattle.link_downs.proofs.SiteConns.{After, Heard, frames_for}
use Rattle.link_downs.proofs.StepWays as step
use Rattle.link_downs.proofs.WaysMore.{way_reset}
use Rattle.plain_orders.specs.Ordered.{IsOrdered}
use Rattle.link_kept.proofs.WindowsServer.{server_lanes}
use Rattle.link_nodes.proofs.ClosedSessions.{any_front, closed_dead, same_down}
use Rattle.link_downs.proofs.CarriedWays as carry
use Rattle.link_downs.proofs.CarriedWays.{TellsNormal, WayAfter}
use Rattle.link_downs.proofs.StepPuts.{StepPuts}

module _ (l : Layout) (c0 : CoresState) (m : Machine) (server now : ℕ) (input : DataIn) (outs : MoveOuts) (written : List Act) (new : Machine)
    (h : Holds l m) (run : IsRun l m.trail) (after_run : IsRun l new.trail) (shows : Mirrors c0 m) (allowed : Allowed c0 (ServerMove server now input))
    (goes : ServerGoes m server now input outs written new)
    (puts : StepPuts (m.site_at server) (server_site goes.node now input goes.data_outs goes.state (m.site_at server)) (is_some goes.node.round) goes.node goes.state goes.data_outs.frames) where
  abbrev x : Site
  x = m.site_at server

  abbrev v : Server
  v = (state_after l m.trail).server_at server

  abbrev w : Server
  w = (after_all l (state_after l m.trail) written).server_at server

  abbrev y : Site
  y = server_site goes.node now input goes.data_outs goes.state (m.site_at server)

  node : NodeLink v x m.is_dead_at goes.node
  node = ends.link l c0 m server now input outs written new h run shows allowed goes

  dials : NodeDials x goes.node
  dials = ends.dials l c0 m server now input outs written new h run shows allowed goes

  lanes : (s k : ℕ) → LaneLater (x.lane_at s k) (y.lane_at s k)
  lanes = step.lanes_later l c0 m server now input outs written new h run after_run shows allowed goes

  after_dials : DialsAre w y m.is_dead_at
  after_dials = step.dials_after l c0 m server now input outs written new h run after_run shows allowed goes

  wr : StepWrote server goes.node goes.state (state_after l m.trail) (after_all l (state_after l m.trail) written)
  wr = nodes.wr l c0 m server now input outs written new h run after_run shows allowed goes

  later : Later x v w
  later = nodes.later l c0 m server now input outs written new h run after_run shows allowed goes

  past_is : x.past ≡ current v
  past_is = nodes.past_is l c0 m server now input outs written new h run after_run shows allowed goes

  now_past : x.past ≡ current w
  now_past = nodes.now_past l c0 m server now input outs written new h run after_run shows allowed goes

  node_order : order_at v x.past ≡ goes.node.order
  node_order = nodes.node_order l c0 m server now input outs written new h run after_run shows allowed goes

  node_front : IsFront goes.node.order goes.state.order
  node_front = nodes.node_front l c0 m server now input outs written new h run after_run shows allowed goes

  ordered_new : IsOrdered goes.state.order
  ordered_new = nodes.ordered_new l c0 m server now input outs written new h run after_run shows allowed goes

  some_is : {X : Type 0} (a b : X) → Some a ≡ Some b → a ≡ b
  some_is a b same = cc

  module _ (a n : ℕ) (c : Connection) (it : (x.end_at a).connection_at n ≡ Some c) (f : FirstTaken) (at_first : c.first ≡ Some f) where
    linked : link_of x f.conn ≡ Some (record { app = a; dial = n })
    linked = carry.linked l c0 m server now input outs written new h run after_run shows allowed goes puts a n c it f at_first

    abbrev pub after : After (Heard (server_takes input x).past (frames_for (server_takes input x) a n goes.data_outs.frames)) c ((y.end_at a).connection_at n)
    after = carry.after l c0 m server now input outs written new h run after_run shows allowed goes puts a n c it f at_first

    abbrev pub d : Connection
    d = after.it

    d_first : d.first ≡ c.first
    d_first = carry.d_first l c0 m server now input outs written new h run after_run shows allowed goes puts a n c it f at_first

    d_left : downs_left d ≡ downs_left c ++ put_on f.conn goes.data_outs.frames
    d_left = carry.d_left l c0 m server now input outs written new h run after_run shows allowed goes puts a n c it f at_first

    module _ (s k : ℕ) (its : c.its ≡ Some (record { session = s; order = k })) (may : Bool) (pre behind : List DownFrame) (all : downs_left c ≡ pre ++ behind)
        (way : DownWay (order_at v k) (stays_at v k) s (x.lane_at s k) may behind) (whole : WholeIf x s k (x.lane_at s k) c behind)
        (ordered : f.order ≡ k) (quiet : role_of goes.node f.conn ≡ Some (Bound s) → waiting_on f.conn goes.node.replies ≡ []) where
      -- the node closes it: that is the session's, in the order that runs, and at most its Reset waits for it
      module _ (r : ℕ) (role : role_of goes.node f.conn ≡ Some (Closing r)) where
        closing_is : ClosingIs x goes.node f.conn r
        closing_is = of_some (RoleIs x goes.node f.conn) (role_of goes.node f.conn) (Closing r) role (dials.roles f.conn)

        closed_on : (c.first ≡ Some (record { order = x.past; conn = f.conn })) × ClosedOn x r c
        closed_on = linked_at x f.conn closing_is.app a n (ClosedOn x r) c closing_is.linked linked it

        closing_past : k ≡ x.past
        closing_past = sym ordered ∙ ap (λ (z : FirstTaken). z.order) (some_is f (record { order = x.past; conn = f.conn }) (sym at_first ∙ closed_on.0))

        closing_same : r ≡ s
        closing_same =
            sym (ap (λ (p : Place). p.session) (of_some (λ (p : Place). p ≡ record { session = r; order = x.past }) c.its (record { session = s; order = k }) its closed_on.1.carries))

        one_reply : (ws : Option Reply) × (waiting_on f.conn goes.node.replies ≡ listed ws)
        one_reply = one_waits f.conn goes.node.replies node.one_each

        reply_waits : (ws : Option Reply) → waiting_on f.conn goes.node.replies ≡ listed ws → (z : Reply) → ws ≡ Some z
            → ReplyWaits v x goes.node z × (waits_on f.conn z ≡ true)
        reply_waits ws is_so z same =
            (subst (λ (zs : List Reply). AllByRecursion (λ (u : Reply). ReplyWaits v x goes.node u × (waits_on f.conn u ≡ true)) zs) (is_so ∙ ap listed same)
            (known_waits (ReplyWaits v x goes.node) f.conn goes.node.replies node.replies)).0

        reset_waits : (z : Reply) → ReplyWaits v x goes.node z → waits_on f.conn z ≡ true
            → (says : SaysReset f.conn z) × ResetWaits x goes.node z.at f.conn says.session says.place
        reset_waits z is_so on = go z.says refl is_so.says on
          where
            not_bound : (i q : ℕ) → role_of goes.node i ≡ Some (Bound q) → (i == f.conn) ≡ true → ⊥
            not_bound i q bound same =
                (let both : Some (Bound q) ≡ Some (Closing r) = sym bound ∙ ap (role_of goes.node) (eqb-true i f.conn same) ∙ role in absurd cc)

            go : (u : Says) → z.says ≡ u → WaitsFor v x goes.node z.at u → says_on f.conn u ≡ true
                → (says : SaysReset f.conn z) × ResetWaits x goes.node z.at f.conn says.session says.place
            go (NewWelcome conn session) says at there = absurd (not_bound conn session at.bound there)
            go (EpochWelcome conn session kept) says at there = absurd (not_bound conn session at.bound there)
            go (ResetOf conn session place) says at there = (
              record { session = session; place = place; its = says ∙ ap (λ (i : ℕ). ResetOf i session place) (eqb-true conn f.conn there) },
              subst (λ (i : ℕ). ResetWaits x goes.node z.at i session place) (eqb-true conn f.conn there) at,
            )
            go (GrantOf session ticket number) says at there = absurd (false≢true there)
            go (AnswerOf session about job number place sum) says at there = absurd (false≢true there)

        reset_on : (at session place : ℕ) → ResetWaits x goes.node at f.conn session place → WaitsResetOn goes.node.order session (x.lane_at session x.past) c
        reset_on at session place is_so =
            of_some (WaitsResetOn goes.node.order session (x.lane_at session x.past)) ((x.end_at a).connection_at n) c it
            (of_some (λ (j : Linked). IfSome ((x.end_at j.app).connection_at j.dial) (WaitsResetOn goes.node.order session (x.lane_at session x.past))) (link_of x f.conn)
            (record { app = a; dial = n }) linked is_so.follows)

        put_now : (put_on f.conn goes.data_outs.frames ≡ []) ⊎ LeftReset f.conn one_reply.0 goes.state.synced (put_on f.conn goes.data_outs.frames)
        put_now =
            puts.closing f.conn r one_reply.0 role one_reply.1
            (λ z same. (let at : ReplyWaits v x goes.node z × (waits_on f.conn z ≡ true) = reply_waits one_reply.0 one_reply.1 z same in (reset_waits z at.0 at.1).0))

        -- the Reset that leaves is put behind its messages, where the session was told no Normal in this order
        reset_way : (unended : k ≡ x.past → IsUnended goes.node.order s (x.lane_at s x.past) → may ≡ true) (left : LeftReset f.conn one_reply.0 goes.state.synced (put_on f.conn goes.data_outs.frames))
            → DownWay (order_at w x.past) (stays_at w x.past) s (y.lane_at s x.past) may (behind ++ record { seq = 0; ack = 0; message = down.Reset left.says.session left.says.place } ∷ [])
        reset_way unended left =
            subst (λ (i : ℕ). DownWay (order_at w x.past) (stays_at w x.past) s (y.lane_at s x.past) may (behind ++ record { seq = 0; ack = 0; message = down.Reset i left.says.place } ∷ [])) (sym session_is)
            (way_reset (order_at v x.past) (order_at w x.past) (stays_at v x.past) (stays_at w x.past) s left.says.place (x.lane_at s x.past) (y.lane_at s x.past) may behind
            (step.counts l c0 m server now input outs written new h run after_run shows allowed goes s x.past).down_taken (lanes s x.past) (unended closing_past told) (refl, stay, entry) calm_behind way_past ends_is)
          where
            at_reply : ReplyWaits v x goes.node left.reply × (waits_on f.conn left.reply ≡ true)
            at_reply = reply_waits one_reply.0 one_reply.1 left.reply left.waited

            says_is : (z : Reply) (a b : SaysReset f.conn z) → ◌≡◌ {A = ℕ × ℕ} (a.session, a.place) (b.session, b.place)
            says_is z a b = by a.session a.place b.session b.place (sym a.its ∙ b.its)
              where
                by : (i j p q : ℕ) → ResetOf f.conn i j ≡ ResetOf f.conn p q → ◌≡◌ {A = ℕ × ℕ} (i, j) (p, q)
                by i j p q same = cc

            waits_so : ResetWaits x goes.node left.reply.at f.conn left.says.session left.says.place
            waits_so =
                (let found : (says : SaysReset f.conn left.reply) × ResetWaits x goes.node left.reply.at f.conn says.session says.place = reset_waits left.reply at_reply.0 at_reply.1 in
                subst (λ (p : ℕ × ℕ). ResetWaits x goes.node left.reply.at f.conn p.0 p.1) (says_is left.reply found.0 left.says) found.1)

            session_is : left.says.session ≡ s
            session_is = role_same (sym waits_so.closing ∙ role) ∙ closing_same
              where
                role_same : Some (Closing left.says.session) ≡ Some (Closing r) → left.says.session ≡ r
                role_same same = cc

            on_it : WaitsResetOn goes.node.order s (x.lane_at s x.past) c
            on_it =
                subst (λ (i : ℕ). WaitsResetOn goes.node.order i (x.lane_at i x.past) c) session_is
                (reset_on left.reply.at left.says.session left.says.place waits_so)

            told : IsUnended goes.node.order s (x.lane_at s x.past)
            told = of_some (λ (p : Place). IsUnended goes.node.order s (x.lane_at s x.past)) c.its (record { session = s; order = k }) its on_it.in_round

            way_past : DownWay (order_at v x.past) (stays_at v x.past) s (x.lane_at s x.past) may behind
            way_past = subst (λ (i : ℕ). DownWay (order_at v i) (stays_at v i) s (x.lane_at s i) may behind) closing_past way

            none_reset : list_any is_reset_frame behind ≡ false
            none_reset =
                no_reset_behind pre behind (subst (λ (fs : List DownFrame). list_any is_reset_frame fs ≡ false) all (no_reset_dropped c.downs_taken c.downs on_it.first))

            ends_is : way_past.ends ≡ []
            ends_is =
                ends_none may (order_at v x.past) (stays_at v x.past) s way_past.its way_past.ends
                (subst (λ (fs : List DownFrame). list_any is_reset_frame fs ≡ false) way_past.all none_reset) way_past.reset

            calm_behind : list_any is_normal_frame behind ≡ false
            calm_behind =
                ap (list_any is_normal_frame) (way_past.all ∙ ap (λ (fs : List DownFrame). way_past.its ++ fs) ends_is ∙ append-nil way_past.its)
                ∙ no_normal way_past.its (x.lane_at s x.past).down_taken (x.lane_at s x.past).down way_past.kinds way_past.next told.untold

            stay : left.says.place ≤ stays_at w x.past
            stay =
                subst (λ (i : ℕ). left.says.place ≤ i) (sym (ap (stays_at w) now_past ∙ now_stays w))
                (omega (arith, waits_so.until, leb-true left.reply.at goes.state.synced left.synced, wr.synced))

            entry : entry_at (order_at w x.past) left.says.place ≡ Some (Closed s)
            entry =
                (let front : IsFront (order_at v x.past) (order_at w x.past) = later.goes_on x.past (omega (arith, past_is)) in
                ap (λ (es : List Entry). entry_at es left.says.place) front.1
                ∙ entry_append (order_at v x.past) front.0 (Closed s) left.says.place
                (ap (λ (es : List Entry). entry_at es left.says.place) node_order ∙ waits_so.closed ∙ ap (λ (i : ℕ). Some (Closed i)) session_is))

        -- it has it still, for the same session, or has left it
        still : (more : List DownFrame) → numbered_downs more ≡ [] → d.its ≡ c.its → WholeIf y s k (y.lane_at s k) d (behind ++ more)
        still more none d_its here past_too = go (role_of goes.state f.conn) refl
          where
            gone : role_of goes.state f.conn ≡ None → ⊥
            gone role_now = carry.gone_left l c0 m server now input outs written new h run after_run shows allowed goes puts a n c it f at_first role_now here

            was : DownWhole goes.node s f.conn (x.lane_at s k) behind
            was =
                carry.whole_was l c0 m server now input outs written new h run after_run shows allowed goes puts a n c it f at_first s k behind whole
                (carry.left_is l c0 m server now input outs written new h run after_run shows allowed goes puts a n c it f at_first ∙ ap (λ (o : Option Role). not (is_some o)) role) closing_past

            d_linked : link_of y f.conn ≡ Some (record { app = a; dial = n })
            d_linked = (of_some (FirstIs w y a n) d.first f (d_first ∙ at_first) (carry.d_is l c0 m server now input outs written new h run after_run shows allowed goes puts a n c it f at_first).where_taken).linked

            site : StepSite x goes.state y
            site = step_site goes.node now input goes.data_outs goes.state x

            node_dials : NodeDials y goes.state
            node_dials = of_some (NodeDials y) y.node goes.state site.node after_dials.node

            closed_still : list_any (closes s) goes.state.order ≡ true
            closed_still =
                (let front : IsFront goes.node.order goes.state.order = node_front in
                subst (λ (es : List Entry). list_any (closes s) es ≡ true) (sym front.1)
                (any_front (closes s) goes.node.order front.0 (subst (λ (i : ℕ). list_any (closes i) goes.node.order ≡ true) closing_same closing_is.ended)))

            dead : live goes.state.order s ≡ false
            dead = closed_dead goes.state.order ordered_new s closed_still

            down_same : (y.lane_at s k).down ≡ (x.lane_at s k).down
            down_same =
                ap (λ (i : ℕ). (y.lane_at s i).down) (closing_past ∙ sym site.past)
                ∙ same_down x y goes.node goes.state goes.data_outs (server_lanes goes.node now input goes.data_outs goes.state x) node.windows
                (step.served_so l c0 m server now input outs written new h run after_run shows allowed goes).windows.windows (ends.from l c0 m server now input outs written new h run shows allowed goes).ordered ordered_new node_front s
                (subst (λ (i : ℕ). list_any (closes i) goes.node.order ≡ true) closing_same closing_is.ended)
                ∙ ap (λ (i : ℕ). (x.lane_at s i).down) (sym closing_past)

            numbers : numbered_downs (behind ++ more) ≡ numbered_behind (y.lane_at s k).down_taken (y.lane_at s k).down
            numbers =
                numbered_downs_joined behind more ∙ ap (λ (xs : List (ℕ × Down)). numbered_downs behind ++ xs) none ∙ append-nil (numbered_downs behind) ∙ was.whole
                ∙ ap (λ (i : ℕ). numbered_behind i (x.lane_at s k).down) (sym (lanes s k).down_taken) ∙ ap (numbered_behind (y.lane_at s k).down_taken) (sym down_same)

            closing_still : (i : ℕ) → role_of goes.state f.conn ≡ Some (Closing i) → i ≡ s
            closing_still i role_now =
                (let at : ClosingIs y goes.state f.conn i = of_some (RoleIs y goes.state f.conn) (role_of goes.state f.conn) (Closing i) role_now (node_dials.roles f.conn) in
                sym (ap (λ (p : Place). p.session) (of_some (λ (p : Place). p ≡ record { session = i; order = y.past }) d.its (record { session = s; order = k }) (d_its ∙ its)
                (linked_at y f.conn at.app a n (ClosedOn y i) d at.linked d_linked after.there).1.carries)))

            of_closing : role_of goes.state f.conn ≡ Some (Closing s)
                → IfSome y.node (λ z. IsSomeAnd d.first (λ g. DownWhole z s g.conn (y.lane_at s k) (behind ++ more)))
            of_closing role_now =
                carry.whole_now l c0 m server now input outs written new h run after_run shows allowed goes puts a n c it f at_first s k (behind ++ more)
                (record { bound = λ lives. absurd (true≢false (sym lives ∙ dead)); whole = numbers; closed = λ is. role_now })

            is_dead : (i : ℕ) → role_of goes.state f.conn ≡ Some (Bound i) → ⊥
            is_dead i role_now =
                (let at : BoundIs y goes.state f.conn i = of_some (RoleIs y goes.state f.conn) (role_of goes.state f.conn) (Bound i) role_now (node_dials.roles f.conn) in
                let same : s ≡ i =
                ap (λ (p : Place). p.session) (of_some (λ (p : Place). p ≡ record { session = i; order = y.past }) d.its (record { session = s; order = k }) (d_its ∙ its)
                (linked_at y f.conn at.app a n (BoundTo y goes.state.order i) d at.linked d_linked after.there).1.carries) in
                true≢false (sym (subst (λ (j : ℕ). live goes.state.order j ≡ true) (sym same) at.lives) ∙ dead))

            unlinked : ◌≡◌ {A = Option Linked} (Some (record { app = a; dial = n })) None → ⊥
            unlinked same = cc

            none_its : (o : Option Place) → o ≡ Some (record { session = s; order = k }) → o ≡ None → ⊥
            none_its o some none = cc

            waits_not : role_of goes.state f.conn ≡ Some Waiting → ⊥
            waits_not role_now = none_its d.its (d_its ∙ its) (waiting_untold y goes.state (nodes.after_ends l c0 m server now input outs written new h run after_run shows allowed goes).callers f.conn a n d role_now d_linked after.there)

            go : (o : Option Role) → role_of goes.state f.conn ≡ o
                → IfSome y.node (λ z. IsSomeAnd d.first (λ g. DownWhole z s g.conn (y.lane_at s k) (behind ++ more)))
            go None role_now = absurd (gone role_now)
            go (Some New) role_now = absurd (unlinked (sym d_linked ∙ of_some (RoleIs y goes.state f.conn) (role_of goes.state f.conn) New role_now (node_dials.roles f.conn)))
            go (Some Waiting) role_now = absurd (waits_not role_now)
            go (Some (Bound i)) role_now = absurd (is_dead i role_now)
            go (Some (Closing i)) role_now = of_closing (subst (λ (j : ℕ). role_of goes.state f.conn ≡ Some (Closing j)) (closing_still i role_now) role_now)

        -- so nothing is put, or the Reset is
        closing_here : (k ≡ x.past → IsUnended goes.node.order s (x.lane_at s x.past) → may ≡ true)
            → WayAfter w y s k may (TellsNormal x goes.node s k) behind c d
        closing_here unended = go put_now
          where
            its_with : (fs : List DownFrame) → put_on f.conn goes.data_outs.frames ≡ fs → d.its ≡ (with_downs (server_takes input x).past fs c).its
            its_with fs same =
                after.is.its ∙ ap (λ (gs : List DownFrame). (with_downs (server_takes input x).past gs c).its) (carry.put_is l c0 m server now input outs written new h run after_run shows allowed goes puts a n c it f at_first ∙ same)

            resets : (left : LeftReset f.conn one_reply.0 goes.state.synced (put_on f.conn goes.data_outs.frames))
                → WayAfter w y s k may (TellsNormal x goes.node s k) behind c d
            resets left = record {
              put = record { seq = 0; ack = 0; message = down.Reset left.says.session left.says.place } ∷ [];
              left = d_left ∙ ap (λ (fs : List DownFrame). downs_left c ++ fs) left.put;
              its = its_with (record { seq = 0; ack = 0; message = down.Reset left.says.session left.says.place } ∷ []) left.put;
              first = d_first;
              way =
                  subst (λ (i : ℕ). DownWay (order_at w i) (stays_at w i) s (y.lane_at s i) may (behind ++ record { seq = 0; ack = 0; message = down.Reset left.says.session left.says.place } ∷ []))
                  (sym closing_past) (reset_way unended left);
              whole =
                  still (record { seq = 0; ack = 0; message = down.Reset left.says.session left.says.place } ∷ []) refl
                  (its_with (record { seq = 0; ack = 0; message = down.Reset left.says.session left.says.place } ∷ []) left.put);
              calm = λ out. refl;
            }

            go : (put_on f.conn goes.data_outs.frames ≡ []) ⊎ LeftReset f.conn one_reply.0 goes.state.synced (put_on f.conn goes.data_outs.frames)
                → WayAfter w y s k may (TellsNormal x goes.node s k) behind c d
            go (inl none) =
                carry.silent l c0 m server now input outs written new h run after_run shows allowed goes puts a n c it f at_first s k its may pre behind all way whole ordered quiet none
                (subst (λ (fs : List DownFrame). WholeIf y s k (y.lane_at s k) d fs) (append-nil behind) (still [] refl (its_with [] none)))
            go (inr left) = resets left

      -- What is on its way of it after the step.
      pub carried : (k ≡ x.past → IsUnended goes.node.order s (x.lane_at s x.past) → may ≡ true) → WayAfter w y s k may (TellsNormal x goes.node s k) behind c d
      carried unended = go (role_of goes.node f.conn) refl
        where
          go : (o : Option Role) → role_of goes.node f.conn ≡ o → WayAfter w y s k may (TellsNormal x goes.node s k) behind c d
          go None role = carry.none_here l c0 m server now input outs written new h run after_run shows allowed goes puts a n c it f at_first s k its may pre behind all way whole ordered quiet role
          go (Some New) role = absurd (carry.new_not l c0 m server now input outs written new h run after_run shows allowed goes puts a n c it f at_first s k its may pre behind all way whole ordered quiet role)
          go (Some Waiting) role = absurd (carry.waiting_not l c0 m server now input outs written new h run after_run shows allowed goes puts a n c it f at_first s k its may pre behind all way whole ordered quiet role)
          go (Some (Bound r)) role =
              carry.bound_here l c0 m server now input outs written new h run after_run shows allowed goes puts a n c it f at_first s k its may pre behind all way whole ordered quiet
              (subst (λ (i : ℕ). role_of goes.node f.conn ≡ Some (Bound i)) (carry.bound_same l c0 m server now input outs written new h run after_run shows allowed goes puts a n c it f at_first s k its may pre behind all way whole ordered quiet r role) role)
          go (Some (Closing r)) role = closing_here r role unended
