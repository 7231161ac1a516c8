-- A connection that carries a session's messages, over a step of its data server: what is put on it, and what of the session is on its way
-- then, but where the node closed it before.
use Rattle.std.proofs.Common.{◌≡◌, ◌≢◌, ◌≤◌, ◌⊎◌, inl, inr, ℕ, Bool, true, false, List, [], ◌++◌, length, Option, Some, None, is_some, refl, sym, ◌∙◌, ap, subst}
use Rattle.std.specs.Prelude.{IfSome, IsSomeAnd, not}
use Rattle.std.specs.List.{list_any}
use Rattle.std.proofs.lemmas.Bool.{false≢true, true≢false}
use Rattle.std.proofs.lemmas.List.{append-nil}
use Rattle.plain_orders.specs.declared.act.Act.{Act}
use Rattle.plain_orders.specs.declared.layout.Layout.{Layout}
use Rattle.plain_orders.specs.Entries.{live}
use Rattle.plain_runs.specs.Plain.{Server, current, order_at}
use Rattle.plain_runs.specs.Run.{IsRun, after_all, state_after}
use Rattle.ecp_messages.specs.declared.down.DownFrame.{DownFrame}
use Rattle.data_rules.specs.declared.data_in.DataIn.{DataIn}
use Rattle.data_rules.specs.declared.data_in.DataIn.TheVariants as data_in
use Rattle.data_rules.specs.declared.rows.Role.{Role}
use Rattle.data_rules.specs.declared.rows.Role.TheVariants.{New, Waiting, Bound}
use Rattle.data_rules.specs.DataState.{DataState}
use Rattle.data_rules.specs.Conns.{role_of}
use Rattle.cluster_runs.specs.declared.move_outs.MoveOuts.{MoveOuts}
use Rattle.cluster_runs.specs.declared.moves.Move.TheVariants.{Server as ServerMove}
use Rattle.cluster_runs.specs.CoresState.{CoresState, Linked}
use Rattle.cluster_runs.specs.Connections.{link_of, with_downs}
use Rattle.cluster_runs.specs.Goes.{ServerGoes, server_site, server_takes}
use Rattle.cluster_runs.specs.Machine.{Machine, Site}
use Rattle.cluster_runs.specs.Mirrors.{Mirrors}
use Rattle.cluster_runs.specs.Moves.{Allowed}
use Rattle.cluster_runs.specs.Sent.{Connection, FirstTaken, Place}
use Rattle.cluster_invariant.specs.Dials.{BoundIs, BoundTo, ConnectionIs, DialsAre, FirstIs, NodeDials, RoleIs, has_conn, is_left_at}
use Rattle.cluster_invariant.specs.Ends.{NodeEnds}
use Rattle.cluster_invariant.specs.Holds.{Holds}
use Rattle.cluster_invariant.specs.Link.{DownWay, DownWhole, NodeLink, WholeIf, is_normal_frame}
use Rattle.cluster_invariant.specs.Words.{downs_left, is_reset_frame, numbered_behind, numbered_downs, stays_at}
use Rattle.cluster_invariant.proofs.OrderKept.{step_site}
use Rattle.cluster_invariant.proofs.Small.{of_some}
use Rattle.data_ends_kept.proofs.NodeEndsServer as ends
use Rattle.link_kept.proofs.AppLater.{LaneLater, lane_goes_on, way_later}
use Rattle.link_kept.proofs.Later.{Later}
use Rattle.link_kept.proofs.WindowsGo.{same_or}
use Rattle.link_downs.proofs.LinkedConns.{frames_same, link_each, linked_at, waiting_untold}
use Rattle.link_downs.proofs.OnConn.{put_on, waiting_on}
use Rattle.link_downs.proofs.ReplyLists.{ends_none, no_reset_behind, no_reset_dropped}
use Rattle.link_downs.proofs.SiteConns.{After, Heard, frames_for, site_conn}
use Rattle.link_downs.proofs.StepWays as step
use Rattle.link_downs.proofs.WaysMore.{its_of_session, left_more, way_more, whole_more}
use Rattle.link_downs.proofs.PlainPuts as plain
use Rattle.link_downs.proofs.StepPuts.{BoundAfter, PutsGo, StepPuts}

-- a Normal may be put to a session: a round was on, and the session was live in the order that runs
abbrev pub TellsNormal : Site → DataState → ℕ → ℕ → Type 0
TellsNormal x n s k = (is_some n.round ≡ true) × ((k ≡ x.past) × (live n.order s ≡ true))

-- what is on its way of a session after a step, on a connection that carries its messages
pub record WayAfter (w : Server) (y : Site) (s k : ℕ) (may : Bool) (tells : Type 0) (behind : List DownFrame) (c d : Connection) : Type 0 where
  pub put : List DownFrame
  pub left : downs_left d ≡ downs_left c ++ put
  pub its : d.its ≡ c.its
  pub first : d.first ≡ c.first
  pub way : DownWay (order_at w k) (stays_at w k) s (y.lane_at s k) may (behind ++ put)
  pub whole : WholeIf y s k (y.lane_at s k) d (behind ++ put)
  -- a Normal is put only where it may be
  pub calm : (tells → ⊥) → list_any is_normal_frame put ≡ false

module _ (l : Layout) (c0 : CoresState) (m : Machine) (server now : ℕ) (input : DataIn) (outs : MoveOuts) (written : List Act) (new : Machine)
    (h : Holds l m) (run : IsRun l m.trail) (after_run : IsRun l new.trail) (shows : Mirrors c0 m) (allowed : Allowed c0 (ServerMove server now input))
    (goes : ServerGoes m server now input outs written new)
    (puts : StepPuts (m.site_at server) (server_site goes.node now input goes.data_outs goes.state (m.site_at server)) (is_some goes.node.round) goes.node goes.state goes.data_outs.frames) where
  abbrev pub x : Site
  x = m.site_at server

  abbrev pub v : Server
  v = (state_after l m.trail).server_at server

  abbrev pub w : Server
  w = (after_all l (state_after l m.trail) written).server_at server

  abbrev pub y : Site
  y = server_site goes.node now input goes.data_outs goes.state (m.site_at server)

  pub node : NodeLink v x m.is_dead_at goes.node
  node = ends.link l c0 m server now input outs written new h run shows allowed goes

  pub dials : NodeDials x goes.node
  dials = ends.dials l c0 m server now input outs written new h run shows allowed goes

  pub node_ends : NodeEnds v x goes.node
  node_ends = ends.node l c0 m server now input outs written new h run shows allowed goes

  pub all_dials : DialsAre v x m.is_dead_at
  all_dials = (h.sites server).dials

  pub after_dials : DialsAre w y m.is_dead_at
  after_dials = step.dials_after l c0 m server now input outs written new h run after_run shows allowed goes

  pub lanes : (s k : ℕ) → LaneLater (x.lane_at s k) (y.lane_at s k)
  lanes = step.lanes_later l c0 m server now input outs written new h run after_run shows allowed goes

  some_is : {X : Type 0} (a b : X) → Some a ≡ Some b → a ≡ b
  some_is a b same = cc

  is_connected : (q : ℕ) → (input ≡ data_in.Connected q) ⊎ (input ≡ data_in.Connected q → ⊥)
  is_connected q = go input refl
    where
      go : (i : DataIn) → input ≡ i → (input ≡ data_in.Connected q) ⊎ (input ≡ data_in.Connected q → ⊥)
      go (data_in.Frame conn f) is = inr (λ same. (let both : data_in.Frame conn f ≡ data_in.Connected q = sym is ∙ same in absurd cc))
      go (data_in.Connected conn) is = by (same_or conn q)
        where
          by : (conn ≡ q) ⊎ (conn ≢ q) → (input ≡ data_in.Connected q) ⊎ (input ≡ data_in.Connected q → ⊥)
          by (inl same) = inl (is ∙ ap data_in.Connected same)
          by (inr apart) = inr (λ at. (let both : data_in.Connected conn ≡ data_in.Connected q = sym is ∙ at in absurd (apart cc)))
      go (data_in.Broken conn) is = inr (λ same. (let both : data_in.Broken conn ≡ data_in.Connected q = sym is ∙ same in absurd cc))
      go data_in.Tick is = inr (λ same. (let both : data_in.Tick ≡ data_in.Connected q = sym is ∙ same in absurd cc))
      go (data_in.Saved upto) is = inr (λ same. (let both : data_in.Saved upto ≡ data_in.Connected q = sym is ∙ same in absurd cc))

  module _ (a n : ℕ) (c : Connection) (it : (x.end_at a).connection_at n ≡ Some c) (f : FirstTaken) (at_first : c.first ≡ Some f) where
    is : ConnectionIs v x a n c
    is = of_some (ConnectionIs v x a n) ((x.end_at a).connection_at n) c it ((all_dials.pairs a).each n)

    pub firstly : FirstIs v x a n f
    firstly = of_some (FirstIs v x a n) c.first f at_first is.where_taken

    there : f.order ≤ current v
    there = firstly.there

    pub linked : link_of x f.conn ≡ Some (record { app = a; dial = n })
    linked = firstly.linked

    -- the data end has left it just where the node doesn't have it
    pub left_is : c.data_left ≡ not (is_some (role_of goes.node f.conn))
    left_is =
        is.data_left ∙ ap (is_left_at x) at_first ∙ ap not (all_dials.here f.conn ∙ ap (λ (o : Option DataState). has_conn o f.conn) goes.runs)

    pub after : After (Heard (server_takes input x).past (frames_for (server_takes input x) a n goes.data_outs.frames)) c ((y.end_at a).connection_at n)
    after = site_conn goes.node now input goes.data_outs goes.state x a n c it

    abbrev pub d : Connection
    d = after.it

    -- what is put on it is put on the data connection
    pub put_is : frames_for (server_takes input x) a n goes.data_outs.frames ≡ put_on f.conn goes.data_outs.frames
    put_is = go (is_connected f.conn)
      where
        go : (input ≡ data_in.Connected f.conn) ⊎ (input ≡ data_in.Connected f.conn → ⊥)
            → frames_for (server_takes input x) a n goes.data_outs.frames ≡ put_on f.conn goes.data_outs.frames
        go (inl same) =
            ap (frames_for (server_takes input x) a n) (plain.connected_silent l c0 m server now input outs written new h run after_run shows allowed goes f.conn same) ∙ sym (ap (put_on f.conn) (plain.connected_silent l c0 m server now input outs written new h run after_run shows allowed goes f.conn same))
        go (inr fresh) =
            frames_same (server_takes input x) a n f.conn
            (link_each v x m.is_dead_at all_dials input (ends.first l c0 m server now input outs written new h run shows allowed goes) a n c f it at_first linked fresh) goes.data_outs.frames

    pub d_first : d.first ≡ c.first
    d_first = after.is.first (ap (λ (o : Option FirstTaken). is_some o) at_first)

    pub d_left : downs_left d ≡ downs_left c ++ put_on f.conn goes.data_outs.frames
    d_left = left_more c d (frames_for (server_takes input x) a n goes.data_outs.frames) is.downs_taken after.is.downs after.is.downs_taken ∙ ap (λ (fs : List DownFrame). downs_left c ++ fs) put_is

    -- and it after the step
    pub d_is : ConnectionIs w y a n d
    d_is = of_some (ConnectionIs w y a n) ((y.end_at a).connection_at n) d after.there ((after_dials.pairs a).each n)

    pub d_left_is : d.data_left ≡ not (is_some (role_of goes.state f.conn))
    d_left_is =
        d_is.data_left ∙ ap (is_left_at y) (d_first ∙ at_first)
        ∙ ap not (after_dials.here f.conn ∙ ap (λ (o : Option DataState). has_conn o f.conn) (step_site goes.node now input goes.data_outs goes.state x).node)

    -- all of it is on its way, where it is so for the node that runs
    pub whole_now : (s k : ℕ) (left : List DownFrame) → DownWhole goes.state s f.conn (y.lane_at s k) left
        → IfSome y.node (λ z. IsSomeAnd d.first (λ g. DownWhole z s g.conn (y.lane_at s k) left))
    whole_now s k left is =
        subst (λ (o : Option DataState). IfSome o (λ (z : DataState). IsSomeAnd d.first (λ (g : FirstTaken). DownWhole z s g.conn (y.lane_at s k) left)))
        (sym (step_site goes.node now input goes.data_outs goes.state x).node)
        (subst (λ (o : Option FirstTaken). IsSomeAnd o (λ (g : FirstTaken). DownWhole goes.state s g.conn (y.lane_at s k) left)) (sym (d_first ∙ at_first)) is)

    -- and was, where the node had it
    pub whole_was : (s k : ℕ) (left : List DownFrame) → WholeIf x s k (x.lane_at s k) c left → c.data_left ≡ false → k ≡ x.past
        → DownWhole goes.node s f.conn (x.lane_at s k) left
    whole_was s k left whole here past =
        subst (λ (o : Option FirstTaken). IsSomeAnd o (λ (g : FirstTaken). DownWhole goes.node s g.conn (x.lane_at s k) left)) at_first
        (of_some (λ (z : DataState). IsSomeAnd c.first (λ (g : FirstTaken). DownWhole z s g.conn (x.lane_at s k) left)) x.node goes.node goes.runs (whole here past))

    -- it was left if the data end doesn't have it now
    pub gone_left : role_of goes.state f.conn ≡ None → d.data_left ≡ false → ⊥
    gone_left none here = false≢true (sym here ∙ d_left_is ∙ ap (λ (o : Option Role). not (is_some o)) none)

    module _ (s k : ℕ) (its : c.its ≡ Some (record { session = s; order = k })) (may : Bool) (pre behind : List DownFrame) (all : downs_left c ≡ pre ++ behind)
        (way : DownWay (order_at v k) (stays_at v k) s (x.lane_at s k) may behind) (whole : WholeIf x s k (x.lane_at s k) c behind)
        (ordered : f.order ≡ k) (quiet : role_of goes.node f.conn ≡ Some (Bound s) → waiting_on f.conn goes.node.replies ≡ []) where
      low : k ≤ current v
      low = subst (λ (i : ℕ). i ≤ current v) ordered there

      pub later_way : DownWay (order_at w k) (stays_at w k) s (y.lane_at s k) may behind
      later_way =
          way_later (order_at v k) (order_at w k) (stays_at v k) (stays_at w k) s (x.lane_at s k) (y.lane_at s k) may behind (later.goes_on k low) (later.stays k low)
          (step.counts l c0 m server now input outs written new h run after_run shows allowed goes s k).down_taken (lane_goes_on (x.lane_at s k) (y.lane_at s k) (lanes s k)) way
        where
          later : Later x v w
          later = step.later l c0 m server now input outs written new h run after_run shows allowed goes

      -- nothing is put
      pub silent : put_on f.conn goes.data_outs.frames ≡ [] → WholeIf y s k (y.lane_at s k) d behind
          → WayAfter w y s k may (TellsNormal x goes.node s k) behind c d
      silent none still = record {
        put = [];
        left = d_left ∙ ap (λ (fs : List DownFrame). downs_left c ++ fs) none;
        its = after.is.its ∙ ap (λ (fs : List DownFrame). (with_downs (server_takes input x).past fs c).its) (put_is ∙ none);
        first = d_first;
        way = subst (λ (fs : List DownFrame). DownWay (order_at w k) (stays_at w k) s (y.lane_at s k) may fs) (sym (append-nil behind)) later_way;
        whole = subst (λ (fs : List DownFrame). WholeIf y s k (y.lane_at s k) d fs) (sym (append-nil behind)) still;
        calm = λ out. refl;
      }

      -- the node hasn't it
      pub none_here : role_of goes.node f.conn ≡ None → WayAfter w y s k may (TellsNormal x goes.node s k) behind c d
      none_here none =
          silent (puts.none f.conn none)
          (λ here past. absurd (true≢false (sym (left_is ∙ ap (λ (o : Option Role). not (is_some o)) none) ∙ after.is.left here)))

      -- the node has it for a session: that is the one, in the order that runs
      module _ (r : ℕ) (role : role_of goes.node f.conn ≡ Some (Bound r)) where
        bound_is : BoundIs x goes.node f.conn r
        bound_is = of_some (RoleIs x goes.node f.conn) (role_of goes.node f.conn) (Bound r) role (dials.roles f.conn)

        bound_to : (c.first ≡ Some (record { order = x.past; conn = f.conn })) × BoundTo x goes.node.order r c
        bound_to = linked_at x f.conn bound_is.app a n (BoundTo x goes.node.order r) c bound_is.linked linked it

        bound_past : k ≡ x.past
        bound_past = sym ordered ∙ ap (λ (z : FirstTaken). z.order) (some_is f (record { order = x.past; conn = f.conn }) (sym at_first ∙ bound_to.0))

        pub bound_same : r ≡ s
        bound_same =
            sym (ap (λ (p : Place). p.session) (of_some (λ (p : Place). p ≡ record { session = r; order = x.past }) c.its (record { session = s; order = k }) its bound_to.1.carries))

        no_reset : list_any is_reset_frame behind ≡ false
        no_reset =
            no_reset_behind pre behind (subst (λ (fs : List DownFrame). list_any is_reset_frame fs ≡ false) all (no_reset_dropped c.downs_taken c.downs bound_to.1.unreset))

      -- so it stands with what is put on it
      module _ (role : role_of goes.node f.conn ≡ Some (Bound s)) where
        way_past : DownWay (order_at v x.past) (stays_at v x.past) s (x.lane_at s x.past) may behind
        way_past = subst (λ (i : ℕ). DownWay (order_at v i) (stays_at v i) s (x.lane_at s i) may behind) (bound_past s role) way

        here_is : c.data_left ≡ false
        here_is = left_is ∙ ap (λ (o : Option Role). not (is_some o)) role

        whole_is : DownWhole goes.node s f.conn (x.lane_at s k) behind
        whole_is = whole_was s k behind whole here_is (bound_past s role)

        whole_past : numbered_downs behind ≡ numbered_behind (x.lane_at s x.past).down_taken (x.lane_at s x.past).down
        whole_past =
            subst (λ (i : ℕ). numbered_downs behind ≡ numbered_behind (x.lane_at s i).down_taken (x.lane_at s i).down) (bound_past s role) whole_is.whole

        ends_is : way_past.ends ≡ []
        ends_is =
            ends_none may (order_at v x.past) (stays_at v x.past) s way_past.its way_past.ends
            (subst (λ (fs : List DownFrame). list_any is_reset_frame fs ≡ false) way_past.all (no_reset s role)) way_past.reset

        -- it goes on
        goes_so : PutsGo (x.lane_at s x.past) (y.lane_at s x.past) f.conn s (is_some goes.node.round) goes.state (put_on f.conn goes.data_outs.frames)
            → WayAfter w y s x.past may (TellsNormal x goes.node s x.past) behind c d
        goes_so go = record {
          put = put_on f.conn goes.data_outs.frames;
          left = d_left;
          its = after.is.its ∙ ap (λ (fs : List DownFrame). (with_downs (server_takes input x).past fs c).its) put_is
              ∙ its_of_session (server_takes input x).past (put_on f.conn goes.data_outs.frames) c go.its.kinds;
          first = d_first;
          way = way_more (order_at v x.past) (order_at w x.past) (stays_at v x.past) (stays_at w x.past) s (x.lane_at s x.past) (y.lane_at s x.past) may behind
              (put_on f.conn goes.data_outs.frames) go.given within (lanes s x.past) go.down go.its whole_past way_past ends_is;
          whole = λ here now_past. whole_now s x.past (behind ++ put_on f.conn goes.data_outs.frames) still;
          calm = λ untold. calmly untold (is_some goes.node.round) refl;
        }
          where
            within : (x.lane_at s x.past).down_taken ≤ length (x.lane_at s x.past).down
            within = (step.counts l c0 m server now input outs written new h run after_run shows allowed goes s x.past).down_taken

            calmly : (TellsNormal x goes.node s x.past → ⊥) → (b : Bool) → is_some goes.node.round ≡ b
                → list_any is_normal_frame (put_on f.conn goes.data_outs.frames) ≡ false
            calmly untold true on = absurd (untold (on, (refl, (bound_is s role).lives)))
            calmly untold false out = go.normal out

            still : DownWhole goes.state s f.conn (y.lane_at s x.past) (behind ++ put_on f.conn goes.data_outs.frames)
            still = record {
              bound = go.bound;
              whole = whole_more (x.lane_at s x.past) (y.lane_at s x.past) behind (put_on f.conn goes.data_outs.frames) go.given within (lanes s x.past) go.down go.its whole_past;
              closed = go.closed;
            }

        pub bound_here : WayAfter w y s k may (TellsNormal x goes.node s k) behind c d
        bound_here = go (puts.bound f.conn s role (quiet role))
          where
            go : BoundAfter (x.lane_at s x.past) (y.lane_at s x.past) f.conn s (is_some goes.node.round) goes.state (put_on f.conn goes.data_outs.frames)
                → WayAfter w y s k may (TellsNormal x goes.node s k) behind c d
            go (inl so) = subst (λ (i : ℕ). WayAfter w y s i may (TellsNormal x goes.node s i) behind c d) (sym (bound_past s role)) (goes_so so)
            go (inr gone) = silent gone.0 (λ here now_past. absurd (gone_left gone.1 here))

      -- no connection that carries a session's messages is one that nothing came on, or that only a Hello came on
      pub new_not : role_of goes.node f.conn ≡ Some New → ⊥
      new_not role = unlinked (sym linked ∙ of_some (RoleIs x goes.node f.conn) (role_of goes.node f.conn) New role (dials.roles f.conn))
        where
          unlinked : ◌≡◌ {A = Option Linked} (Some (record { app = a; dial = n })) None → ⊥
          unlinked same = cc

      pub waiting_not : role_of goes.node f.conn ≡ Some Waiting → ⊥
      waiting_not role = none_its c.its its (waiting_untold x goes.node node_ends.callers f.conn a n c role linked it)
        where
          none_its : (o : Option Place) → o ≡ Some (record { session = s; order = k }) → o ≡ None → ⊥
          none_its o some none = cc
