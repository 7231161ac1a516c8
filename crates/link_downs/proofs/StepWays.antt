-- What a step of a data server came to on one of its connections, from the invariant.
use Rattle.std.proofs.Common.{◌≡◌, ◌≢◌, ◌≤◌, ◌⊎◌, inl, inr, ◌+◌, ◌-◌, ℕ, Bool, true, false, List, [], ◌∷◌, ◌++◌, length, drop, filter, Option, Some, None, is_some, refl, sym, ◌∙◌, ap, subst, arith}
use Rattle.std.specs.Prelude.{◌&&◌, nat_lt, not}
use Rattle.std.specs.List.{AllByRecursion, list_any}
use Rattle.std.proofs.lemmas.Bool.{false≢true, true≢false}
use Rattle.std.proofs.lemmas.List.{append-nil, drop-drop, length-drop}
use Rattle.std.proofs.Math.Seq.{drop-append_seam}
use Rattle.plain_orders.specs.declared.act.Act.{Act}
use Rattle.plain_orders.specs.declared.entry.Entry.{Entry}
use Rattle.plain_orders.specs.declared.layout.Layout.{Layout}
use Rattle.plain_orders.specs.Entries.{count, live}
use Rattle.plain_runs.specs.Plain.{Plain, Server, current, put, start}
use Rattle.plain_runs.specs.Run.{IsRun, after_all, state_after}
use Rattle.plain_runs.proofs.RunLemmas.{after_all-append}
use Rattle.ecp_messages.specs.declared.down.Down.{Down}
use Rattle.ecp_messages.specs.declared.up.UpFrame.{UpFrame}
use Rattle.end_words.specs.Windows.{Window, sent}
use Rattle.lock_table.specs.declared.rows.Request.{Request}
use Rattle.data_rules.specs.declared.data_in.DataIn.{DataIn}
use Rattle.data_rules.specs.declared.data_in.DataIn.TheVariants as data_in
use Rattle.data_rules.specs.declared.rows.Caller.{Caller}
use Rattle.data_rules.specs.declared.rows.Reply.{Reply}
use Rattle.data_rules.specs.declared.rows.Role.{Role}
use Rattle.data_rules.specs.declared.rows.Role.TheVariants.{Bound}
use Rattle.data_rules.specs.DataState.{DataState}
use Rattle.data_rules.specs.Conns.{role_of}
use Rattle.data_rules.specs.Puts.{Sofar, becomes, begun, conn_of, window_of}
use Rattle.data_rules.specs.Saving.{writes_synced}
use Rattle.data_rules.specs.Step.{DataMay, made}
use Rattle.cluster_runs.specs.declared.move_outs.MoveOuts.{MoveOuts}
use Rattle.cluster_runs.specs.declared.moves.Move.TheVariants.{Server as ServerMove}
use Rattle.cluster_runs.specs.CoresState.{CoresState}
use Rattle.cluster_runs.specs.Goes.{ServerGoes, at_site, server_site}
use Rattle.cluster_runs.specs.Lanes.{downs_given, is_closed_by, with_data_step}
use Rattle.cluster_runs.specs.Machine.{Machine, Site, with_acts}
use Rattle.cluster_runs.specs.Mirrors.{Mirrors}
use Rattle.cluster_runs.specs.Moves.{Allowed}
use Rattle.cluster_runs.specs.Sent.{Lane}
use Rattle.cluster_invariant.specs.Asks.{NodeAsks}
use Rattle.cluster_invariant.specs.Dials.{DialsAre, NodeDials, RoleIs}
use Rattle.cluster_invariant.specs.Holds.{Holds}
use Rattle.cluster_invariant.specs.Link.{LaneCounts, NodeLink, NodeWindows, WindowIs}
use Rattle.cluster_invariant.specs.Orders.{NodeOrder}
use Rattle.cluster_invariant.specs.Served.{IsServed}
use Rattle.cluster_invariant.proofs.AllLists.{all_follow}
use Rattle.cluster_invariant.proofs.Deeds.{order_by}
use Rattle.cluster_invariant.proofs.OrderRows.{StepWrote}
use Rattle.cluster_invariant.proofs.PastOrders.{order_now}
use Rattle.cluster_invariant.proofs.PieceKinds.{Piece, makes}
use Rattle.cluster_invariant.proofs.PieceMay.{AskersLive, Coming, EntersMay, begins}
use Rattle.cluster_invariant.proofs.Pieces.{MayMake}
use Rattle.cluster_invariant.proofs.Small.{of_some, put_same}
use Rattle.asks_kept.proofs.AsksFit.{asks_fit, cancels_fit, claims_fit}
use Rattle.data_ends_kept.proofs.NodeEndsServer as ends
use Rattle.data_puts.proofs.SpokenPieces.{begins_frames}
use Rattle.dials_firsts.proofs.DialsMoves.{dials_stay}
use Rattle.link_kept.proofs.AppLater.{LaneLater}
use Rattle.link_kept.proofs.FitsWell.{may_close}
use Rattle.link_kept.proofs.FramesFit.{FrameAt, acknowledges_well, takes_well}
use Rattle.link_kept.proofs.Later.{Later}
use Rattle.link_kept.proofs.ServesServer.{ServesAfter}
use Rattle.link_kept.proofs.WindowPieces.{PutsWell}
use Rattle.link_kept.proofs.WindowsServer.{LanesGrow, server_lanes}
use Rattle.link_nodes.proofs.ServedSteps.{AsksLeft, Known, learnt_here, served_by_step}
use Rattle.link_downs.proofs.BoundPieces.{Stands, stands_piece}
use Rattle.link_downs.proofs.BoundPuts.{Keeps}
use Rattle.link_downs.proofs.NumberedPuts.{put_none}
use Rattle.link_downs.proofs.OffConn.{Off, SaysReset, is_off, listed, off_piece}
use Rattle.link_downs.proofs.OnConn.{put_on, waiting_on}
use Rattle.link_downs.proofs.OrderPieces.{count_step, item_comes, order_piece}
use Rattle.link_downs.proofs.ServerLater.{later_step, wrote}

module _ (l : Layout) (c : CoresState) (m : Machine) (server now : ℕ) (input : DataIn) (outs : MoveOuts) (written : List Act) (new : Machine)
    (h : Holds l m) (run : IsRun l m.trail) (after_run : IsRun l new.trail) (shows : Mirrors c m) (allowed : Allowed c (ServerMove server now input))
    (goes : ServerGoes m server now input outs written new) where
  abbrev pub x : Site
  x = m.site_at server

  abbrev pub v : Server
  v = (state_after l m.trail).server_at server

  -- the plain server after the step
  abbrev pub w : Server
  w = (after_all l (state_after l m.trail) written).server_at server

  abbrev pub old : DataState
  old = goes.node

  abbrev pub next : DataState
  next = goes.state

  abbrev pub y : Site
  y = server_site goes.node now input goes.data_outs goes.state (m.site_at server)

  abbrev pub t : Coming
  t = record { old = goes.node; now = now; input = input }

  abbrev pub lane_of : ℕ → Lane
  lane_of s = (m.site_at server).lane_at s (m.site_at server).past

  abbrev pub done : Sofar
  done = made goes.state goes.data_outs

  node : NodeLink ((state_after l m.trail).server_at server) (m.site_at server) m.is_dead_at goes.node
  node = ends.link l c m server now input outs written new h run shows allowed goes

  asks : NodeAsks (λ s. (m.site_at server).lane_at s (m.site_at server).past) goes.node
  asks = of_some (NodeAsks (λ s. (m.site_at server).lane_at s (m.site_at server).past)) (m.site_at server).node goes.node goes.runs (h.sites server).asks.node

  askers : AskersLive goes.node
  askers =
      all_follow (λ (r : Request). IsServed (m.site_at server) goes.node r.who.session) (λ (r : Request). live goes.node.order r.who.session ≡ true) (λ r is. is.lives)
      goes.node.locks.requests node.serves.requests

  pub left : AsksLeft (λ s. (m.site_at server).lane_at s (m.site_at server).past) (record { old = goes.node; now = now; input = input })
  left = record {
    asks = λ r b may. asks_fit (m.site_at server) m.is_dead_at (record { old = goes.node; now = now; input = input })
        (ends.at_frame l c m server now input outs written new h run shows allowed goes) (h.sites server).asks.lanes asks r b may;
    claims = λ who key mode number at b may. claims_fit (m.site_at server) m.is_dead_at (record { old = goes.node; now = now; input = input })
        (ends.at_frame l c m server now input outs written new h run shows allowed goes) (h.sites server).asks.lanes asks who mode number at key b may.asked;
    cancels = λ r b is may. cancels_fit (m.site_at server) m.is_dead_at (record { old = goes.node; now = now; input = input })
        (ends.at_frame l c m server now input outs written new h run shows allowed goes) (h.sites server).asks.lanes asks r b askers is.waits may;
  }

  abbrev KnownAt : Sofar → Type 0
  KnownAt b = Known l c m server now input outs written new h run shows allowed goes b

  -- What each small change keeps holds where the step ends.
  pub by_step : (G : Sofar → Type 0) → ((q : Piece) (b : Sofar) → MayMake t q b → PutsWell lane_of q b → KnownAt b → G b → G (makes now q b)) → G (begins t) → G done
  by_step G keeps first = (served_by_step l c m server now input outs written new h run shows allowed goes left G keeps first).1.1

  pub served_so : ServesAfter goes.node goes.state (m.site_at server) (server_site goes.node now input goes.data_outs goes.state (m.site_at server)) (may_close input)
  served_so = (served_by_step l c m server now input outs written new h run shows allowed goes left (λ b. Unit {0}) (λ q b made_so well k g. tt) tt).0

  pub lanes_later : (s k : ℕ) → LaneLater ((m.site_at server).lane_at s k) ((server_site goes.node now input goes.data_outs goes.state (m.site_at server)).lane_at s k)
  lanes_later s k = served_so.goes_on s k

  pub counts : (s k : ℕ) → LaneCounts ((m.site_at server).lane_at s k)
  counts s k = (h.sites server).link.lanes s k

  -- the order of the node is the plain one
  pub order_node : NodeOrder l server (m.site_at server).past ((state_after l m.trail).server_at server) goes.node
  order_node = ends.order l c m server now input outs written new h run shows allowed goes

  pub past_now : (m.site_at server).past ≡ current ((state_after l m.trail).server_at server)
  past_now = (h.sites server).order.past

  -- nothing more counts of a session whose application server didn't learn of the order
  counted : (s : ℕ) → (lane_of s).began ≡ None → count goes.state.order s ≡ count goes.node.order s
  counted s unlearnt = by_step (λ b. count b.state.order s ≡ count goes.node.order s) (λ q b made_so well k g. count_step t b (makes now q b).state.order s (others b k) (order_piece t q b made_so) ∙ g) (first input)
    where
      first : (i : DataIn) → count (begins (record { old = goes.node; now = now; input = i })).state.order s ≡ count goes.node.order s
      first (data_in.Frame conn f) = refl
      first (data_in.Connected conn) = refl
      first (data_in.Broken conn) = refl
      first data_in.Tick = refl
      first (data_in.Saved upto) = go (nat_lt goes.node.synced upto)
        where
          go : (rises : Bool) → count (becomes (λ d. record d { synced = upto }) (writes_synced rises upto (begun goes.node))).state.order s ≡ count goes.node.order s
          go true = refl
          go false = refl

      others : (b : Sofar) → KnownAt b → (e : Entry) (enters : EntersMay t e b) → enters.session ≢ s
      others b k e enters same =
          false≢true (sym (ap (λ (o : Option ℕ). is_some o) unlearnt) ∙ ap (λ (n : ℕ). is_some (lane_of n).began) (sym same)
          ∙ learnt_here l c m server now input outs written new h run shows allowed goes enters.its.conn enters.session enters.its.up b k enters.its.on.came
          (item_comes enters.session enters.its.up.message e enters.item) enters.its.on.bound)

  pub later : Later (m.site_at server) ((state_after l m.trail).server_at server) ((after_all l (state_after l m.trail) written).server_at server)
  later = later_step l c m server now input outs written new h run shows allowed goes (λ s unlearnt. orders s (ap (λ (k : ℕ). ((m.site_at server).lane_at s k).began) past_now ∙ unlearnt))
    where
      wr : StepWrote server goes.node goes.state (state_after l m.trail) (after_all l (state_after l m.trail) written)
      wr = wrote l c m server now input outs written new h run shows allowed goes

      orders : (s : ℕ) → (lane_of s).began ≡ None → count w.order s ≡ count v.order s
      orders s unlearnt = ap (λ (es : List Entry). count es s) same ∙ counted s unlearnt ∙ ap (λ (es : List Entry). count es s) order_node.order
        where
          same : w.order ≡ goes.state.order
          same = wr.order ∙ ap (order_by wr.deeds) (sym order_node.order) ∙ sym wr.its

  -- the connections after it
  pub dials_after : DialsAre ((after_all l (state_after l m.trail) written).server_at server) (server_site goes.node now input goes.data_outs goes.state (m.site_at server)) m.is_dead_at
  dials_after =
      subst (λ (p : Plain). DialsAre (p.server_at server) y m.is_dead_at) (after_all-append l start m.trail written)
      (subst (λ (z : Site). DialsAre ((state_after l (m.trail ++ written)).server_at server) z m.is_dead_at) (put_same m.site_at server y)
      (at_new goes.after (dials_stay l c m (ServerMove server now input) outs written new h run after_run shows allowed goes server)))
    where
      at_new : new ≡ with_acts written (at_site server (server_site goes.node now input goes.data_outs goes.state) m) → DialsAre ((state_after l new.trail).server_at server) (new.site_at server) new.is_dead_at
          → DialsAre ((state_after l (m.trail ++ written)).server_at server) (put m.site_at server y server) m.is_dead_at
      at_new same is = subst (λ (n : Machine). DialsAre ((state_after l n.trail).server_at server) (n.site_at server) n.is_dead_at) same is

  -- where the connection is a live session's

  module _ (q s : ℕ) (bound : role_of goes.node q ≡ Some (Bound s)) (quiet : waiting_on q goes.node.replies ≡ []) where
    lane : Lane
    lane = lane_of s

    pub was : WindowIs (window_of goes.node s) (lane_of s).down (lane_of s).down_taken (lane_of s).up_taken
    was = node.windows.each s ((ends.hold l c m server now input outs written new h run shows allowed goes).bound q s bound).0

    unfoldable pub at_old : Keeps (lane_of s) q s (is_some goes.node.round) (begun goes.node)
    at_old = record {
      its = ((ends.hold l c m server now input outs written new h run shows allowed goes).bound q s bound).1;
      only = λ n role. one n (sym ((ends.hold l c m server now input outs written new h run shows allowed goes).bound n s role).1
          ∙ ((ends.hold l c m server now input outs written new h run shows allowed goes).bound q s bound).1);
      lives = ((ends.hold l c m server now input outs written new h run shows allowed goes).bound q s bound).0;
      given = [];
      acked = was.acked;
      waiting = was.waiting ∙ ap (drop (window_of goes.node s).acked) (sym (append-nil (lane_of s).down));
      taken = omega (arith, was.taken);
      put = put_none (length (lane_of s).down) (window_of goes.node s).taken;
      normal = λ out. refl;
      quiet = quiet;
    }
      where
        one : (n : ℕ) → Some n ≡ Some q → n ≡ q
        one n same = cc

    begins_kept : (i : DataIn) → Keeps (lane_of s) q s (is_some goes.node.round) (begins (record { old = goes.node; now = now; input = i }))
    begins_kept (data_in.Frame conn f) = at_old
    begins_kept (data_in.Connected conn) = at_old
    begins_kept (data_in.Broken conn) = at_old
    begins_kept data_in.Tick = at_old
    begins_kept (data_in.Saved upto) = go (nat_lt goes.node.synced upto) at_old
      where
        go : (rises : Bool) → Keeps (lane_of s) q s (is_some goes.node.round) (begun goes.node)
            → Keeps (lane_of s) q s (is_some goes.node.round) (becomes (λ d. record d { synced = upto }) (writes_synced rises upto (begun goes.node)))
        go true k = record { its = k.its; only = k.only; lives = k.lives; given = k.given; acked = k.acked; waiting = k.waiting; taken = k.taken; put = k.put; normal = k.normal; quiet = k.quiet }
        go false k = record { its = k.its; only = k.only; lives = k.lives; given = k.given; acked = k.acked; waiting = k.waiting; taken = k.taken; put = k.put; normal = k.normal; quiet = k.quiet }

    pub stands_after : (input ≡ data_in.Tick → ⊥) → Stands (lane_of s) q s (is_some goes.node.round) done
    stands_after no_tick =
        by_step (Stands (lane_of s) q s (is_some goes.node.round))
        (λ x b made_so well k g.
        stands_piece l (state_after l m.trail) server v.synced t (ends.W l c m server now input outs written new h run shows allowed goes) (lane_of s) q s (counts s (m.site_at server).past).down_taken no_tick no_conn
        bound (λ conn f e may. (acknowledges_well (m.site_at server) m.is_dead_at t at_frame conn s f e may).came)
        (λ conn f e may. (takes_well (m.site_at server) m.is_dead_at t at_frame conn s f e may).comes.came) x b made_so k.along g)
        (inl (begins_kept input))
      where
        at_frame : FrameAt (m.site_at server) m.is_dead_at goes.node input
        at_frame = ends.at_frame l c m server now input outs written new h run shows allowed goes

        no_conn : input ≡ data_in.Connected q → ⊥
        no_conn same =
            false≢true (sym (subst (DataMay goes.node) same (ends.may l c m server now input outs written new h run shows allowed goes)) ∙ ap (λ (o : Option Role). is_some o) bound)

    -- what the lane was given
    pub given_so : (k : Keeps (lane_of s) q s (is_some goes.node.round) done) → (y.lane_at s (m.site_at server).past).down ≡ (lane_of s).down ++ k.given
    given_so k = ap (λ (z : Lane). z.down) (grow.here s) ∙ ap (λ (ms : List Down). (lane_of s).down ++ ms) given
      where
        grow : LanesGrow goes.node goes.state goes.data_outs (m.site_at server) (server_site goes.node now input goes.data_outs goes.state (m.site_at server))
        grow = server_lanes goes.node now input goes.data_outs goes.state (m.site_at server)

        closed_false : (a b : Bool) → b ≡ true → (a && not b) ≡ false
        closed_false true b is = ap not is
        closed_false false b is = refl

        so_far : sent (window_of goes.node s) ≡ length (lane_of s).down
        so_far =
            ap (λ (ms : List Down). (window_of goes.node s).acked + length ms) was.waiting
            ∙ omega (arith, was.acked, (counts s (m.site_at server).past).down_taken, length-drop (window_of goes.node s).acked (lane_of s).down)

        same : (window_of goes.state s).acked + (length (lane_of s).down - (window_of goes.state s).acked) ≡ length (lane_of s).down
        same = omega (arith, k.acked, (counts s (m.site_at server).past).down_taken)

        given : downs_given (is_closed_by goes.node goes.state s) goes.node goes.state s ≡ k.given
        given =
            ap (λ (b : Bool). downs_given b goes.node goes.state s) (closed_false (live goes.node.order s) (live goes.state.order s) k.lives)
            ∙ ap (λ (n : ℕ). drop (n - (window_of goes.state s).acked) (window_of goes.state s).waiting) so_far
            ∙ ap (drop (length (lane_of s).down - (window_of goes.state s).acked)) k.waiting
            ∙ drop-drop (length (lane_of s).down - (window_of goes.state s).acked) (window_of goes.state s).acked ((lane_of s).down ++ k.given)
            ∙ ap (λ (n : ℕ). drop n ((lane_of s).down ++ k.given)) same
            ∙ drop-append_seam (lane_of s).down k.given

  -- where it is no live session's

  module _ (q : ℕ) (closing : Bool) (ws : Option Reply) (resets : (r : Reply) → ws ≡ Some r → SaysReset q r) (off : is_off closing (role_of goes.node q) ≡ true)
      (waits : waiting_on q goes.node.replies ≡ listed ws) (no_tick : input ≡ data_in.Tick → ⊥) (no_conn : input ≡ data_in.Connected q → ⊥) where
    begins_off : (i : DataIn) → Off q closing ws (begins (record { old = goes.node; now = now; input = i }))
    begins_off i = go i
      where
        at_old : Off q closing ws (begun goes.node)
        at_old = record { off = off; put = inl (refl, inr waits) }

        go : (j : DataIn) → Off q closing ws (begins (record { old = goes.node; now = now; input = j }))
        go (data_in.Frame conn f) = at_old
        go (data_in.Connected conn) = at_old
        go (data_in.Broken conn) = at_old
        go data_in.Tick = at_old
        go (data_in.Saved upto) = by (nat_lt goes.node.synced upto)
          where
            by : (rises : Bool) → Off q closing ws (becomes (λ d. record d { synced = upto }) (writes_synced rises upto (begun goes.node)))
            by true = record { off = off; put = inl (refl, inr waits) }
            by false = record { off = off; put = inl (refl, inr waits) }

    pub off_after : Off q closing ws done
    off_after =
        by_step (Off q closing ws)
        (λ x b made_so well k g.
        off_piece l (state_after l m.trail) server v.synced t (ends.W l c m server now input outs written new h run shows allowed goes) q closing ws resets no_tick no_conn x b made_so k.along g)
        (begins_off input)
