-- What a step of a data server puts on a connection that carries no session's messages yet, from the invariant.
use Rattle.std.proofs.Common.{Bool, List, None, Option, Some, [], ap, arith, false, inl, inr, is_some, length, refl, subst, sym, true, ℕ, ◌==◌, ◌∙◌, ◌≡◌, ◌≢◌}
use Rattle.std.proofs.Common.{◌≤◌, ◌⊎◌}
use Rattle.std.proofs.lemmas.Bool.{eqb-true, false≢true, true≢false}
use Rattle.std.specs.Prelude.{nat_lt}
use Rattle.cluster_invariant.proofs.PieceDeeds.{does_piece}
use Rattle.cluster_invariant.proofs.PieceKinds.{Piece, makes}
use Rattle.cluster_invariant.proofs.PieceMay.{Coming, EntersMay, RecoverCame, begins}
use Rattle.cluster_invariant.proofs.Pieces.{MayMake}
use Rattle.cluster_invariant.specs.Dials.{NodeDials}
use Rattle.cluster_invariant.specs.Holds.{Holds}
use Rattle.cluster_invariant.specs.Link.{NodeLink}
use Rattle.cluster_invariant.specs.Waiting.{ReplyWaits, WaitsFor}
use Rattle.cluster_runs.specs.CoresState.{CoresState}
use Rattle.cluster_runs.specs.Goes.{ServerGoes, server_site}
use Rattle.cluster_runs.specs.Machine.{Machine, Site}
use Rattle.cluster_runs.specs.Mirrors.{Mirrors}
use Rattle.cluster_runs.specs.Moves.{Allowed}
use Rattle.cluster_runs.specs.Sent.{Lane}
use Rattle.cluster_runs.specs.declared.move_outs.MoveOuts.{MoveOuts}
use Rattle.data_rules.specs.Conns.{role_of}
use Rattle.data_rules.specs.Puts.{Sofar, becomes, begun, says_on}
use Rattle.data_rules.specs.Saving.{writes_synced}
use Rattle.data_rules.specs.Step.{DataMay, DataStep, made}
use Rattle.data_rules.specs.declared.data_in.DataIn.{DataIn}
use Rattle.data_rules.specs.declared.rows.Caller.{Caller}
use Rattle.data_rules.specs.declared.rows.Reply.{Reply}
use Rattle.data_rules.specs.declared.rows.Role.{Role}
use Rattle.data_rules.specs.declared.rows.Role.TheVariants.{Bound, Closing, New}
use Rattle.data_rules.specs.declared.rows.Says.{Says}
use Rattle.data_rules.specs.declared.rows.Says.TheVariants.{AnswerOf, EpochWelcome, GrantOf, NewWelcome, ResetOf}
use Rattle.ecp_messages.specs.declared.up.UpFrame.{UpFrame}
use Rattle.link_downs.proofs.OffConn.{Off, OffPut, is_off, listed, off_piece}
use Rattle.link_downs.proofs.OnConn.{put_on, waiting_on}
use Rattle.link_downs.proofs.OrderPieces.{count_step, item_comes, order_piece}
use Rattle.link_downs.proofs.ReplyLists.{none_may}
use Rattle.link_firsts.proofs.HelloConn.{CalledOn, HelloOn, hello_piece, is_calling}
use Rattle.link_firsts.proofs.TickFirsts.{tick_silent}
use Rattle.link_firsts.proofs.UntoldConn.{IsFirst, Untold}
use Rattle.link_firsts.proofs.UntoldGo.{untold_goes}
use Rattle.link_firsts.proofs.UntoldPieces.{untold_piece}
use Rattle.link_kept.proofs.FramesFit.{OnWay, on_way}
use Rattle.link_kept.proofs.WindowPieces.{PutsWell}
use Rattle.plain_orders.specs.declared.act.Act.{Act}
use Rattle.plain_orders.specs.declared.entry.Entry.{Entry}
use Rattle.plain_orders.specs.declared.layout.Layout.{Layout}
use Rattle.plain_runs.specs.Plain.{Server}
use Rattle.plain_runs.specs.Run.{IsRun, after_all, state_after}
use Rattle.cluster_runs.specs.declared.moves.Move.TheVariants.{Server as ServerMove}
use Rattle.data_rules.specs.declared.data_in.DataIn.TheVariants as data_in
use Rattle.data_ends_kept.proofs.NodeEndsServer as ends
use Rattle.link_nodes.proofs.ServedSteps as served
use Rattle.link_downs.proofs.StepWays as step

module _ (l : Layout) (c0 : CoresState) (m : Machine) (server now : ℕ) (input : DataIn) (outs : MoveOuts) (written : List Act) (new : Machine)
    (h : Holds l m) (run : IsRun l m.trail) (after_run : IsRun l new.trail) (shows : Mirrors c0 m) (allowed : Allowed c0 (ServerMove server now input))
    (goes : ServerGoes m server now input outs written new) where
  abbrev pub x : Site
  x = m.site_at server

  abbrev pub v : Server
  v = (state_after l m.trail).server_at server

  abbrev pub w : Server
  w = (after_all l (state_after l m.trail) written).server_at server

  abbrev pub y : Site
  y = server_site goes.node now input goes.data_outs goes.state (m.site_at server)

  abbrev pub t : Coming
  t = record { old = goes.node; now = now; input = input }

  abbrev pub lane_of : ℕ → Lane
  lane_of s = (m.site_at server).lane_at s (m.site_at server).past

  node : NodeLink v x m.is_dead_at goes.node
  node = ends.link l c0 m server now input outs written new h run shows allowed goes

  dials : NodeDials x goes.node
  dials = ends.dials l c0 m server now input outs written new h run shows allowed goes

  may : DataMay goes.node input
  may = ends.may l c0 m server now input outs written new h run shows allowed goes

  synced_within : goes.node.synced ≤ length goes.node.order
  synced_within = served.within l c0 m server now input outs written new h run shows allowed goes

  -- a connection that comes was unknown
  no_conn : (q : ℕ) (r : Role) → role_of goes.node q ≡ Some r → input ≡ data_in.Connected q → ⊥
  no_conn q r role same = false≢true (sym (subst (DataMay goes.node) same may) ∙ ap (λ (o : Option Role). is_some o) role)

  -- one that the node doesn't have
  pub gone_silent : (q : ℕ) → role_of goes.node q ≡ None → (input ≡ data_in.Tick → ⊥) → (input ≡ data_in.Connected q → ⊥) → put_on q goes.data_outs.frames ≡ []
  gone_silent q none no_tick fresh =
      off_put (step.off_after l c0 m server now input outs written new h run after_run shows allowed goes q false None (λ r same. absurd cc)
      (ap (is_off false) none) no_replies no_tick fresh)
    where
      no_one : {X : Type 0} {z : X} → None ≡ Some z → ⊥
      no_one same = cc

      off_put : Off q false None (made goes.state goes.data_outs) → put_on q goes.data_outs.frames ≡ []
      off_put off = by off.put
        where
          by : OffPut q None (made goes.state goes.data_outs) → put_on q goes.data_outs.frames ≡ []
          by (inl is) = is.0
          by (inr left) = absurd (no_one left.0.waited)

      at_conn : (i : ℕ) (r : Role) → role_of goes.node i ≡ Some r → (i == q) ≡ true → ⊥
      at_conn i r role on = (let both : Some r ≡ None = sym role ∙ ap (role_of goes.node) (eqb-true i q on) ∙ none in absurd cc)

      bad : (at : ℕ) (z : Says) → WaitsFor v x goes.node at z → says_on q z ≡ true → ⊥
      bad at (NewWelcome conn session) is on = at_conn conn (Bound session) is.bound on
      bad at (EpochWelcome conn session kept) is on = at_conn conn (Bound session) is.bound on
      bad at (ResetOf conn session place) is on = at_conn conn (Closing session) is.closing on
      bad at (GrantOf session ticket number) is on = false≢true on
      bad at (AnswerOf session about job number place sum) is on = false≢true on

      no_replies : waiting_on q goes.node.replies ≡ []
      no_replies = none_may (ReplyWaits v x goes.node) q goes.node.replies (λ r is on. bad r.at r.says is.says on) node.replies

  -- a tick
  pub ticked_silent : (q : ℕ) → input ≡ data_in.Tick
      → ((s : ℕ) → role_of goes.node q ≡ Some (Bound s) → ((m.site_at server).lane_at s (m.site_at server).past).began ≡ None)
      → put_on q goes.data_outs.frames ≡ []
  ticked_silent q came unlearnt =
      tick_silent v x m.is_dead_at goes.node goes.state now goes.data_outs node dials.differ
      (subst (λ (i : DataIn). DataStep goes.node now i goes.data_outs goes.state) came goes.steps) q unlearnt

  -- the connection of a live session that didn't learn of the order
  module _ (q s : ℕ) (role : role_of goes.node q ≡ Some (Bound s)) (unlearnt : (x.lane_at s x.past).began ≡ None) (ws : Option Reply)
      (waits : waiting_on q goes.node.replies ≡ listed ws)
      (firsts : (r : Reply) → ws ≡ Some r → IsFirst q s r.says) (no_tick : input ≡ data_in.Tick → ⊥) where
    -- nothing comes on it
    no_frame : (f : UpFrame) → input ≡ data_in.Frame q f → ⊥
    no_frame f came = go (on_way x m.is_dead_at t (ends.at_frame l c0 m server now input outs written new h run shows allowed goes) q s f came role)
      where
        go : OnWay x m.is_dead_at t (ends.at_frame l c0 m server now input outs written new h run shows allowed goes) s f → ⊥
        go o = absurd (cc (o.way.none unlearnt))

    begins_untold : (i : DataIn) → DataMay goes.node i → Untold goes.node q s ws (begins (record { old = goes.node; now = now; input = i }))
    begins_untold i may_i = go i may_i at_old
      where
        at_old : Untold goes.node q s ws (begun goes.node)
        at_old = record { role = role; within = synced_within; counted = refl; what = inl (refl, inr waits) }

        go : (j : DataIn) → DataMay goes.node j → Untold goes.node q s ws (begun goes.node)
            → Untold goes.node q s ws (begins (record { old = goes.node; now = now; input = j }))
        go (data_in.Frame conn f) m u = u
        go (data_in.Connected conn) m u = u
        go (data_in.Broken conn) m u = u
        go data_in.Tick m u = u
        go (data_in.Saved upto) m u = by (nat_lt goes.node.synced upto)
          where
            by : (rises : Bool) → Untold goes.node q s ws (becomes (λ d. record d { synced = upto }) (writes_synced rises upto (begun goes.node)))
            by true = record { role = role; within = m.within; counted = refl; what = inl (refl, inr waits) }
            by false = record { role = role; within = m.within; counted = refl; what = inl (refl, inr waits) }

    pub untold_after : Untold goes.node q s ws (made goes.state goes.data_outs) ⊎ Off q false None (made goes.state goes.data_outs)
    untold_after =
        step.by_step l c0 m server now input outs written new h run after_run shows allowed goes (λ b. Untold goes.node q s ws b ⊎ Off q false None b) keeps
        (inl (begins_untold input may))
      where
        W : Caller → Type 0
        W = ends.W l c0 m server now input outs written new h run shows allowed goes

        recovers : (conn app session : ℕ) (b : Sofar) → RecoverCame t conn app session b → conn ≢ q
        recovers conn app session b came same =
            (let both : Some New ≡ Some (Bound s) = sym came.firstly.was_new ∙ ap (role_of goes.node) same ∙ role in absurd cc)

        others : (b : Sofar) → served.Known l c0 m server now input outs written new h run shows allowed goes b → (e : Entry) (enters : EntersMay t e b)
            → enters.session ≢ s
        others b k e enters same =
            false≢true (sym (ap (λ (o : Option ℕ). is_some o) unlearnt) ∙ ap (λ (n : ℕ). is_some (lane_of n).began) (sym same)
            ∙ served.learnt_here l c0 m server now input outs written new h run shows allowed goes enters.its.conn enters.session enters.its.up b k
            enters.its.on.came
            (item_comes enters.session enters.its.up.message e enters.item) enters.its.on.bound)

        keeps : (z : Piece) (b : Sofar) → MayMake t z b → PutsWell lane_of z b
            → served.Known l c0 m server now input outs written new h run shows allowed goes b
            → Untold goes.node q s ws b ⊎ Off q false None b → Untold goes.node q s ws (makes now z b) ⊎ Off q false None (makes now z b)
        keeps z b made_so well k (inl u) =
            untold_goes t q s ws no_frame firsts b u k.along.ends.grown.epoch k.bounds.longer (makes now z b) (does_piece t z b made_so).synced
            (order_piece t z b made_so)
            (count_step t b (makes now z b).state.order s (others b k) (order_piece t z b made_so))
            (untold_piece l (state_after l m.trail) server v.synced t W lane_of q s unlearnt no_tick (no_conn q (Bound s) role) recovers z b made_so well
            k.along k.bounds u.role)
        keeps z b made_so well k (inr off) =
            inr (off_piece l (state_after l m.trail) server v.synced t W q false None (λ r is. absurd cc) no_tick (no_conn q (Bound s) role) z b made_so
            k.along off)

  -- one that a Hello came on, or may come on
  module _ (q : ℕ) (calls : is_calling (role_of goes.node q) ≡ true) (no_tick : input ≡ data_in.Tick → ⊥)
      (no_recover : (conn app session : ℕ) (b : Sofar) → RecoverCame t conn app session b → conn ≢ q) where
    called_conn : input ≡ data_in.Connected q → ⊥
    called_conn same = go (role_of goes.node q) calls (subst (DataMay goes.node) same may)
      where
        go : (o : Option Role) → is_calling o ≡ true → is_some o ≡ false → ⊥
        go None calls_o none = false≢true calls_o
        go (Some r) calls_o none = true≢false none

    -- nothing waits for it
    none_there : waiting_on q goes.node.replies ≡ []
    none_there = none_may (ReplyWaits v x goes.node) q goes.node.replies (λ r is on. bad r.at r.says is.says on) node.replies
      where
        at_conn : (i : ℕ) (r : Role) → role_of goes.node i ≡ Some r → is_calling (Some r) ≡ false → (i == q) ≡ true → ⊥
        at_conn i r role other on = true≢false (sym calls ∙ ap is_calling (ap (role_of goes.node) (sym (eqb-true i q on)) ∙ role) ∙ other)

        bad : (at : ℕ) (z : Says) → WaitsFor v x goes.node at z → says_on q z ≡ true → ⊥
        bad at (NewWelcome conn session) is on = at_conn conn (Bound session) is.bound refl on
        bad at (EpochWelcome conn session kept) is on = at_conn conn (Bound session) is.bound refl on
        bad at (ResetOf conn session place) is on = at_conn conn (Closing session) is.closing refl on
        bad at (GrantOf session ticket number) is on = false≢true on
        bad at (AnswerOf session about job number place sum) is on = false≢true on

    abbrev HelloAt : Sofar → Type 0
    HelloAt b = HelloOn t q b × (b.state.synced ≤ length goes.node.order)

    begins_hello : (i : DataIn) → DataMay goes.node i
        → CalledOn q (begins (record { old = goes.node; now = now; input = i }))
        × ((begins (record { old = goes.node; now = now; input = i })).state.synced ≤ length goes.node.order)
    begins_hello i may_i = go i may_i
      where
        at_old : CalledOn q (begun goes.node)
        at_old = record { role = calls; waits = none_there }

        go : (j : DataIn) → DataMay goes.node j
            → CalledOn q (begins (record { old = goes.node; now = now; input = j }))
            × ((begins (record { old = goes.node; now = now; input = j })).state.synced ≤ length goes.node.order)
        go (data_in.Frame conn f) m = (at_old, synced_within)
        go (data_in.Connected conn) m = (at_old, synced_within)
        go (data_in.Broken conn) m = (at_old, synced_within)
        go data_in.Tick m = (at_old, synced_within)
        go (data_in.Saved upto) m = by (nat_lt goes.node.synced upto)
          where
            After : Bool → Sofar
            After rises = becomes (λ d. record d { synced = upto }) (writes_synced rises upto (begun goes.node))

            by : (rises : Bool) → CalledOn q (After rises) × ((After rises).state.synced ≤ length goes.node.order)
            by true = (record { role = calls; waits = none_there }, m.within)
            by false = (record { role = calls; waits = none_there }, m.within)

    pub hello_after : HelloOn t q (made goes.state goes.data_outs)
    hello_after =
        (step.by_step l c0 m server now input outs written new h run after_run shows allowed goes HelloAt
        (λ z b made_so well k g. (
          hello_piece l (state_after l m.trail) server v.synced t (ends.W l c0 m server now input outs written new h run shows allowed goes) lane_of q
              (served.to_open l c0 m server now input outs written new h run shows allowed goes) no_tick called_conn no_recover z b made_so well k.along
              k.bounds g.1 g.0,
          omega (arith, (does_piece t z b made_so).synced, g.1),
        ))
        (let first : CalledOn q (begins t) × ((begins t).state.synced ≤ length goes.node.order) = begins_hello input may in (inl first.0, first.1))).0
