-- An end that asked where its data connection is a session's: nothing is put on it, or the Welcome of a new epoch that waited; and what is
-- known of its connection.
use Rattle.std.proofs.Common.{List, None, Option, Some, [], ap, arith, drop, false, inl, inr, is_some, length, refl, subst, sym, true, ℕ, ◌++◌, ◌∙◌, ◌∷◌, ◌≡◌}
use Rattle.std.proofs.Common.{◌≢◌, ◌≤◌, ◌⊎◌}
use Rattle.std.proofs.lemmas.Bool.{eqb-true, false≢true, leb-true, or_parts, true≢false}
use Rattle.std.specs.List.{AllByRecursion, list_any}
use Rattle.std.specs.Prelude.{IfSome, IsSomeAnd}
use Rattle.app_rules.specs.AppState.{Session}
use Rattle.app_rules.specs.declared.line.Line.{Line}
use Rattle.app_rules.specs.declared.line.Line.TheVariants.{Asking}
use Rattle.cluster_invariant.proofs.PieceMay.{Coming}
use Rattle.cluster_invariant.proofs.Small.{of_some}
use Rattle.cluster_invariant.specs.Dials.{BoundIs, BoundTo, CameFor, FirstIs, KnowsStill, NodeDials, RoleIs}
use Rattle.cluster_invariant.specs.Ends.{ToldPlace}
use Rattle.cluster_invariant.specs.Holds.{Holds}
use Rattle.cluster_invariant.specs.Link.{AskedFirst, AskedWay, EpochWelcomeOn, NodeLink}
use Rattle.cluster_invariant.specs.Waiting.{OnLinked, ReplyWaits, WaitsEpoch, WaitsEpochOn, WaitsFor, WaitsNewOn}
use Rattle.cluster_invariant.specs.Words.{downs_left, is_reset_down, is_reset_frame, stays_at}
use Rattle.cluster_runs.specs.Connections.{knows, knows_of, link_of, welcomed, with_downs}
use Rattle.cluster_runs.specs.CoresState.{CoresState, Linked}
use Rattle.cluster_runs.specs.Goes.{ServerGoes, server_site}
use Rattle.cluster_runs.specs.Machine.{Machine, Site}
use Rattle.cluster_runs.specs.Mirrors.{Mirrors}
use Rattle.cluster_runs.specs.Moves.{Allowed}
use Rattle.cluster_runs.specs.Sent.{Connection, FirstTaken, Knew, Mark, Place}
use Rattle.cluster_runs.specs.declared.move_outs.MoveOuts.{MoveOuts}
use Rattle.data_rules.specs.Conns.{role_of}
use Rattle.data_rules.specs.Places.{epoch_place}
use Rattle.data_rules.specs.Puts.{says_on}
use Rattle.data_rules.specs.Step.{made}
use Rattle.data_rules.specs.declared.data_in.DataIn.{DataIn}
use Rattle.data_rules.specs.declared.rows.Reply.{Reply}
use Rattle.data_rules.specs.declared.rows.Role.TheVariants.{Bound, Closing, New, Waiting}
use Rattle.data_rules.specs.declared.rows.Says.{Says}
use Rattle.data_rules.specs.declared.rows.Says.TheVariants.{AnswerOf, EpochWelcome, GrantOf, NewWelcome, ResetOf}
use Rattle.ecp_messages.specs.declared.down.Down.{Down}
use Rattle.ecp_messages.specs.declared.down.DownFrame.{DownFrame}
use Rattle.link_downs.proofs.LinkedConns.{linked_at}
use Rattle.link_downs.proofs.OffConn.{Off, OffPut, listed}
use Rattle.link_downs.proofs.OnConn.{put_on, waiting_on, waits_on}
use Rattle.link_downs.proofs.ReplyLists.{known_waits, no_reset_dropped, one_waits}
use Rattle.link_firsts.proofs.HelloConn.{is_calling}
use Rattle.link_firsts.proofs.HelloSilent.{hello_silent}
use Rattle.link_firsts.proofs.SilentWays.{asked_silent, has_welcome, is_welcome, none_dropped, places_same}
use Rattle.link_firsts.proofs.UntoldConn.{EpochLeft, FirstPut, IsFirst, LeftFirst, LeftSays, Untold}
use Rattle.link_kept.proofs.AppLater.{LaneLater}
use Rattle.link_kept.proofs.Later.{Later}
use Rattle.plain_orders.specs.Entries.{last_epoch}
use Rattle.plain_orders.specs.declared.act.Act.{Act}
use Rattle.plain_orders.specs.declared.layout.Layout.{Layout}
use Rattle.plain_runs.specs.Plain.{Server, current, order_at}
use Rattle.plain_runs.specs.Run.{IsRun, after_all, state_after}
use Rattle.cluster_runs.specs.declared.moves.Move.TheVariants.{Server as ServerMove}
use Rattle.ecp_messages.specs.declared.down.Down.TheVariants as down
use Rattle.ecp_messages.specs.declared.up.Up.TheVariants as up
use Rattle.data_rules.specs.declared.data_in.DataIn.TheVariants as data_in
use Rattle.data_ends_kept.proofs.NodeEndsServer as ends
use Rattle.link_firsts.proofs.StepOrders as base
use Rattle.link_firsts.proofs.FirstConns as conns
use Rattle.link_firsts.proofs.StepFirsts as firsts

-- where frames are left of which none is a Welcome the first is a Reset
asked_reset : (v : Server) (x : Site) (s : Session) (k : ℕ) (c : Connection) (f : DownFrame) (fs : List DownFrame) → AskedWay v x s k c (f ∷ fs)
    → is_welcome f.message ≡ false → is_reset_frame f ≡ true
asked_reset v x s k c f fs way other = go f.message way.1 other
  where
    go : (m : Down) → AskedFirst v x s k c fs m → is_welcome m ≡ false → is_reset_down m ≡ true
    go (down.Welcome session epoch kept front taken) n plain = absurd (true≢false plain)
    go (down.Reset session at) n plain = refl
    go (down.Block front block) n plain = absurd n
    go (down.Drop front lo hi) n plain = absurd n
    go (down.Ack front) n plain = absurd n
    go (down.Grant front ticket place) n plain = absurd n
    go (down.Answer front about job number place sum) n plain = absurd n
    go (down.Normal front) n plain = absurd n
    go down.Bare n plain = absurd n

-- then it was put
pub reset_there : (v : Server) (x : Site) (s : Session) (k : ℕ) (c : Connection) (left : List DownFrame) → AskedWay v x s k c left → has_welcome left ≡ false
    → downs_left c ≡ left
    → list_any is_reset_frame c.downs ≡ false → left ≡ []
reset_there v x s k c [] way other is none = refl
reset_there v x s k c (f ∷ fs) way other is none =
    absurd (true≢false (sym (asked_reset v x s k c f fs way other)
    ∙ (or_parts (is_reset_frame f) (list_any is_reset_frame fs)
    (subst (λ (gs : List DownFrame). list_any is_reset_frame gs ≡ false) is (no_reset_dropped c.downs_taken c.downs none))).0))

module _ (l : Layout) (c0 : CoresState) (m : Machine) (server now : ℕ) (input : DataIn) (outs : MoveOuts) (written : List Act) (new : Machine)
    (h : Holds l m) (run : IsRun l m.trail) (after_run : IsRun l new.trail) (shows : Mirrors c0 m) (allowed : Allowed c0 (ServerMove server now input))
    (goes : ServerGoes m server now input outs written new) where
  abbrev x : Site
  x = m.site_at server

  abbrev v : Server
  v = (state_after l m.trail).server_at server

  abbrev w : Server
  w = (after_all l (state_after l m.trail) written).server_at server

  abbrev y : Site
  y = server_site goes.node now input goes.data_outs goes.state (m.site_at server)

  abbrev t : Coming
  t = record { old = goes.node; now = now; input = input }

  node : NodeLink v x m.is_dead_at goes.node
  node = ends.link l c0 m server now input outs written new h run shows allowed goes

  dials : NodeDials x goes.node
  dials = ends.dials l c0 m server now input outs written new h run shows allowed goes

  later : Later x v w
  later = base.later l c0 m server now input outs written new h run after_run shows allowed goes

  lanes : (s k : ℕ) → LaneLater (x.lane_at s k) (y.lane_at s k)
  lanes = base.lanes l c0 m server now input outs written new h run after_run shows allowed goes

  module _ (a : ℕ) (alive : m.is_dead_at a ≡ false) (line : (x.end_at a).state.line ≡ Asking) (sn : Session) (has : (x.end_at a).state.session ≡ Some sn)
      (k : ℕ)
      (told : (x.end_at a).told ≡ Some (record { session = sn.number; order = k })) (c : Connection)
      (it : (x.end_at a).connection_at (x.end_at a).state.dial ≡ Some c)
      (way : AskedWay v x sn k c (downs_left c)) (other : has_welcome (downs_left c) ≡ false) where
    abbrev n : ℕ
    n = (x.end_at a).state.dial

    abbrev d : Connection
    d = conns.d l c0 m server now input outs written new h run after_run shows allowed goes a n c it

    abbrev put_now : List DownFrame
    put_now = conns.put_now l c0 m server now input outs written new h run after_run shows allowed goes a n c it

    -- what was known as it was made is what the end knows
    pub knew : c.knew ≡ record { session = sn.number; mark = Some (record { order = k; taken = sn.window.taken }) }
    knew = by (subst (λ (i : Line). KnowsStill i (knows (x.end_at a)) ((x.end_at a).connection_at n)) line ((h.sites server).dials.pairs a).still)
      where
        by : IsSomeAnd ((x.end_at a).connection_at n) (λ z. (z.knew ≡ knows (x.end_at a)) × (drop 1 z.ups ≡ []))
            → c.knew ≡ record { session = sn.number; mark = Some (record { order = k; taken = sn.window.taken }) }
        by still =
            (subst (λ (o : Option Connection). IsSomeAnd o (λ z. (z.knew ≡ knows (x.end_at a)) × (drop 1 z.ups ≡ []))) it still).0
            ∙ ap (λ (o : Option Session). knows_of o (x.end_at a).told (x.end_at a).state.told) has
            ∙ ap (λ (p : Option Place). knows_of (Some sn) p (x.end_at a).state.told) told

    pub marked : c.knew.mark ≡ Some (record { order = k; taken = sn.window.taken })
    marked = ap (λ (z : Knew). z.mark) knew

    pub of_mark : (P : Mark → Type 0) → IsSomeAnd c.knew.mark P → P (record { order = k; taken = sn.window.taken })
    of_mark P some = subst (λ (o : Option Mark). IsSomeAnd o P) marked some

    pub place_is : ToldPlace v a sn (x.end_at a).told
    place_is = of_some (λ (s : Session). ToldPlace v a s (x.end_at a).told) (x.end_at a).state.session sn has ((h.sites server).ends.told a alive).place

    pub same_order : place_is.order ≡ k
    same_order = (places_same sn.number place_is.order sn.number k (sym place_is.its ∙ told)).1

    pub k_there : k ≤ current v
    k_there = subst (λ (i : ℕ). i ≤ current v) same_order place_is.there

    pub epoch_is : sn.epoch ≡ last_epoch (order_at v k)
    epoch_is = place_is.epoch ∙ ap (λ (i : ℕ). last_epoch (order_at v i)) same_order

    pub stays_k : epoch_place (order_at v k) ≤ stays_at v k
    stays_k = subst (λ (i : ℕ). epoch_place (order_at v i) ≤ stays_at v i) same_order place_is.stays

    -- nothing is put
    pub silent : put_now ≡ [] → AskedWay w y sn k d (downs_left d)
    silent none =
        subst (λ (fs : List DownFrame). AskedWay w y sn k d fs)
        (sym (conns.silent_left l c0 m server now input outs written new h run after_run shows allowed goes a n c it none))
        (asked_silent v w x y later lanes c d (conns.silent_its l c0 m server now input outs written new h run after_run shows allowed goes a n c it none)
        (λ s i its unlearnt. conns.whole_new l c0 m server now input outs written new h run after_run shows allowed goes a n c it s i its unlearnt) sn k
        (conns.after l c0 m server now input outs written new h run after_run shows allowed goes a n c it).is.first
        (conns.first_stays l c0 m server now input outs written new h run after_run shows allowed goes a n c it) (downs_left c) other way)

    module _ (g : FirstTaken) (at_first : d.first ≡ Some g) where
      abbrev q : ℕ
      q = g.conn

      abbrev FirstNow : Type 0
      FirstNow = conns.FirstNow l c0 m server now input outs written new h run after_run shows allowed goes a n c it g at_first

      pub put_is : put_now ≡ put_on q goes.data_outs.frames
      put_is = conns.put_is l c0 m server now input outs written new h run after_run shows allowed goes a n c it g at_first

      pub whence : (c.first ≡ Some g) ⊎ FirstNow
      whence = conns.whence l c0 m server now input outs written new h run after_run shows allowed goes a n c it g at_first

      pub silent_on : put_on q goes.data_outs.frames ≡ [] → AskedWay w y sn k d (downs_left d)
      silent_on none = silent (put_is ∙ none)

      pub linked : is_some (link_of x q) ≡ true → (link_of x q ≡ Some (record { app = a; dial = n })) × (c.first ≡ Some g)
      linked some = go whence
        where
          go : (c.first ≡ Some g) ⊎ FirstNow → (link_of x q ≡ Some (record { app = a; dial = n })) × (c.first ≡ Some g)
          go (inl was) = (
            (of_some (FirstIs v x a n) c.first g was
                (conns.is l c0 m server now input outs written new h run after_run shows allowed goes a n c it).where_taken).linked,
            was,
          )
          go (inr f) = absurd (false≢true (sym (ap (λ (o : Option Linked). is_some o) f.unlinked) ∙ some))

      pub linked_by : (app dial : ℕ) → link_of x q ≡ Some (record { app = app; dial = dial }) → link_of x q ≡ Some (record { app = a; dial = n })
      linked_by app dial link = (linked (ap (λ (o : Option Linked). is_some o) link)).0

      bound_is : (s : ℕ) → role_of goes.node q ≡ Some (Bound s) → BoundIs x goes.node q s
      bound_is s role = of_some (RoleIs x goes.node q) (role_of goes.node q) (Bound s) role (dials.roles q)

      bound_to : (s : ℕ) → role_of goes.node q ≡ Some (Bound s) → BoundTo x goes.node.order s c
      bound_to s role =
          (linked_at x q (bound_is s role).app a n (BoundTo x goes.node.order s) c (bound_is s role).linked
          (linked_by (bound_is s role).app (bound_is s role).linked.dial (bound_is s role).linked.link) it).1

      -- nothing is left on it, and it carries no session's messages
      bound_none : (s : ℕ) → role_of goes.node q ≡ Some (Bound s) → c.its ≡ None
      bound_none s role =
          subst (λ (fs : List DownFrame). AskedWay v x sn k c fs) (reset_there v x sn k c (downs_left c) way other refl (bound_to s role).unreset) way

      bound_session : (s : ℕ) → role_of goes.node q ≡ Some (Bound s) → s ≡ sn.number
      bound_session s role =
          sym (subst (λ (o : Option Mark). CameFor goes.node.order s c.knew o) marked (bound_to s role).came) ∙ ap (λ (z : Knew). z.session) knew

      pub unlearnt : (s : ℕ) → role_of goes.node q ≡ Some (Bound s) → (x.lane_at s x.past).began ≡ None
      unlearnt s role = go (x.lane_at s x.past).began refl
        where
          none_some : (o : Option Place) → o ≡ None → o ≡ Some (record { session = s; order = x.past }) → ⊥
          none_some o none some = cc

          go : (o : Option ℕ) → (x.lane_at s x.past).began ≡ o → (x.lane_at s x.past).began ≡ None
          go None none = none
          go (Some b) some = absurd (none_some c.its (bound_none s role) ((bound_to s role).told (ap (λ (o : Option ℕ). is_some o) some)))

      -- no Hello came on it
      pub waiting : role_of goes.node q ≡ Some Waiting → (input ≡ data_in.Tick → ⊥) → AskedWay w y sn k d (downs_left d)
      waiting role no_tick =
          silent (hello_silent l c0 m server now input outs written new h run after_run shows allowed goes a n c it g at_first (ap is_calling role) no_tick
          (λ conn app session b r same. (let both : Some New ≡ Some Waiting = sym r.firstly.was_new ∙ ap (role_of goes.node) same ∙ role in absurd cc)))

      -- a session has it
      module _ (s : ℕ) (role : role_of goes.node q ≡ Some (Bound s)) (no_tick : input ≡ data_in.Tick → ⊥) where
        -- what waits is the Welcome of a new epoch
        record EpochIs (z : Reply) : Type 0 where
          kept : ℕ
          says : z.says ≡ EpochWelcome q s kept
          at_place : z.at ≡ epoch_place goes.node.order
          waits : WaitsEpochOn v goes.node s kept c

        link_is : link_of x q ≡ Some (record { app = a; dial = n })
        link_is = linked_by (bound_is s role).app (bound_is s role).linked.dial (bound_is s role).linked.link

        epoch_waits : (z : Reply) → ReplyWaits v x goes.node z → waits_on q z ≡ true → EpochIs z
        epoch_waits z is on = go z.says refl is.says on
          where
            same_bound : (i r : ℕ) → role_of goes.node i ≡ Some (Bound r) → i ≡ q → r ≡ s
            same_bound i r bound same = one (sym bound ∙ ap (role_of goes.node) same ∙ role)
              where
                one : Some (Bound r) ≡ Some (Bound s) → r ≡ s
                one both = cc

            on_it : (P : Connection → Type 0) (i : ℕ) → i ≡ q → OnLinked x i P → P c
            on_it P i same at =
                of_some P ((x.end_at a).connection_at n) c it
                (of_some (λ (j : Linked). IfSome ((x.end_at j.app).connection_at j.dial) P) (link_of x q) (record { app = a; dial = n }) link_is
                (subst (λ (i : ℕ). OnLinked x i P) same at))

            none_marked : (o : Option Mark) → o ≡ None → o ≡ Some (record { order = k; taken = sn.window.taken }) → ⊥
            none_marked o none some = cc

            go : (u : Says) → z.says ≡ u → WaitsFor v x goes.node z.at u → says_on q u ≡ true → EpochIs z
            go (NewWelcome conn r) says w_is there = absurd (none_marked c.knew.mark (on_it WaitsNewOn conn (eqb-true conn q there) w_is.untold).greeted marked)
            go (EpochWelcome conn r kept) says w_is there = record {
              kept = kept;
              says =
                  says ∙ ap (λ (i : ℕ). EpochWelcome i r kept) (eqb-true conn q there)
                  ∙ ap (λ (i : ℕ). EpochWelcome q i kept) (same_bound conn r w_is.bound (eqb-true conn q there));
              at_place = w_is.place;
              waits =
                  subst (λ (i : ℕ). WaitsEpochOn v goes.node i kept c) (same_bound conn r w_is.bound (eqb-true conn q there))
                  (on_it (WaitsEpochOn v goes.node r kept) conn (eqb-true conn q there) w_is.says);
            }
            go (ResetOf conn r place) says w_is there = absurd (other_role (sym w_is.closing ∙ ap (role_of goes.node) (eqb-true conn q there) ∙ role))
              where
                other_role : Some (Closing r) ≡ Some (Bound s) → ⊥
                other_role both = cc
            go (GrantOf r ticket number) says w_is there = absurd (false≢true there)
            go (AnswerOf r about job number place sum) says w_is there = absurd (false≢true there)

        one_reply : (ws : Option Reply) × (waiting_on q goes.node.replies ≡ listed ws)
        one_reply = one_waits q goes.node.replies node.one_each

        it_waits : (z : Reply) → one_reply.0 ≡ Some z → EpochIs z
        it_waits z same = epoch_waits z both.0 both.1
          where
            both : ReplyWaits v x goes.node z × (waits_on q z ≡ true)
            both =
                (subst (λ (zs : List Reply). AllByRecursion (λ (u : Reply). ReplyWaits v x goes.node u × (waits_on q u ≡ true)) zs)
                (one_reply.1 ∙ ap listed same)
                (known_waits (ReplyWaits v x goes.node) q goes.node.replies node.replies)).0

        -- the Welcome leaves
        module _ (within : goes.state.synced ≤ length goes.state.order) (left : LeftFirst goes.node q one_reply.0 (made goes.state goes.data_outs)) where
          it_is : EpochIs left.reply
          it_is = it_waits left.reply left.waited

          new_left : EpochLeft goes.node goes.state.order goes.state.synced s it_is.kept left.frame.message
          new_left = subst (λ (u : Says). LeftSays goes.node goes.state.order goes.state.synced u left.frame.message) it_is.says left.says

          put_frame : put_now ≡ left.frame ∷ []
          put_frame = put_is ∙ left.put

          left_way : AskedWay w y sn k d (downs_left d)
          left_way =
              subst (λ (fs : List DownFrame). AskedWay w y sn k d fs)
              (sym (conns.d_left l c0 m server now input outs written new h run after_run shows allowed goes a n c it
              ∙ ap (λ (fs : List DownFrame). fs ++ put_now) (none_dropped c.downs_taken c.downs it_is.waits.untold.silent) ∙ put_frame))
              (left.seq, subst (λ (u : Down). AskedFirst w y sn k d [] u) (sym new_left.says) (inr welcome))
            where
              its : d.its ≡ Some (record { session = s; order = x.past })
              its =
                  conns.d_its l c0 m server now input outs written new h run after_run shows allowed goes a n c it
                  ∙ ap (λ (fs : List DownFrame). (with_downs x.past fs c).its) put_frame ∙ ap (welcomed x.past c.its) new_left.says

              says_mark : WaitsEpoch v goes.node s it_is.kept (record { order = k; taken = sn.window.taken })
              says_mark = of_mark (WaitsEpoch v goes.node s it_is.kept) it_is.waits.says

              welcome : EpochWelcomeOn w y sn k d s (last_epoch goes.node.order) it_is.kept new_left.front 0 []
              welcome =
                  base.welcome_of_epoch l c0 m server now input outs written new h run after_run shows allowed goes s k it_is.kept sn.window.taken
                  new_left.front sn d (bound_session s role) epoch_is stays_k says_mark
                  (unlearnt s role) new_left.longer new_left.header new_left.counted
                  (omega (arith, leb-true left.reply.at goes.state.synced left.synced, it_is.at_place)) within its
                  (conns.whole_new l c0 m server now input outs written new h run after_run shows allowed goes a n c it s x.past its
                  ((lanes s x.past).began ∙ unlearnt s role))

        pub bound : AskedWay w y sn k d (downs_left d)
        bound =
            go (firsts.untold_after l c0 m server now input outs written new h run after_run shows allowed goes q s role (unlearnt s role) one_reply.0
            one_reply.1 first_is no_tick)
          where
            first_is : (z : Reply) → one_reply.0 ≡ Some z → IsFirst q s z.says
            first_is z same = subst (IsFirst q s) (sym (it_waits z same).says) (refl, refl)

            no_one : {X : Type 0} {z : X} → None ≡ Some z → ⊥
            no_one same = cc

            what : goes.state.synced ≤ length goes.state.order → FirstPut goes.node q one_reply.0 (made goes.state goes.data_outs)
                → AskedWay w y sn k d (downs_left d)
            what within (inl none) = silent_on none.0
            what within (inr spoke) = left_way within spoke.0

            off : OffPut q None (made goes.state goes.data_outs) → AskedWay w y sn k d (downs_left d)
            off (inl none) = silent_on none.0
            off (inr left) = absurd (no_one left.0.waited)

            go : Untold goes.node q s one_reply.0 (made goes.state goes.data_outs) ⊎ Off q false None (made goes.state goes.data_outs)
                → AskedWay w y sn k d (downs_left d)
            go (inl u) = what u.within u.what
            go (inr o) = off o.put
