-- What is on its way to an application end that greets after each step of its data server: the Welcome of a new session alone, or nothing.
use Rattle.std.proofs.Common.{List, None, Option, Some, [], ap, arith, false, inl, inr, is_some, length, refl, subst, sym, true, ℕ, ◌++◌, ◌∙◌, ◌∷◌, ◌≡◌, ◌≢◌}
use Rattle.std.proofs.Common.{◌≤◌, ◌⊎◌}
use Rattle.std.proofs.lemmas.Bool.{eqb-true, false≢true, leb-true}
use Rattle.std.specs.List.{AllByRecursion}
use Rattle.std.specs.Prelude.{IfSome, IsSomeAnd}
use Rattle.app_rules.specs.declared.line.Line.TheVariants.{Greeting}
use Rattle.cluster_invariant.proofs.PieceMay.{Coming, RecoverCame}
use Rattle.cluster_invariant.proofs.Small.{of_some}
use Rattle.cluster_invariant.specs.Dials.{BoundIs, BoundTo, ClosedOn, ClosingIs, FirstIs, NodeDials, RoleIs, first_message}
use Rattle.cluster_invariant.specs.Holds.{Holds}
use Rattle.cluster_invariant.specs.Link.{GreetedFirst, GreetedWay, GreetsBy, NewWelcomeOn, NodeLink, Unmet}
use Rattle.cluster_invariant.specs.Waiting.{OnLinked, ReplyWaits, WaitsEpoch, WaitsEpochOn, WaitsFor, WaitsNewOn}
use Rattle.cluster_invariant.specs.Words.{downs_left, stays_at}
use Rattle.cluster_runs.specs.Connections.{link_of, welcomed, with_downs}
use Rattle.cluster_runs.specs.CoresState.{CoresState, Linked}
use Rattle.cluster_runs.specs.Goes.{ServerGoes, server_site}
use Rattle.cluster_runs.specs.Machine.{Machine, Site}
use Rattle.cluster_runs.specs.Mirrors.{Mirrors}
use Rattle.cluster_runs.specs.Moves.{Allowed}
use Rattle.cluster_runs.specs.Sent.{Connection, FirstTaken, Mark}
use Rattle.cluster_runs.specs.declared.move_outs.MoveOuts.{MoveOuts}
use Rattle.data_rules.specs.Conns.{role_of}
use Rattle.data_rules.specs.Puts.{Sofar, says_on}
use Rattle.data_rules.specs.Step.{made}
use Rattle.data_rules.specs.declared.data_in.DataIn.{DataIn}
use Rattle.data_rules.specs.declared.rows.Reply.{Reply}
use Rattle.data_rules.specs.declared.rows.Role.{Role}
use Rattle.data_rules.specs.declared.rows.Role.TheVariants.{Bound, Closing, New, Waiting}
use Rattle.data_rules.specs.declared.rows.Says.{Says}
use Rattle.data_rules.specs.declared.rows.Says.TheVariants.{AnswerOf, EpochWelcome, GrantOf, NewWelcome, ResetOf}
use Rattle.ecp_messages.specs.declared.down.Down.{Down}
use Rattle.ecp_messages.specs.declared.down.DownFrame.{DownFrame}
use Rattle.ecp_messages.specs.declared.up.UpFrame.{UpFrame}
use Rattle.link_downs.proofs.LinkedConns.{linked_at}
use Rattle.link_downs.proofs.OffConn.{Off, OffPut, listed}
use Rattle.link_downs.proofs.OnConn.{put_on, waiting_on, waits_on}
use Rattle.link_downs.proofs.ReplyLists.{known_waits, one_waits}
use Rattle.link_firsts.proofs.HelloConn.{is_calling}
use Rattle.link_firsts.proofs.HelloSilent.{hello_silent}
use Rattle.link_firsts.proofs.SilentWays.{greeted_silent, greeted_unlearnt, none_dropped}
use Rattle.link_firsts.proofs.UntoldConn.{FirstPut, IsFirst, LeftFirst, LeftSays, NewLeft, Untold}
use Rattle.link_kept.proofs.AppLater.{LaneLater, unmet_later}
use Rattle.link_kept.proofs.Later.{Later}
use Rattle.link_nodes.proofs.NodeGreets.{GreetsAlone, greets_known, line_greets}
use Rattle.plain_orders.proofs.Places.{entry_low}
use Rattle.plain_orders.specs.Entries.{last_epoch}
use Rattle.plain_orders.specs.declared.act.Act.{Act}
use Rattle.plain_orders.specs.declared.entry.Entry.{Entry}
use Rattle.plain_orders.specs.declared.entry.Entry.TheVariants.{Opened}
use Rattle.plain_orders.specs.declared.layout.Layout.{Layout}
use Rattle.plain_runs.specs.Plain.{Server, current, order_at}
use Rattle.plain_runs.specs.Run.{IsRun, after_all, state_after}
use Rattle.cluster_runs.specs.declared.moves.Move.TheVariants.{Server as ServerMove}
use Rattle.ecp_messages.specs.declared.down.Down.TheVariants as down
use Rattle.ecp_messages.specs.declared.up.Up.TheVariants as up
use Rattle.data_rules.specs.declared.data_in.DataIn.TheVariants as data_in
use Rattle.data_ends_kept.proofs.NodeEndsServer as ends
use Rattle.link_firsts.proofs.StepOrders as base
use Rattle.link_firsts.proofs.FirstConns as conns
use Rattle.link_firsts.proofs.StepFirsts as firsts

module _ (l : Layout) (c0 : CoresState) (m : Machine) (server now : ℕ) (input : DataIn) (outs : MoveOuts) (written : List Act) (new : Machine)
    (h : Holds l m) (run : IsRun l m.trail) (after_run : IsRun l new.trail) (shows : Mirrors c0 m) (allowed : Allowed c0 (ServerMove server now input))
    (goes : ServerGoes m server now input outs written new) where
  abbrev x : Site
  x = m.site_at server

  abbrev v : Server
  v = (state_after l m.trail).server_at server

  abbrev w : Server
  w = (after_all l (state_after l m.trail) written).server_at server

  abbrev y : Site
  y = server_site goes.node now input goes.data_outs goes.state (m.site_at server)

  abbrev t : Coming
  t = record { old = goes.node; now = now; input = input }

  node : NodeLink v x m.is_dead_at goes.node
  node = ends.link l c0 m server now input outs written new h run shows allowed goes

  dials : NodeDials x goes.node
  dials = ends.dials l c0 m server now input outs written new h run shows allowed goes

  later : Later x v w
  later = base.later l c0 m server now input outs written new h run after_run shows allowed goes

  lanes : (s k : ℕ) → LaneLater (x.lane_at s k) (y.lane_at s k)
  lanes = base.lanes l c0 m server now input outs written new h run after_run shows allowed goes

  past_now : x.past ≡ current v
  past_now = base.past_now l c0 m server now input outs written new h run after_run shows allowed goes

  order_v : order_at v x.past ≡ goes.node.order
  order_v = base.order_v l c0 m server now input outs written new h run after_run shows allowed goes

  module _ (a : ℕ) (alive : m.is_dead_at a ≡ false) (line : (x.end_at a).state.line ≡ Greeting) (c : Connection)
      (it : (x.end_at a).connection_at (x.end_at a).state.dial ≡ Some c)
      (way : GreetedWay v x a (x.end_at a).state.told c (downs_left c)) where
    abbrev n : ℕ
    n = (x.end_at a).state.dial

    abbrev told : ℕ
    told = (x.end_at a).state.told

    abbrev d : Connection
    d = conns.d l c0 m server now input outs written new h run after_run shows allowed goes a n c it

    abbrev put_now : List DownFrame
    put_now = conns.put_now l c0 m server now input outs written new h run after_run shows allowed goes a n c it

    -- nothing was known as it was made
    unmarked : c.knew.mark ≡ None
    unmarked =
        by (greets_known (x.end_at a).state.link (x.end_at a).state.line (x.end_at a).state.session (x.end_at a).told told ((x.end_at a).connection_at n) line
        ((h.sites server).ends.tables a alive).stands ((h.sites server).ends.tables a alive).connected
        ((h.sites server).dials.pairs a).still)
      where
        by : GreetsAlone ((x.end_at a).connection_at n) → c.knew.mark ≡ None
        by g = ap (λ (z : Connection). z.knew.mark) (one c g.on (sym it ∙ g.there)) ∙ g.mark
          where
            one : (i j : Connection) → Some i ≡ Some j → i ≡ j
            one i j same = cc

    marked_not : (P : Mark → Type 0) → IsSomeAnd c.knew.mark P → ⊥
    marked_not P some = go c.knew.mark unmarked some
      where
        go : (o : Option Mark) → o ≡ None → IsSomeAnd o P → ⊥
        go None none at = at
        go (Some k) none at = absurd cc

    -- nothing is put
    silent : put_now ≡ [] → GreetedWay w y a told d (downs_left d)
    silent none =
        subst (λ (fs : List DownFrame). GreetedWay w y a told d fs)
        (sym (conns.silent_left l c0 m server now input outs written new h run after_run shows allowed goes a n c it none))
        (greeted_silent v w x y later lanes c d (conns.silent_its l c0 m server now input outs written new h run after_run shows allowed goes a n c it none)
        (λ s k its unlearnt. conns.whole_new l c0 m server now input outs written new h run after_run shows allowed goes a n c it s k its unlearnt) a
        (conns.entered_still l c0 m server now input outs written new h run after_run shows allowed goes a) told (downs_left c) way)

    module _ (g : FirstTaken) (at_first : d.first ≡ Some g) where
      abbrev q : ℕ
      q = g.conn

      abbrev FirstNow : Type 0
      FirstNow = conns.FirstNow l c0 m server now input outs written new h run after_run shows allowed goes a n c it g at_first

      put_is : put_now ≡ put_on q goes.data_outs.frames
      put_is = conns.put_is l c0 m server now input outs written new h run after_run shows allowed goes a n c it g at_first

      whence : (c.first ≡ Some g) ⊎ FirstNow
      whence = conns.whence l c0 m server now input outs written new h run after_run shows allowed goes a n c it g at_first

      silent_on : put_on q goes.data_outs.frames ≡ [] → GreetedWay w y a told d (downs_left d)
      silent_on none = silent (put_is ∙ none)

      -- one that is linked was linked to this one
      linked : is_some (link_of x q) ≡ true → link_of x q ≡ Some (record { app = a; dial = n })
      linked some = go whence
        where
          go : (c.first ≡ Some g) ⊎ FirstNow → link_of x q ≡ Some (record { app = a; dial = n })
          go (inl was) =
              (of_some (FirstIs v x a n) c.first g was
              (conns.is l c0 m server now input outs written new h run after_run shows allowed goes a n c it).where_taken).linked
          go (inr f) = absurd (false≢true (sym (ap (λ (o : Option Linked). is_some o) f.unlinked) ∙ some))

      linked_by : (app dial : ℕ) → link_of x q ≡ Some (record { app = app; dial = dial }) → link_of x q ≡ Some (record { app = a; dial = n })
      linked_by app dial link = linked (ap (λ (o : Option Linked). is_some o) link)

      bound_is : (s : ℕ) → role_of goes.node q ≡ Some (Bound s) → BoundIs x goes.node q s
      bound_is s role = of_some (RoleIs x goes.node q) (role_of goes.node q) (Bound s) role (dials.roles q)

      bound_to : (s : ℕ) → role_of goes.node q ≡ Some (Bound s) → BoundTo x goes.node.order s c
      bound_to s role =
          (linked_at x q (bound_is s role).app a n (BoundTo x goes.node.order s) c (bound_is s role).linked
          (linked_by (bound_is s role).app (bound_is s role).linked.dial (bound_is s role).linked.link) it).1

      closing_not : (s : ℕ) → role_of goes.node q ≡ Some (Closing s) → ⊥
      closing_not s role =
          marked_not (λ (k : Mark). c.knew.session ≡ s)
          (linked_at x q is.app a n (ClosedOn x s) c is.linked (linked_by is.app is.linked.dial is.linked.link) it).1.came
        where
          is : ClosingIs x goes.node q s
          is = of_some (RoleIs x goes.node q) (role_of goes.node q) (Closing s) role (dials.roles q)

      unlearnt : (s : ℕ) → role_of goes.node q ≡ Some (Bound s) → (x.lane_at s x.past).began ≡ None
      unlearnt s role = go (x.lane_at s x.past).began refl
        where
          go : (o : Option ℕ) → (x.lane_at s x.past).began ≡ o → (x.lane_at s x.past).began ≡ None
          go None none = none
          go (Some b) some = greeted_unlearnt v x a told c (downs_left c) way s x.past ((bound_to s role).told (ap (λ (o : Option ℕ). is_some o) some))

      -- a Hello came on it, or may come
      called : is_calling (role_of goes.node q) ≡ true → (input ≡ data_in.Tick → ⊥) → GreetedWay w y a told d (downs_left d)
      called calls no_tick =
          silent (hello_silent l c0 m server now input outs written new h run after_run shows allowed goes a n c it g at_first calls no_tick recovers)
        where
          frames_same : (conn : ℕ) (f g : UpFrame) → data_in.Frame conn f ≡ data_in.Frame conn g → f ≡ g
          frames_same conn f g same = cc

          no_recover : (app session epoch taken dial : ℕ) (o : Option Mark) → o ≡ None
              → first_message v a n c.knew.session o ≡ up.Recover app session epoch taken dial → ⊥
          no_recover app session epoch taken dial None none same = cc
          no_recover app session epoch taken dial (Some k) none same = absurd cc

          recovers : (conn app session : ℕ) (b : Sofar) → RecoverCame t conn app session b → conn ≢ q
          recovers conn app session b r same = by whence
            where
              came : input ≡ data_in.Frame q r.came.up
              came = r.came.its ∙ ap (λ (i : ℕ). data_in.Frame i r.came.up) same

              is_new : role_of goes.node q ≡ Some New
              is_new = ap (role_of goes.node) (sym same) ∙ r.firstly.was_new

              by : (c.first ≡ Some g) ⊎ FirstNow → ⊥
              by (inl was) =
                  none_some (sym (of_some (RoleIs x goes.node q) (role_of goes.node q) New is_new (dials.roles q))
                  ∙ (of_some (FirstIs v x a n) c.first g was
                  (conns.is l c0 m server now input outs written new h run after_run shows allowed goes a n c it).where_taken).linked)
                where
                  none_some : ◌≡◌ {A = Option Linked} None (Some (record { app = a; dial = n })) → ⊥
                  none_some both = cc
              by (inr f) =
                  no_recover app session r.epoch r.taken r.dial c.knew.mark unmarked
                  (sym f.says ∙ ap (λ (u : UpFrame). u.message) (frames_same q f.f r.came.up (sym f.its ∙ came)) ∙ r.came.says)

      -- a session has it: its Welcome waited, or stands on it, or nothing is put
      module _ (s : ℕ) (role : role_of goes.node q ≡ Some (Bound s)) (no_tick : input ≡ data_in.Tick → ⊥) where
        -- what waits is that Welcome
        record NewIs (z : Reply) : Type 0 where
          says : z.says ≡ NewWelcome q s
          at_place : z.at ≡ s
          untold : c.downs ≡ []

        link_is : link_of x q ≡ Some (record { app = a; dial = n })
        link_is = linked_by (bound_is s role).app (bound_is s role).linked.dial (bound_is s role).linked.link

        new_is : (z : Reply) → ReplyWaits v x goes.node z → waits_on q z ≡ true → NewIs z
        new_is z is on = go z.says refl is.says on
          where
            same_bound : (i r : ℕ) → role_of goes.node i ≡ Some (Bound r) → i ≡ q → r ≡ s
            same_bound i r bound same = one (sym bound ∙ ap (role_of goes.node) same ∙ role)
              where
                one : Some (Bound r) ≡ Some (Bound s) → r ≡ s
                one both = cc

            on_it : (P : Connection → Type 0) (i : ℕ) → i ≡ q → OnLinked x i P → P c
            on_it P i same at =
                of_some P ((x.end_at a).connection_at n) c it
                (of_some (λ (j : Linked). IfSome ((x.end_at j.app).connection_at j.dial) P) (link_of x q) (record { app = a; dial = n }) link_is
                (subst (λ (k : ℕ). OnLinked x k P) same at))

            go : (u : Says) → z.says ≡ u → WaitsFor v x goes.node z.at u → says_on q u ≡ true → NewIs z
            go (NewWelcome conn r) says w_is there = record {
              says = says ∙ ap (λ (i : ℕ). NewWelcome i r) (eqb-true conn q there) ∙ ap (NewWelcome q) (same_bound conn r w_is.bound (eqb-true conn q there));
              at_place = w_is.place ∙ same_bound conn r w_is.bound (eqb-true conn q there);
              untold = (on_it WaitsNewOn conn (eqb-true conn q there) w_is.untold).untold.silent;
            }
            go (EpochWelcome conn r kept) says w_is there =
                absurd (marked_not (WaitsEpoch v goes.node r kept) (on_it (WaitsEpochOn v goes.node r kept) conn (eqb-true conn q there) w_is.says).says)
            go (ResetOf conn r place) says w_is there = absurd (other (sym w_is.closing ∙ ap (role_of goes.node) (eqb-true conn q there) ∙ role))
              where
                other : Some (Closing r) ≡ Some (Bound s) → ⊥
                other both = cc
            go (GrantOf r ticket number) says w_is there = absurd (false≢true there)
            go (AnswerOf r about job number place sum) says w_is there = absurd (false≢true there)

        one_reply : (ws : Option Reply) × (waiting_on q goes.node.replies ≡ listed ws)
        one_reply = one_waits q goes.node.replies node.one_each

        new_waits : (z : Reply) → one_reply.0 ≡ Some z → NewIs z
        new_waits z same = new_is z both.0 both.1
          where
            both : ReplyWaits v x goes.node z × (waits_on q z ≡ true)
            both =
                (subst (λ (zs : List Reply). AllByRecursion (λ (u : Reply). ReplyWaits v x goes.node u × (waits_on q u ≡ true)) zs)
                (one_reply.1 ∙ ap listed same)
                (known_waits (ReplyWaits v x goes.node) q goes.node.replies node.replies)).0

        -- the Welcome leaves
        module _ (left : LeftFirst goes.node q one_reply.0 (made goes.state goes.data_outs)) where
          it_is : NewIs left.reply
          it_is = new_waits left.reply left.waited

          new_left : NewLeft goes.node goes.state.order s left.frame.message
          new_left = subst (λ (u : Says). LeftSays goes.node goes.state.order goes.state.synced u left.frame.message) it_is.says left.says

          put_frame : put_now ≡ left.frame ∷ []
          put_frame = put_is ∙ left.put

          its : d.its ≡ Some (record { session = s; order = x.past })
          its =
              conns.d_its l c0 m server now input outs written new h run after_run shows allowed goes a n c it
              ∙ ap (λ (fs : List DownFrame). (with_downs x.past fs c).its) put_frame ∙ ap (welcomed x.past c.its) new_left.says

          unmet_was : Unmet v x a told s x.past
          unmet_was =
              line_greets v x s a (x.end_at a) n (x.end_at a).state.line line
              (of_some (GreetsBy v x m.is_dead_at s) (link_of x q) (record { app = a; dial = n }) link_is (node.greets s q role) alive) refl

          unmet : Unmet w y a told s x.past
          unmet =
              unmet_later v w x y later (λ i k. (lanes i k).began) a told s x.past
              (conns.entered_still l c0 m server now input outs written new h run after_run shows allowed goes a) (inr past_now) unmet_was

          synced : s ≤ stays_at w x.past
          synced =
              omega (
                arith,
                leb-true left.reply.at goes.state.synced left.synced,
                it_is.at_place,
                base.stays_w l c0 m server now input outs written new h run
                    after_run shows allowed goes,
              )

          low : s ≤ length goes.node.order
          low = subst (λ (es : List Entry). s ≤ length es) order_v (entry_low (order_at v x.past) (Opened s a) s unmet_was.opened)

          welcome : NewWelcomeOn w y a told d s (last_epoch goes.node.order) new_left.n (record { n = new_left.n; w = 0; s = 0 }) 0
          welcome = record {
            order = x.past;
            its = its;
            unmet = unmet;
            synced = synced;
            its_epoch = sym (later.last x.past (omega (arith, past_now)) ∙ ap last_epoch order_v);
            stays = omega (arith, unmet.behind, synced);
            from_open = omega (arith, low, new_left.longer);
            within =
                subst (λ (es : List Entry). new_left.n ≤ length es)
                (sym (base.order_w l c0 m server now input outs written new h run after_run shows allowed goes)) new_left.within;
            kept_all = refl;
            none_counted = refl;
            none_synced = refl;
            none_taken = refl;
            whole = conns.whole_new l c0 m server now input outs written new h run after_run shows allowed goes a n c it s x.past its unmet.unlearnt;
          }

          left_way : GreetedWay w y a told d (downs_left d)
          left_way =
              subst (λ (fs : List DownFrame). GreetedWay w y a told d fs)
              (sym (conns.d_left l c0 m server now input outs written new h run after_run shows allowed goes a n c it
              ∙ ap (λ (fs : List DownFrame). fs ++ put_now) (none_dropped c.downs_taken c.downs it_is.untold) ∙ put_frame))
              (left.seq, subst (λ (u : Down). GreetedFirst w y a told d u) (sym new_left.says) welcome, refl)

        bound : GreetedWay w y a told d (downs_left d)
        bound =
            go (firsts.untold_after l c0 m server now input outs written new h run after_run shows allowed goes q s role (unlearnt s role) one_reply.0
            one_reply.1 first_is no_tick)
          where
            first_is : (z : Reply) → one_reply.0 ≡ Some z → IsFirst q s z.says
            first_is z same = subst (IsFirst q s) (sym (new_waits z same).says) (refl, refl)

            no_one : {X : Type 0} {z : X} → None ≡ Some z → ⊥
            no_one same = cc

            what : FirstPut goes.node q one_reply.0 (made goes.state goes.data_outs) → GreetedWay w y a told d (downs_left d)
            what (inl none) = silent_on none.0
            what (inr spoke) = left_way spoke.0

            off : OffPut q None (made goes.state goes.data_outs) → GreetedWay w y a told d (downs_left d)
            off (inl none) = silent_on none.0
            off (inr left) = absurd (no_one left.0.waited)

            go : Untold goes.node q s one_reply.0 (made goes.state goes.data_outs) ⊎ Off q false None (made goes.state goes.data_outs)
                → GreetedWay w y a told d (downs_left d)
            go (inl u) = what u.what
            go (inr o) = off o.put

      by_role : (input ≡ data_in.Tick → ⊥) → (input ≡ data_in.Connected q → ⊥) → GreetedWay w y a told d (downs_left d)
      by_role no_tick fresh = go (role_of goes.node q) refl
        where
          go : (o : Option Role) → role_of goes.node q ≡ o → GreetedWay w y a told d (downs_left d)
          go None role = silent_on (firsts.gone_silent l c0 m server now input outs written new h run after_run shows allowed goes q role no_tick fresh)
          go (Some New) role = called (ap is_calling role) no_tick
          go (Some Waiting) role = called (ap is_calling role) no_tick
          go (Some (Bound s)) role = bound s role no_tick
          go (Some (Closing s)) role = absurd (closing_not s role)

      by_input : GreetedWay w y a told d (downs_left d)
      by_input =
          go (conns.is_tick l c0 m server now input outs written new h run after_run shows allowed goes)
          (conns.is_connected l c0 m server now input outs written new h run after_run shows allowed goes q)
        where
          go : (input ≡ data_in.Tick) ⊎ (input ≡ data_in.Tick → ⊥) → (input ≡ data_in.Connected q) ⊎ (input ≡ data_in.Connected q → ⊥)
              → GreetedWay w y a told d (downs_left d)
          go (inl tick) other = silent_on (firsts.ticked_silent l c0 m server now input outs written new h run after_run shows allowed goes q tick unlearnt)
          go (inr no_tick) (inl same) =
              silent_on (ap (put_on q) (conns.connected_silent l c0 m server now input outs written new h run after_run shows allowed goes q same))
          go (inr no_tick) (inr fresh) = by_role no_tick fresh

    -- Each step keeps it.
    pub greeted_after : GreetedWay w y a told d (downs_left d)
    greeted_after = go d.first refl
      where
        go : (o : Option FirstTaken) → d.first ≡ o → GreetedWay w y a told d (downs_left d)
        go None none = silent (conns.none_first l c0 m server now input outs written new h run after_run shows allowed goes a n c it none)
        go (Some g) at_first = by_input g at_first
