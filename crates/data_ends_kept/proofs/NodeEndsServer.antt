-- The data ends of running nodes stay as the invariant has them over each step of a data server.
use Rattle.std.proofs.Common.{◌≡◌, ◌≢◌, ◌<◌, ◌≤◌, ◌⊎◌, inl, inr, ℕ, true, false, List, length, Option, Some, None, is_some, option_map, refl, sym, ◌∙◌, ap, subst, arith}
use Rattle.std.specs.Prelude.{IfSome}
use Rattle.std.specs.List.{AllByRecursion}
use Rattle.std.proofs.lemmas.Bool.{false≢true}
use Rattle.plain_orders.specs.declared.act.Act.{Act}
use Rattle.plain_orders.specs.declared.entry.Entry.{Entry}
use Rattle.plain_orders.specs.declared.layout.Layout.{Layout}
use Rattle.plain_orders.specs.Entries.{last_epoch, live}
use Rattle.plain_runs.specs.Plain.{Plain, Server}
use Rattle.plain_runs.specs.Run.{IsRun, after_all, state_after}
use Rattle.plain_runs.proofs.OrderLaws.{orders_kept}
use Rattle.plain_runs.proofs.Ordered.{ordered_kept}
use Rattle.ecp_messages.specs.declared.up.Up.{Up}
use Rattle.ecp_messages.specs.declared.up.Up.TheVariants as up
use Rattle.ecp_messages.specs.declared.up.UpFrame.{UpFrame}
use Rattle.data_rules.specs.DataState.{DataState}
use Rattle.data_rules.specs.declared.data_in.DataIn.{DataIn}
use Rattle.data_rules.specs.declared.data_in.DataIn.TheVariants as data_in
use Rattle.data_rules.specs.declared.limits.TheConstants.{APP_LIMIT}
use Rattle.data_rules.specs.declared.rows.Caller.{Caller}
use Rattle.data_rules.specs.declared.rows.Role.TheVariants.{Bound, Waiting}
use Rattle.data_rules.specs.Conns.{role_of}
use Rattle.data_rules.specs.Frames.{kind_of}
use Rattle.data_rules.specs.declared.rows.Kind.TheVariants.{Opening}
use Rattle.ecp_messages.specs.Rows.{IsField}
use Rattle.ecp_messages.specs.Ups.{IsUpFrame, up_row}
use Rattle.data_rules.specs.Puts.{Sofar}
use Rattle.data_rules.specs.Step.{DataMay, made}
use Rattle.cluster_runs.specs.declared.move_outs.MoveOuts.{MoveOuts}
use Rattle.cluster_runs.specs.declared.moves.Move.TheVariants.{Server as ServerMove}
use Rattle.cluster_runs.specs.CoresState.{Accepted, CoresState, Linked}
use Rattle.cluster_runs.specs.Connections.{hears_downs, is_out_on, leaves_conns, link_of}
use Rattle.cluster_runs.specs.Goes.{ServerGoes, server_site, server_takes, with_node}
use Rattle.cluster_runs.specs.Machine.{DataConnection, Machine, Site}
use Rattle.cluster_runs.specs.Mirrors.{Mirrors, accepted_of}
use Rattle.cluster_runs.specs.Moves.{Allowed, NodeMay, TakenMay, named_dial}
use Rattle.cluster_runs.specs.Sent.{Lane}
use Rattle.cluster_runs.specs.Steps.{raised}
use Rattle.cluster_invariant.specs.Dials.{BoundIs, LinkedTo, NodeDials, RoleIs}
use Rattle.cluster_invariant.specs.Ends.{CallerIs, HelloAlone, NodeEnds}
use Rattle.cluster_invariant.specs.Holds.{Holds, SiteHolds}
use Rattle.cluster_invariant.specs.Link.{NodeLink}
use Rattle.cluster_invariant.specs.Orders.{NodeOrder}
use Rattle.cluster_invariant.specs.Waiting.{ReplyWaits}
use Rattle.cluster_invariant.proofs.AllLists.{all_both, all_follow}
use Rattle.cluster_invariant.proofs.OrderKept.{step_site}
use Rattle.cluster_invariant.proofs.OrderMoves.{server_wrote, step_from}
use Rattle.cluster_invariant.proofs.PieceMay.{Coming, HelloMay, begins}
use Rattle.cluster_invariant.proofs.PiecesOfSteps.{StepFrom}
use Rattle.cluster_invariant.proofs.Small.{of_some}
use Rattle.link_kept.proofs.FramesFit.{FrameAt, frame_next, taken_next}
use Rattle.link_kept.proofs.WindowsServer.{server_lanes}
use Rattle.data_puts.proofs.AwaitsPieces.{AwaitsOn}
use Rattle.data_pieces.proofs.CallersGo.{WaitsOn}
use Rattle.data_pieces.proofs.ConnLists.{conn_for, role_at}
use Rattle.data_puts.proofs.EndsAfter.{InputKnown, along_after, awaits_after}
use Rattle.data_pieces.proofs.EndsBegin.{NodeHas, ends_begin}
use Rattle.data_pieces.proofs.EndsPieces.{ConnsHold}
use Rattle.data_ends_kept.proofs.HelloComes.{hello_only, hello_takes, linked_now}
use Rattle.data_ends_kept.proofs.HellosAfter.{linked_leaves}
use Rattle.data_ends_kept.proofs.HellosTaken.{FirstFrames, link_after, linked_hears, not_link, old_only, old_takes}
use Rattle.data_ends_kept.proofs.NodeEndsBegin.{node_ends_at_one}
use Rattle.data_ends_kept.proofs.NodeEndsMoves.{NodeEndsAt, NodeEndsHold}
use Rattle.data_pieces.proofs.Places.{places_all}
use Rattle.data_pieces.proofs.PlainView.{view}
use Rattle.data_puts.proofs.RecoverLearnt.{FirstCame, first_came, recover_unlearnt}
use Rattle.data_ends_kept.proofs.ServerBegins.{Greets, awaited_begin, awaited_end, awaits_begin, speaks_begin, waits_spoken}
use Rattle.data_puts.proofs.RoundAfter.{calls_after, over_after}
use Rattle.data_puts.proofs.Spoken.{ReplyOn, SpokenOn, is_spoken}
use Rattle.data_puts.proofs.SpokenAlong.{Along}
use Rattle.data_puts.proofs.WaitingGone.{AwayFrom, away, opening_unlinked}

same_dials : (a b : Linked) → Some a ≡ Some b → a.dial ≡ b.dial
same_dials a b is = ap (λ (k : Linked). k.dial) (one a b is)
  where
    one : (i j : Linked) → Some i ≡ Some j → i ≡ j
    one i j same = cc

module _ (l : Layout) (c : CoresState) (m : Machine) (server now : ℕ) (input : DataIn) (outs : MoveOuts) (written : List Act) (new : Machine)
    (h : Holds l m) (run : IsRun l m.trail) (shows : Mirrors c m) (allowed : Allowed c (ServerMove server now input)) (goes : ServerGoes m server now input outs written new) where
  abbrev pub p : Plain
  p = state_after l m.trail

  abbrev pub v : Server
  v = (state_after l m.trail).server_at server

  abbrev pub x : Site
  x = m.site_at server

  abbrev pub old : DataState
  old = goes.node

  abbrev y : Site
  y = server_site goes.node now input goes.data_outs goes.state (m.site_at server)

  abbrev pub lane_of : ℕ → Lane
  lane_of s = (m.site_at server).lane_at s (m.site_at server).past

  abbrev pub t : Coming
  t = record { old = goes.node; now = now; input = input }

  pub its : SiteHolds l server m.is_dead_at ((state_after l m.trail).server_at server) (m.site_at server)
  its = h.sites server

  pub node : NodeEnds v x old
  node = of_some (NodeEnds v x) x.node old goes.runs its.ends.node

  pub order : NodeOrder l server x.past v old
  order = of_some (NodeOrder l server x.past v) x.node old goes.runs its.order.node

  pub dials : NodeDials x old
  dials = of_some (NodeDials x) x.node old goes.runs its.dials.node

  pub link : NodeLink v x m.is_dead_at old
  link = of_some (NodeLink v x m.is_dead_at) x.node old goes.runs its.link.node

  pub from : StepFrom old
  from = step_from l m server old h run goes.runs

  pub may : DataMay old input
  may = subst (λ (o : Option DataState). NodeMay o input) (shows.nodes server ∙ goes.runs) allowed.may

  pub has : NodeHas server v old
  has = record {
    server = order.its_server;
    ordered = from.ordered;
    started = subst (λ (es : List Entry). last_epoch es ≢ 0) (sym order.order) ((ordered_kept l m.trail server run).begun order.opened);
    order = sym order.order;
    differ = dials.differ;
    within = subst (λ (es : List Entry). old.synced ≤ length es) (sym order.order) (omega (arith, order.synced, (orders_kept l m.trail server run).within));
  }

  pub hold : ConnsHold old
  hold = record { bound = λ conn s role. by conn s role (of_some (RoleIs x old conn) (role_of old conn) (Bound s) role (dials.roles conn)) }
    where
      by : (conn s : ℕ) → role_of old conn ≡ Some (Bound s) → BoundIs x old conn s → (live old.order s ≡ true) × (conn_for s old.conns ≡ Some conn)
      by conn s role b = (b.lives, b.its)

  -- the first frames that may come
  pub allowed_frame : (conn : ℕ) (f : UpFrame) → input ≡ data_in.Frame conn f → Allowed c (ServerMove server now (data_in.Frame conn f))
  allowed_frame conn f came = subst (λ (i : DataIn). Allowed c (ServerMove server now i)) came allowed

  pub first : FirstFrames v x m.is_dead_at its.dials input
  first conn f k came none named = first_came c m server now conn f k shows (allowed_frame conn f came) none named

  pub unlinked : (conn : ℕ) (f : UpFrame) → input ≡ data_in.Frame conn f → kind_of f.message ≡ Opening → link_of x conn ≡ None
  unlinked conn f came kind = opening_unlinked v x m.is_dead_at its.dials conn f kind (λ k linked. frame_next c m server now conn f k shows (allowed_frame conn f came) linked)

  pub at_frame : FrameAt x m.is_dead_at old input
  at_frame = record {
    dials = dials;
    windows = link.windows;
    ups = link.ups;
    next = λ conn f k came linked. frame_next c m server now conn f k shows (allowed_frame conn f came) linked;
  }

  pub low_app : (f : UpFrame) (app session epoch taken dial : ℕ) → IsUpFrame f → f.message ≡ up.Recover app session epoch taken dial → app < APP_LIMIT
  low_app f app session epoch taken dial is says = fields.0
    where
      fields : AllByRecursion IsField (up_row (up.Recover app session epoch taken dial)).fields
      fields = subst (λ (u : Up). AllByRecursion IsField (up_row u).fields) says is.fields

  pub frame_may : (conn : ℕ) (f : UpFrame) → input ≡ data_in.Frame conn f → IsUpFrame f
  frame_may conn f came = subst (DataMay old) came may

  pub known : InputKnown lane_of old now input
  known = record {
    next = λ conn session f b takes. taken_next x m.is_dead_at t at_frame conn session f b takes;
    unlearnt = λ conn app session epoch taken dial f came says later opened older.
        (its.link.lanes session x.past).no_up
        (recover_unlearnt v x m.is_dead_at old its.dials dials order.order its.order.past app session epoch taken dial f
        (first conn f (record { app = app; dial = dial }) came (unlinked conn f came (ap kind_of says)) (ap named_dial says)) says (low_app f app session epoch taken dial (frame_may conn f came) says) opened older later);
  }

  -- where the Hellos come from
  abbrev pub W : Caller → Type 0
  W w = (LinkedTo x w.conn w.app HelloAlone × (role_at w.conn old.conns ≡ Some Waiting)) ⊎ Greets old input w

  pub greets : (app conn : ℕ) (b : Sofar) → HelloMay t app conn true b → W (record { conn = conn; app = app })
  greets app conn b hello = inr (record { dial = hello.dial; frame = hello.came.up; its = hello.came.its; says = hello.came.says })

  pub begun_along : Along l p server v.synced t W (begins t)
  begun_along = record {
    ends = ends_begin l p server v.synced W x old now input has node (all_follow (CallerIs old x) W (λ w is. inl (is.linked, is.waits)) old.callers node.callers.each);
    speaks = speaks_begin old now input (all_follow (ReplyWaits v x old) (ReplyOn old.conns) (λ r is. waits_spoken v x old r is) old.replies link.replies);
  }

  pub along : Along l p server v.synced t W (made goes.state goes.data_outs)
  along = along_after l p server v.synced W lane_of old now goes.data_outs goes.state from input may goes.steps hold places_all greets begun_along

  awaits : AwaitsOn lane_of (made goes.state goes.data_outs)
  awaits =
      awaits_after l p server v.synced W lane_of old now goes.data_outs goes.state from input may goes.steps hold places_all greets begun_along known
      (awaits_begin lane_of old now input (awaited_begin lane_of old (λ s lives. (link.windows.each s lives).taken) node.round.awaited))

  -- the connection of a Hello that waits

  abbrev z : Site
  z = with_node now goes.state (server_takes input (m.site_at server))

  none_put : (conn app dial : ℕ) → role_at conn goes.state.conns ≡ Some Waiting → ((k : ℕ) → link_of (server_takes input x) k ≡ Some (record { app = app; dial = dial }) → k ≡ conn)
      → AllByRecursion (λ f. is_out_on z app dial f ≡ false) goes.data_outs.frames
  none_put conn app dial waits only =
      all_follow (SpokenOn goes.state.conns) (λ f. is_out_on z app dial f ≡ false)
      (λ f spoken. not_link app dial (link_of (server_takes input x) f.conn)
      (λ is. false≢true (sym (ap is_spoken (ap (λ (n : ℕ). role_at n goes.state.conns) (only f.conn is) ∙ waits)) ∙ spoken))) goes.data_outs.frames along.speaks.frames

  finish : (conn app : ℕ) → role_at conn goes.state.conns ≡ Some Waiting → (k : LinkedTo (server_takes input x) conn app HelloAlone)
      → ((n : ℕ) → link_of (server_takes input x) n ≡ Some (record { app = app; dial = k.dial }) → n ≡ conn) → LinkedTo y conn app HelloAlone
  finish conn app waits k only = by (linked_leaves goes.data_outs.cuts conn app (hears_downs goes.data_outs.frames z) (linked_hears z conn app goes.data_outs.frames at_node (none_put conn app k.dial waits only)))
    where
      at_node : LinkedTo z conn app HelloAlone
      at_node = record { dial = k.dial; link = k.link; first = k.first; its = k.its }

      by : LinkedTo (leaves_conns goes.data_outs.cuts (hears_downs goes.data_outs.frames z)) conn app HelloAlone → LinkedTo y conn app HelloAlone
      by g = record { dial = g.dial; link = g.link; first = g.first; its = g.its }

  pub accepted : (conn : ℕ) (f : UpFrame) → input ≡ data_in.Frame conn f → is_some (x.connection_at conn) ≡ true
  accepted conn f came = go (x.connection_at conn) (subst (λ (o : Option Accepted). TakenMay o c server f) (shows.accepted server conn) (allowed_frame conn f came).takes)
    where
      go : (o : Option DataConnection) → TakenMay (option_map (accepted_of server conn) o) c server f → is_some o ≡ true
      go None is = absurd is
      go (Some e) is = refl

  linked : (w : Caller) → WaitsOn goes.state.conns goes.state.order w → W w → AwayFrom old input w → LinkedTo y w.conn w.app HelloAlone
  linked w waits (inl one) far = finish w.conn w.app waits.0 taken (λ n is. old_only v x m.is_dead_at its.dials input first w.conn w.app one.0 n (is ∙ ap (λ (q : ℕ). Some (record { app = w.app; dial = q })) same_dial))
    where
      new_conn : input ≡ data_in.Connected w.conn → ⊥
      new_conn is = false≢true (sym (subst (DataMay old) is may) ∙ ap is_some one.1)

      taken : LinkedTo (server_takes input x) w.conn w.app HelloAlone
      taken = old_takes v x m.is_dead_at its.dials input first w.conn w.app one.0 (λ f is. far one.1 f is) new_conn

      same_dial : taken.dial ≡ one.0.dial
      same_dial = go (link_after v x m.is_dead_at its.dials input first w.conn (record { app = w.app; dial = taken.dial }) taken.link)
        where
          go : (link_of x w.conn ≡ Some (record { app = w.app; dial = taken.dial })) ⊎ ((f : UpFrame) × (FirstCame x (record { app = w.app; dial = taken.dial }) f × (input ≡ data_in.Frame w.conn f))) → taken.dial ≡ one.0.dial
          go (inl is) = same_dials (record { app = w.app; dial = taken.dial }) (record { app = w.app; dial = one.0.dial }) (sym is ∙ one.0.link)
          go (inr f) = absurd (far one.1 f.0 f.1.1)
  linked w waits (inr g) far =
      finish w.conn w.app waits.0 taken (λ n is. only n (is ∙ ap (λ (q : ℕ). Some (record { app = w.app; dial = q })) same_dial))
    where
      at_first : FirstFrames v x m.is_dead_at its.dials (data_in.Frame w.conn g.frame)
      at_first = subst (FirstFrames v x m.is_dead_at its.dials) g.its first

      none : link_of x w.conn ≡ None
      none = unlinked w.conn g.frame g.its (ap kind_of g.says)

      there : is_some (x.connection_at w.conn) ≡ true
      there = accepted w.conn g.frame g.its

      taken : LinkedTo (server_takes input x) w.conn w.app HelloAlone
      taken = subst (λ (i : DataIn). LinkedTo (server_takes i x) w.conn w.app HelloAlone) (sym g.its) (hello_takes v x m.is_dead_at its.dials w.conn w.app g.dial g.frame g.says there none at_first)

      only : (n : ℕ) → link_of (server_takes input x) n ≡ Some (record { app = w.app; dial = g.dial }) → n ≡ w.conn
      only n = subst (λ (i : DataIn). link_of (server_takes i x) n ≡ Some (record { app = w.app; dial = g.dial }) → n ≡ w.conn) (sym g.its) (hello_only v x m.is_dead_at its.dials w.conn w.app g.dial g.frame g.says there none at_first n)

      link_is_now : link_of (server_takes input x) w.conn ≡ Some (record { app = w.app; dial = g.dial })
      link_is_now = subst (λ (i : DataIn). link_of (server_takes i x) w.conn ≡ Some (record { app = w.app; dial = g.dial })) (sym g.its) (linked_now v x m.is_dead_at its.dials w.conn w.app g.dial g.frame g.says there none at_first)

      same_dial : taken.dial ≡ g.dial
      same_dial = same_dials (record { app = w.app; dial = taken.dial }) (record { app = w.app; dial = g.dial }) (sym taken.link ∙ link_is_now)

  -- All of it after the step.
  ends_now : NodeEnds (view l p server v.synced goes.data_outs.acts) y goes.state
  ends_now = record {
    places = along.ends.links.places;
    links = along.ends.links.links;
    round = record {
      due = along.ends.links.due;
      awaited = awaited_end old goes.state goes.data_outs x y (server_lanes old now input goes.data_outs goes.state x) awaits;
      is_on = over_after old now input goes.data_outs goes.state goes.steps along.ends.on;
      unbroken = along.ends.links.unbroken;
    };
    callers = record {
      out_of_round = calls_after old now input goes.data_outs goes.state goes.steps node.callers.out_of_round along.ends.on;
      one_each = along.ends.callers.one_each;
      each = all_follow (λ w. WaitsOn goes.state.conns goes.state.order w × (W w × AwayFrom old input w)) (CallerIs goes.state y)
          (λ w g. record { waits = g.0.0; free = g.0.1; linked = linked w g.0 g.1.0 g.1.1 }) goes.state.callers
          (all_both (WaitsOn goes.state.conns goes.state.order) (λ w. W w × AwayFrom old input w) goes.state.callers along.ends.callers.each
          (all_both W (AwayFrom old input) goes.state.callers along.ends.whence (away l p server v.synced x old now has node hold places_all input goes.data_outs goes.state goes.steps)));
      all = along.ends.callers.all;
    };
  }

  -- Each step of a data server.
  pub node_ends_kept_by_server : NodeEndsHold l (state_after l new.trail) new
  node_ends_kept_by_server =
      node_ends_at_one l m new server (server_site goes.node now input goes.data_outs goes.state) written h goes.after (server_wrote l c m server now input outs written new h run shows allowed goes).others
      (subst (λ (ws : List Act). NodeEndsAt ((after_all l p ws).server_at server) y) (sym same_acts)
      (subst (λ (o : Option DataState). IfSome o (NodeEnds (view l p server v.synced goes.data_outs.acts) y)) (sym (step_site old now input goes.data_outs goes.state x).node) ends_now))
    where
      same_acts : written ≡ raised v.synced goes.data_outs.acts
      same_acts = goes.acts ∙ ap (λ (q : Layout). raised ((state_after q m.trail).server_at server).synced goes.data_outs.acts) h.layout
