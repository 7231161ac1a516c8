-- The lanes and windows of a data server, and what it has of its sessions, after each of its steps.
use Rattle.std.proofs.Common.{◌≡◌, ◌≤◌, ◌<◌, inl, inr, ℕ, Bool, true, false, List, [], drop, length, Option, Some, None, is_some, refl, sym, ◌∙◌, ap, subst, arith}
use Rattle.std.proofs.lemmas.Bool.{false≢true}
use Rattle.plain_orders.specs.declared.act.Act.{Act}
use Rattle.plain_orders.specs.declared.entry.Entry.{Entry}
use Rattle.plain_orders.specs.declared.layout.Layout.{Layout}
use Rattle.plain_orders.specs.declared.mode.Mode.{Mode}
use Rattle.plain_orders.specs.Entries.{live}
use Rattle.plain_orders.specs.Sessions.{app_in}
use Rattle.plain_orders.proofs.LiveSessions.{none_opened, ordered_one_live}
use Rattle.plain_runs.specs.Plain.{Server, order_at}
use Rattle.plain_runs.specs.Run.{IsRun, state_after}
use Rattle.plain_runs.proofs.OrderLaws.{orders_kept}
use Rattle.ecp_messages.specs.declared.up.Up.{Up}
use Rattle.ecp_messages.specs.declared.up.Up.TheVariants as up
use Rattle.ecp_messages.specs.declared.up.UpFrame.{UpFrame}
use Rattle.recovery_round.specs.RoundWords.{Round}
use Rattle.lock_table.specs.declared.rows.Request.{Request}
use Rattle.lock_table.specs.declared.rows.Who.{Who}
use Rattle.lock_table.specs.LockWords.{without_request}
use Rattle.data_rules.specs.DataState.{DataState}
use Rattle.data_rules.specs.declared.data_in.DataIn.{DataIn}
use Rattle.data_rules.specs.declared.data_in.DataIn.TheVariants as data_in
use Rattle.data_rules.specs.declared.rows.Caller.{Caller}
use Rattle.data_rules.specs.declared.rows.Kind.TheVariants.{Numbered, Opening}
use Rattle.data_rules.specs.declared.rows.Role.TheVariants.{Bound}
use Rattle.data_rules.specs.Conns.{role_of}
use Rattle.data_rules.specs.Frames.{kind_of}
use Rattle.data_rules.specs.Puts.{Sofar, begun}
use Rattle.data_rules.specs.Step.{DataMay, DataStep, made}
use Rattle.data_rules.specs.declared.data_outs.DataOuts.{DataOuts}
use Rattle.cluster_runs.specs.declared.move_outs.MoveOuts.{MoveOuts}
use Rattle.cluster_runs.specs.declared.moves.Move.TheVariants.{Server as ServerMove}
use Rattle.cluster_runs.specs.CoresState.{CoresState}
use Rattle.cluster_runs.specs.Connections.{link_of}
use Rattle.cluster_runs.specs.Moves.{Allowed, named_dial}
use Rattle.cluster_runs.specs.Mirrors.{Mirrors}
use Rattle.cluster_runs.specs.Machine.{Machine, Site}
use Rattle.cluster_runs.specs.Goes.{ServerGoes, server_site}
use Rattle.cluster_runs.specs.Sent.{Lane}
use Rattle.cluster_invariant.specs.Dials.{LinkedTo, NodeDials}
use Rattle.cluster_invariant.specs.Ends.{HelloAlone}
use Rattle.cluster_invariant.specs.Holds.{Holds, SiteHolds}
use Rattle.cluster_invariant.specs.Link.{LaneCounts, NodeLink}
use Rattle.cluster_invariant.specs.Orders.{NodeOrder}
use Rattle.cluster_invariant.specs.Served.{IsServed, NodeServes}
use Rattle.cluster_invariant.specs.Words.{is_begun, ups_left}
use Rattle.cluster_invariant.proofs.AllLists.{all_follow}
use Rattle.cluster_invariant.proofs.ConnRoles.{bound_role}
use Rattle.cluster_invariant.proofs.PieceKinds.{Piece, makes}
use Rattle.cluster_invariant.proofs.PieceMay.{Asked, CancelsMay, ClaimsMay, Coming, ComesAgainMay, HelloMay, PutsNormalMay, begins}
use Rattle.cluster_invariant.proofs.Pieces.{MayMake}
use Rattle.cluster_invariant.proofs.PiecesOfSteps.{StepFrom, synced_state}
use Rattle.cluster_invariant.proofs.PastOrders.{order_now}
use Rattle.data_ends_kept.proofs.HellosTaken.{FirstFrames}
use Rattle.data_ends_kept.proofs.NodeEndsServer as ends
use Rattle.data_pieces.proofs.EndsPieces.{ConnsHold}
use Rattle.data_pieces.proofs.Places.{places_all}
use Rattle.data_puts.proofs.RecoverLearnt.{recover_unlearnt}
use Rattle.data_puts.proofs.SpokenAlong.{Along, along_piece}
use Rattle.link_kept.proofs.CloseRequests.{AskersLive, tick_askers}
use Rattle.link_kept.proofs.FitsWell.{is_hello, may_close}
use Rattle.link_kept.proofs.FramesFit.{FrameAt, NextIs, OnWay, on_way}
use Rattle.dials_server.proofs.QuietServer.{of_some_and}
use Rattle.link_kept.proofs.HelloRequests.{hello_askers}
use Rattle.link_kept.proofs.LockSessions.{RequestsOf}
use Rattle.link_kept.proofs.LockWaits.{IsAlone}
use Rattle.link_kept.proofs.ServerMoves.{none_begun}
use Rattle.link_kept.proofs.ServesGo.{ServesGo}
use Rattle.link_kept.proofs.ServesServer.{ServesAfter, serves_begin, serves_kept_by_step, serves_still}
use Rattle.link_kept.proofs.StepFits.{ConnsKnow, LeftToOthers, fits_well}
use Rattle.link_kept.proofs.WindowPieces.{PutsWell}
use Rattle.link_kept.proofs.WindowsGo.{Served}
use Rattle.link_nodes.proofs.BoundsAlong.{BoundsAt, bounds_piece}
use Rattle.link_nodes.proofs.BoundsGo.{BoundsGo, Whence}
use Rattle.link_nodes.proofs.RoundsLearnt.{LearntOr, RoundsLearnt, rounds_begin, rounds_piece}

-- what is left to the part on requests for locks: that a job asks once, that a claim is of a job that doesn't ask, and that requests of a
-- session that was closed go without a grant to one of them
pub record AsksLeft (lane_of : ℕ → Lane) (t : Coming) : Type 0 where
  pub asks : (r : Request) (b : Sofar) → Asked t r.who.session (up.Ask r.ticket r.who.job r.mode r.name) b → IsAlone r.who b.state.locks.requests
  pub claims : (who : Who) (key : List ℕ) (mode : Mode) (number at : ℕ) (b : Sofar) → ClaimsMay t who key mode number at b → IsAlone who b.state.locks.requests
  pub cancels : (r : Request) (b : Sofar) → ServesGo lane_of (may_close t.input) b.state → CancelsMay t r b
      → RequestsOf (λ s. live b.state.order s ≡ true) (without_request b.state.locks r.who.session r.ticket (length b.state.order)).grants

hello_is : (m : Up) → is_hello m ≡ true → (app : ℕ) × ((dial : ℕ) × (m ≡ up.Hello app dial))
hello_is (up.Hello app dial) is = (app, (dial, refl))
hello_is (up.Recover app s epoch taken dial) is = absurd (false≢true is)
hello_is (up.Update w job txn op) is = absurd (false≢true is)
hello_is (up.Add w job key amount) is = absurd (false≢true is)
hello_is (up.Fetch key) is = absurd (false≢true is)
hello_is (up.Ask ticket job mode key) is = absurd (false≢true is)
hello_is (up.Unlock job mode key) is = absurd (false≢true is)
hello_is (up.Cancel ticket) is = absurd (false≢true is)
hello_is (up.Commit w job txn wanted) is = absurd (false≢true is)
hello_is (up.Rollback w job txn) is = absurd (false≢true is)
hello_is (up.Sync ticket) is = absurd (false≢true is)
hello_is up.Done is = absurd (false≢true is)
hello_is (up.Claim job mode number at key) is = absurd (false≢true is)
hello_is up.Bare is = absurd (false≢true is)

module _ (l : Layout) (c : CoresState) (m : Machine) (server now : ℕ) (input : DataIn) (outs : MoveOuts) (written : List Act) (new : Machine)
    (h : Holds l m) (run : IsRun l m.trail) (shows : Mirrors c m) (allowed : Allowed c (ServerMove server now input)) (goes : ServerGoes m server now input outs written new) where
  abbrev x : Site
  x = m.site_at server

  abbrev v : Server
  v = (state_after l m.trail).server_at server

  abbrev old : DataState
  old = goes.node

  abbrev pub t : Coming
  t = record { old = goes.node; now = now; input = input }

  abbrev pub lane_of : ℕ → Lane
  lane_of s = (m.site_at server).lane_at s (m.site_at server).past

  abbrev pub W : Caller → Type 0
  W w = ends.W l c m server now input outs written new h run shows allowed goes w

  pub its : SiteHolds l server m.is_dead_at v x
  its = h.sites server

  pub node : NodeLink v x m.is_dead_at old
  node = ends.link l c m server now input outs written new h run shows allowed goes

  pub order : NodeOrder l server x.past v old
  order = ends.order l c m server now input outs written new h run shows allowed goes

  pub at_frame : FrameAt x m.is_dead_at old input
  at_frame = ends.at_frame l c m server now input outs written new h run shows allowed goes

  pub dials : NodeDials x old
  dials = ends.dials l c m server now input outs written new h run shows allowed goes

  pub first : FirstFrames v x m.is_dead_at its.dials input
  first = ends.first l c m server now input outs written new h run shows allowed goes

  pub unlinked : (conn : ℕ) (f : UpFrame) → input ≡ data_in.Frame conn f → kind_of f.message ≡ Opening → link_of x conn ≡ None
  unlinked = ends.unlinked l c m server now input outs written new h run shows allowed goes

  pub may : DataMay old input
  may = ends.may l c m server now input outs written new h run shows allowed goes

  pub from : StepFrom old
  from = ends.from l c m server now input outs written new h run shows allowed goes

  pub hold : ConnsHold old
  hold = ends.hold l c m server now input outs written new h run shows allowed goes

  pub counts : (s : ℕ) → LaneCounts (lane_of s)
  counts s = its.link.lanes s x.past

  -- what goes along of its ends, its connections and its round
  pub record Known (b : Sofar) : Type 0 where
    pub along : Along l (state_after l m.trail) server v.synced t W b
    pub bounds : BoundsAt l (state_after l m.trail) server v.synced t W b
    pub rounds : RoundsLearnt lane_of t b.state

  greets : (app conn : ℕ) (in_round : Bool) (b : Sofar) → HelloMay t app conn in_round b → W (record { conn = conn; app = app })
  greets app conn in_round b hello = inr (record { dial = hello.dial; frame = hello.came.up; its = hello.came.its; says = hello.came.says })

  -- a frame that is behind the first one, on the connection of a session, is of one that learnt of the order

  frame_is : (conn n : ℕ) (f g : UpFrame) → data_in.Frame conn f ≡ data_in.Frame n g → f ≡ g
  frame_is conn n f g is = cc

  came_learnt : (o : Option ℕ) (s : ℕ) → (lane_of s).began ≡ o → (o ≡ None → ⊥) → is_begun (lane_of s) ≡ true
  came_learnt None s none not = absurd (not refl)
  came_learnt (Some dial) s some not = ap (λ (q : Option ℕ). is_some q) some

  was_learnt : (conn s : ℕ) (f : UpFrame) → input ≡ data_in.Frame conn f → role_of old conn ≡ Some (Bound s) → is_begun (lane_of s) ≡ true
  was_learnt conn s f came role = came_learnt (lane_of s).began s refl (λ none. not_left (on_way x m.is_dead_at t at_frame conn s f came role) none)
    where
      not_left : OnWay x m.is_dead_at t at_frame s f → (lane_of s).began ≡ None → ⊥
      not_left o none = absurd (cc (o.way.none none))

  -- a Hello that waits is alone on its connection
  pub not_alone : (conn app : ℕ) (f : UpFrame) (k : LinkedTo x conn app HelloAlone) → NextIs x (record { app = app; dial = k.dial }) f → ⊥
  not_alone conn app f k next = go (of_some_and HelloAlone ((x.end_at app).connection_at k.dial) next.on next.there k.its)
    where
      go : HelloAlone next.on → ⊥
      go alone = absurd (let none : ups_left next.on ≡ [] = ap (λ (n : ℕ). drop n next.on.ups) alone.taken ∙ alone.one in cc (next.left))

  pub learnt_here : (conn s : ℕ) (f : UpFrame) (b : Sofar) → Known b → input ≡ data_in.Frame conn f → (kind_of f.message ≡ Opening → ⊥) → role_of b.state conn ≡ Some (Bound s) → is_begun (lane_of s) ≡ true
  learnt_here conn s f b k came kind role = go (k.bounds.whence conn s role)
    where
      go : Whence t W b.state.order conn s → is_begun (lane_of s) ≡ true
      go (inl was) = was_learnt conn s f came was
      go (inr (inl now)) = absurd (called now.called)
        where
          called : W (record { conn = conn; app = now.app }) → ⊥
          called (inl waited) = not_alone conn now.app f waited.0 (at_frame.next conn f (record { app = now.app; dial = waited.0.dial }) came waited.0.link)
          called (inr g) = kind (ap (λ (q : UpFrame). kind_of q.message) (frame_is conn conn f g.frame (sym came ∙ g.its)) ∙ ap kind_of g.says)
      go (inr (inr back)) = absurd (kind (ap (λ (q : UpFrame). kind_of q.message) (frame_is conn conn f back.came.up (sym came ∙ back.came.its)) ∙ ap kind_of back.came.says))

  know : (b : Sofar) → Known b → ConnsKnow lane_of t b
  know b k = record {
    lives = λ conn s role. k.bounds.lives conn s role;
    has = λ conn s is. k.bounds.lives conn s (bound_role s b.state.conns conn k.along.ends.links.differ is);
    learnt = λ conn s f came kind role. learnt_here conn s f b k came (λ is. (let both : Numbered ≡ Opening = sym kind ∙ is in cc)) role;
  }

  -- what each small change keeps of it
  pub known_piece : (q : Piece) (b : Sofar) → MayMake t q b → Known b → Known (makes now q b)
  known_piece q b made k = record {
    along = along_piece l (state_after l m.trail) server v.synced t W hold places_all (λ app conn e hello. greets app conn true e hello) q b made k.along;
    bounds = bounds_piece l (state_after l m.trail) server v.synced t W greets q b made k.along k.bounds;
    rounds = rounds_piece lane_of t from.ordered q b made k.bounds.longer
        (λ conn session f done. learnt_here conn session f b k done.takes.on.came (λ is. (let both : Numbered ≡ Opening = sym done.takes.kind ∙ is in cc)) done.takes.on.bound) k.rounds;
  }

  -- and where the step begins

  begin_bounds : BoundsGo t W old.conns old.order
  begin_bounds = record {
    lives = λ conn s role. (hold.bound conn s role).0;
    only = λ conn w s role also. one w conn (sym (hold.bound w s also).1 ∙ (hold.bound conn s role).1);
    whence = λ conn s role. inl role;
    longer = omega arith;
  }
    where
      one : (i j : ℕ) → Some i ≡ Some j → i ≡ j
      one i j both = cc

  begins_bounds : BoundsAt l (state_after l m.trail) server v.synced t W (begins t)
  begins_bounds = go input begin_bounds
    where
      At : DataIn → Coming
      At i = record { old = old; now = now; input = i }

      go : (i : DataIn) → BoundsGo (At i) W old.conns old.order → BoundsGo (At i) W (begins (At i)).state.conns (begins (At i)).state.order
      go (data_in.Frame conn f) b = b
      go (data_in.Connected conn) b = b
      go (data_in.Broken conn) b = b
      go data_in.Tick b = b
      go (data_in.Saved upto) b =
          subst (λ (n : DataState). BoundsGo (At (data_in.Saved upto)) W n.conns n.order) (sym (synced_state upto (begun old))) b

  pub known_begin : Known (begins t)
  known_begin = record {
    along = ends.begun_along l c m server now input outs written new h run shows allowed goes;
    bounds = begins_bounds;
    rounds = rounds_begin v x old now input counts (ends.node l c m server now input outs written new h run shows allowed goes).round;
  }

  pub to_open : (s : ℕ) → length old.order < s → (lane_of s).began ≡ None
  to_open s above =
      none_begun v x s x.past (lane_of s).began (app_in (order_at v x.past) s)
      (ap (λ (es : List Entry). app_in es s) (ap (order_at v) its.order.past ∙ order_now v ∙ sym order.order) ∙ none_opened old.order from.ordered s above)
      (its.dials.learnt s x.past)

  pub within : old.synced ≤ length old.order
  within = subst (λ (es : List Entry). old.synced ≤ length es) (sym order.order) (omega (arith, order.synced, (orders_kept l m.trail server run).within))

  -- a Recover in an older epoch is of a session that didn't learn of the order
  pub again_unlearnt : (session conn kept : ℕ) (b : Sofar) → Known b → ComesAgainMay t session conn kept b → (lane_of session).began ≡ None
  again_unlearnt session conn kept b k may_come =
      recover_unlearnt v x m.is_dead_at old its.dials dials order.order its.order.past may_come.app session may_come.came.epoch may_come.came.taken may_come.came.dial f
      (first conn f (record { app = may_come.app; dial = may_come.came.dial }) came (unlinked conn f came (ap kind_of says)) (ap named_dial says)) says
      (ends.low_app l c m server now input outs written new h run shows allowed goes f may_come.app session may_come.came.epoch may_come.came.taken may_come.came.dial
      (ends.frame_may l c m server now input outs written new h run shows allowed goes conn f came) says)
      (λ a is. one a may_come.app (sym (k.along.ends.grown.apps session a is) ∙ may_come.came.its))
      (subst (λ (n : ℕ). may_come.came.epoch < n) k.along.ends.grown.epoch may_come.older) may_come.came.firstly.later
    where
      f : UpFrame
      f = may_come.came.came.up

      came : input ≡ data_in.Frame conn f
      came = may_come.came.came.its

      says : f.message ≡ up.Recover may_come.app session may_come.came.epoch may_come.came.taken may_come.came.dial
      says = may_come.came.came.says

      one : (i j : ℕ) → Some i ≡ Some j → i ≡ j
      one i j both = cc

  -- each session that goes on after a round learnt of the order
  normal_served : (app session : ℕ) (b : Sofar) → Known b → PutsNormalMay t app session b → Served lane_of b.state.order session
  normal_served app session b k may_put = (lives, subst (λ (o : Option Round). LearntOr lane_of o session) may_put.over (k.rounds may_put.in_round session was lives))
    where
      lives : live b.state.order session ≡ true
      lives = (ordered_one_live b.state.order k.along.ends.links.ordered).lives app session may_put.has

      was : live old.order session ≡ true
      was = (ordered_one_live old.order from.ordered).lives app session may_put.was

  module _ (left : AsksLeft lane_of t) where
    abbrev E : Sofar → Type 0
    E b = Known b × ServesGo lane_of (may_close input) b.state

    left_all : LeftToOthers lane_of t E
    left_all = record {
      again = λ session conn kept b e is. again_unlearnt session conn kept b e.0 is;
      normal = λ app session b e is. normal_served app session b e.0 is;
      asks = λ r b e is. left.asks r b is;
      claims = λ who key mode number at b e is. left.claims who key mode number at b is;
      cancels = λ r b e is. left.cancels r b e.1 is;
    }

    -- The windows, the lanes, and what it has of its sessions, with what each small change keeps besides.
    pub served_by_step : (G : Sofar → Type 0) → ((q : Piece) (b : Sofar) → MayMake t q b → PutsWell lane_of q b → Known b → G b → G (makes now q b)) → G (begins t)
        → ServesAfter old goes.state x (server_site old now input goes.data_outs goes.state x) (may_close input) × (Known (made goes.state goes.data_outs) × G (made goes.state goes.data_outs))
    served_by_step G keeps first_so =
        serves_kept_by_step x old now input goes.data_outs goes.state (record { lanes = its.link.lanes; windows = node.windows })
        (serves_begin v x old (may_close input) from.ordered within dials node.serves node.replies) from may goes.steps Known
        (λ q b made_so k s w. fits_well x m.is_dead_at t at_frame E (λ e a. know e a.0) (λ e a. a.0.bounds.longer) to_open left_all node.serves.items q b made_so (k, s))
        known_piece known_begin (λ b. Known b × G b)
        (λ q b made_so well g. (known_piece q b made_so g.0, keeps q b made_so well g.0 g.1)) (known_begin, first_so)

    askers : AskersLive old
    askers = all_follow (λ (r : Request). IsServed x old r.who.session) (λ (r : Request). live old.order r.who.session ≡ true) (λ r is. is.lives) old.locks.requests node.serves.requests

    serves_by : (y : Site) (i : DataIn) (os : DataOuts) (n : DataState) → DataStep old now i os n → ServesAfter old n x y (may_close i) → NodeServes y n
    serves_by y (data_in.Frame conn f) os n steps a = go (is_hello f.message) refl
      where
        go : (b : Bool) → is_hello f.message ≡ b → NodeServes y n
        go false other = serves_still old n x y (is_hello f.message) other a
        go true is =
            let hello : (app : ℕ) × ((dial : ℕ) × (f.message ≡ up.Hello app dial)) = hello_is f.message is in
            a.serves (hello_askers f hello.0 hello.1.0 conn now (begun old) (made n os) hello.1.1 steps askers)
    serves_by y (data_in.Connected conn) os n steps a = serves_still old n x y false refl a
    serves_by y (data_in.Broken conn) os n steps a = serves_still old n x y false refl a
    serves_by y data_in.Tick os n steps a = a.serves (tick_askers old now os n steps askers)
    serves_by y (data_in.Saved upto) os n steps a = serves_still old n x y false refl a

    pub serves_now : NodeServes (server_site old now input goes.data_outs goes.state x) goes.state
    serves_now =
        serves_by (server_site old now input goes.data_outs goes.state x) input goes.data_outs goes.state goes.steps
        (served_by_step (λ b. Unit {0}) (λ q b made_so well k g. tt) tt).0
