-- The part on connections, for a frame that a data server takes on a linked connection and that ends none.
use Rattle.std.proofs.Common.{◌≡◌, ◌⊎◌, ℕ, Bool, true, false, if◌then◌else◌, List, [], ◌∷◌, length, drop, Option, Some, None, is_some, option_map, refl, sym, ◌∙◌, ap, subst, arith, inl, inr}
use Rattle.std.specs.Prelude.{IsSomeAnd, Ok, Err, Result}
use Rattle.plain_orders.specs.declared.act.Act.{Act}
use Rattle.plain_orders.specs.declared.entry.Entry.{Entry}
use Rattle.plain_orders.specs.declared.layout.Layout.{Layout}
use Rattle.plain_orders.specs.Ordered.{IsOrdered}
use Rattle.plain_runs.specs.Plain.{Plain, Server, order_at}
use Rattle.plain_runs.specs.Run.{IsRun, after_all, state_after}
use Rattle.ecp_messages.specs.declared.up.UpFrame.{UpFrame}
use Rattle.end_words.specs.Windows.{answers}
use Rattle.link_window.specs.declared.window.Taken.{Taken}
use Rattle.link_window.specs.declared.window.Taken.TheVariants.{Fresh, Repeat}
use Rattle.link_window.specs.declared.window.WindowError.{WindowError}
use Rattle.lock_table.specs.declared.rows.Request.{Request}
use Rattle.block_holders.specs.declared.noted.Noted.{Noted}
use Rattle.data_rules.specs.declared.data_in.DataIn.TheVariants as data_in
use Rattle.data_rules.specs.declared.rows.Caller.{Caller}
use Rattle.data_rules.specs.declared.rows.Kind.{Kind}
use Rattle.data_rules.specs.declared.rows.Kind.TheVariants.{Opening, Numbered, Unnumbered}
use Rattle.data_rules.specs.declared.rows.Role.{Role}
use Rattle.data_rules.specs.declared.rows.Role.TheVariants.{New, Waiting, Bound, Closing}
use Rattle.data_rules.specs.declared.rows.Says.{Says}
use Rattle.data_rules.specs.declared.rows.Says.TheVariants.{NewWelcome, EpochWelcome, ResetOf, GrantOf, AnswerOf}
use Rattle.data_rules.specs.DataState.{DataState}
use Rattle.data_rules.specs.Conns.{role_of}
use Rattle.data_rules.specs.Frames.{Ends, TakesBare, TakesBound, TakesClosing, TakesFrame, TakesNumbered, acknowledged, kind_of, took}
use Rattle.data_rules.specs.Puts.{Sofar, begun, body_of, window_of}
use Rattle.cluster_runs.specs.declared.move_outs.MoveOuts.{MoveOuts}
use Rattle.cluster_runs.specs.declared.moves.Move.TheVariants.{Server as ServerMove}
use Rattle.cluster_runs.specs.CoresState.{Accepted, CoresState, Dial, Linked, dial_at}
use Rattle.cluster_runs.specs.Machine.{DataConnection, Machine, Site}
use Rattle.cluster_runs.specs.Mirrors.{Mirrors, accepted_of}
use Rattle.cluster_runs.specs.Moves.{Allowed, LinkedMay, TakenMay, first_of, named_dial, next_up}
use Rattle.cluster_runs.specs.Sent.{Connection, Lane}
use Rattle.cluster_runs.specs.Connections.{dial_of, is_link, link_in, link_of, up_taken}
use Rattle.cluster_runs.specs.Goes.{ServerGoes}
use Rattle.cluster_invariant.specs.Dials.{DialsAre, NodeDials, RoleIs}
use Rattle.cluster_invariant.specs.Ends.{CallerIs, HelloAlone, NodeEnds}
use Rattle.cluster_invariant.specs.Holds.{Holds, SiteHolds}
use Rattle.cluster_invariant.specs.Link.{NodeLink, UpWayBy, UpWayOn}
use Rattle.cluster_invariant.specs.Orders.{NodeOrder}
use Rattle.cluster_invariant.specs.Served.{HasLearnt, IsServed}
use Rattle.cluster_invariant.specs.Waiting.{ReplyWaits}
use Rattle.cluster_invariant.specs.Words.{ups_left}
use Rattle.cluster_invariant.proofs.AllLists.{all_follow}
use Rattle.cluster_invariant.proofs.Deeds.{order_by}
use Rattle.cluster_invariant.proofs.OrderMoves.{step_from}
use Rattle.cluster_invariant.proofs.OrderRows.{StepWrote}
use Rattle.cluster_invariant.proofs.Small.{of_some}
use Rattle.cluster_invariant.proofs.PastOrders.{order_now}
use Rattle.dials_server.proofs.GoNodes.{GoInv, go_windows}
use Rattle.dials_server.proofs.LinkWords.{is_link_true}
use Rattle.dials_server.proofs.OverRounds.{over_but_one, over_learnt}
use Rattle.dials_server.proofs.SaveDials.{says_fit, within_ordered}
use Rattle.dials_server.proofs.SaveNodes.{ReplyFits, SaysFit}
use Rattle.dials_server.proofs.TakenFrames.{NextFrame, connections, dials_taken, site_taken}
use Rattle.dials_server.proofs.TakesNodes.{go_message}

-- the next frame

first_is : (fs : List UpFrame) (f : UpFrame) → first_of fs ≡ Some f → (rest : List UpFrame) × (fs ≡ f ∷ rest)
first_is [] f is = absurd cc
first_is (g ∷ fs) f is = (fs, ap (λ (h : UpFrame). h ∷ fs) (some_same g f is))
  where
    some_same : (a b : UpFrame) → Some a ≡ Some b → a ≡ b
    some_same a b same = cc

-- What a connection has next.
pub on_dial : (x : Site) (server : ℕ) (l : Linked) (f : UpFrame) (o : Option Connection) → (x.end_at l.app).connection_at l.dial ≡ o
    → next_up (option_map (dial_of l.app server l.dial) o) ≡ Some f → NextFrame x l f
on_dial x server l f None there is = absurd cc
on_dial x server l f (Some c) there is = go c.data_left is
  where
    go : (b : Bool) → first_of (if b then [] else drop c.ups_taken c.ups) ≡ Some f → NextFrame x l f
    go true none = absurd cc
    go false some =
        let next : (rest : List UpFrame) × (ups_left c ≡ f ∷ rest) = first_is (ups_left c) f some in
        record { on = c; there = there; behind = next.0; left = next.1 }

next_frame : (c : CoresState) (m : Machine) (server now conn : ℕ) (f : UpFrame) (l : Linked) → Mirrors c m → Allowed c (ServerMove server now (data_in.Frame conn f))
    → link_of (m.site_at server) conn ≡ Some l → NextFrame (m.site_at server) l f
next_frame c m server now conn f l shows allowed linked =
    taken ((m.site_at server).connection_at conn) linked (subst (λ (o : Option Accepted). TakenMay o c server f) (shows.accepted server conn) allowed.takes)
  where
    linked_may : next_up (dial_at c l.app server l.dial) ≡ Some f → NextFrame (m.site_at server) l f
    linked_may is =
        on_dial (m.site_at server) server l f (((m.site_at server).end_at l.app).connection_at l.dial) refl
        (ap (λ (o : Option Dial). next_up o) (sym (shows.dials l.app server l.dial)) ∙ is)

    taken : (o : Option DataConnection) → link_in o ≡ Some l → TakenMay (option_map (accepted_of server conn) o) c server f → NextFrame (m.site_at server) l f
    taken None none may = absurd may
    taken (Some d) its may = linked_may (subst (λ (o : Option Linked). LinkedMay o c server f) its may.1)

-- it says what it said of a session
pub says_moved : (x z : Site) (n : DataState) → z.lane_at ≡ x.lane_at → z.past ≡ x.past → (says : Says) → SaysFit says x n → SaysFit says z n
says_moved x z n lanes past (NewWelcome conn session) fits = fits
says_moved x z n lanes past (EpochWelcome conn session kept) fits = fits
says_moved x z n lanes past (ResetOf conn session at) fits = fits
says_moved x z n lanes past (GrantOf session ticket at) fits = subst (λ (f : ℕ → ℕ → Lane). is_some (f session z.past).began ≡ true) (sym lanes) (subst (λ (k : ℕ). is_some (x.lane_at session k).began ≡ true) (sym past) fits)
says_moved x z n lanes past (AnswerOf session about job number at sum) fits = subst (λ (f : ℕ → ℕ → Lane). is_some (f session z.past).began ≡ true) (sym lanes) (subst (λ (k : ℕ). is_some (x.lane_at session k).began ≡ true) (sym past) fits)

module _ (l : Layout) (c : CoresState) (m : Machine) (server now conn : ℕ) (f : UpFrame) (outs : MoveOuts) (written : List Act) (new : Machine) (h : Holds l m)
    (run : IsRun l m.trail) (after_run : IsRun l new.trail) (shows : Mirrors c m) (allowed : Allowed c (ServerMove server now (data_in.Frame conn f)))
    (goes : ServerGoes m server now (data_in.Frame conn f) outs written new) (link : Linked) (linked : link_of (m.site_at server) conn ≡ Some link)
  where
    abbrev v : Server
    v = (state_after l m.trail).server_at server

    abbrev q : Plain
    q = after_all l (state_after l m.trail) written

    abbrev x : Site
    x = m.site_at server

    abbrev n : DataState
    n = goes.node

    abbrev z : Site
    z = site_taken x conn link (named_dial f.message)

    its : SiteHolds l server m.is_dead_at v x
    its = h.sites server

    next : NextFrame x link f
    next = next_frame c m server now conn f link shows allowed linked

    pub dials_z : DialsAre v z m.is_dead_at
    dials_z = dials_taken v x m.is_dead_at conn link (named_dial f.message) f n linked next goes.runs its.dials

    pub ordered_n : IsOrdered n.order
    ordered_n = (step_from l m server n h run goes.runs).ordered

    node : NodeOrder l server x.past v n
    node = of_some (NodeOrder l server x.past v) x.node n goes.runs its.order.node

    ends : NodeEnds v x n
    ends = of_some (NodeEnds v x) x.node n goes.runs its.ends.node

    links : NodeLink v x m.is_dead_at n
    links = of_some (NodeLink v x m.is_dead_at) x.node n goes.runs its.link.node

    pub order_v : order_at v x.past ≡ n.order
    order_v = ap (order_at v) its.order.past ∙ order_now v ∙ sym node.order

    pub order_w : (st : DataState) → StepWrote server n st (state_after l m.trail) q → st.order ≡ order_at (q.server_at server) x.past
    order_w st w =
        w.its ∙ ap (order_by w.deeds) node.order ∙ sym w.order ∙ sym (order_now (q.server_at server))
        ∙ ap (order_at (q.server_at server)) (ap (λ (os : List (List Entry)). length os) w.past ∙ sym its.order.past)

    pub link_z : (k : ℕ) → link_of z k ≡ link_of x k
    link_z k = ap link_in (connections v x m.is_dead_at conn link (named_dial f.message) f n linked next goes.runs its.dials k)

    -- the session of the connection learnt of the order
    pub bound_learnt : (s : ℕ) → role_of n conn ≡ Some (Bound s) → HasLearnt x s
    bound_learnt s role = go (x.lane_at s x.past).began refl
      where
        way : UpWayOn (x.lane_at s x.past) (m.is_dead_at link.app) (x.end_at link.app).state link.dial s next.on
        way =
            of_some (UpWayOn (x.lane_at s x.past) (m.is_dead_at link.app) (x.end_at link.app).state link.dial s) ((x.end_at link.app).connection_at link.dial) next.on next.there
            (of_some (UpWayBy x m.is_dead_at s) (link_of x conn) link linked (links.ups s conn role))

        go : (o : Option ℕ) → (x.lane_at s x.past).began ≡ o → is_some (x.lane_at s x.past).began ≡ true
        go (Some dial) began = ap (λ (o : Option ℕ). is_some o) began
        go None began = (let both : ◌≡◌ {A = List UpFrame} (f ∷ next.behind) [] = sym next.left ∙ way.none began in absurd cc)

    -- a Hello that waits is elsewhere
    waits_elsewhere : (a d : ℕ) → IsSomeAnd ((x.end_at a).connection_at d) HelloAlone → is_link a d (Some link) ≡ true → ⊥
    waits_elsewhere a d alone is = nothing next.on.ups_taken next.on.ups hello.taken hello.one next.left
      where
        hello : HelloAlone next.on
        hello =
            subst (λ (o : Option Connection). IsSomeAnd o HelloAlone) next.there
            (subst (λ (j : Linked). IsSomeAnd ((x.end_at j.app).connection_at j.dial) HelloAlone) (sym (same link (record { app = a; dial = d }) (is_link_true a d (Some link) is))) alone)
          where
            same : (i j : Linked) → ◌≡◌ {A = Option Linked} (Some i) (Some j) → i ≡ j
            same i j both = cc (both)

        nothing : (k : ℕ) (us : List UpFrame) → k ≡ 1 → drop 1 us ≡ [] → drop k us ≡ f ∷ next.behind → ⊥
        nothing k us one none some =
            (let both : ◌≡◌ {A = List UpFrame} [] (f ∷ next.behind) = sym none ∙ ap (λ (i : ℕ). drop i us) (sym one) ∙ some in absurd cc)

    untaken : (P : Connection → Type 0) (b : Bool) (o : Option Connection) → (b ≡ true → ⊥) → IsSomeAnd o P → IsSomeAnd (option_map (λ e. if b then up_taken x.past conn e else e) o) P
    untaken P true o other at = absurd (other refl)
    untaken P false None other at = at
    untaken P false (Some e) other at = at

    caller_z : (k : Caller) → CallerIs n x k → CallerIs n z k
    caller_z k at = record {
      waits = at.waits;
      free = at.free;
      linked = record {
        dial = at.linked.dial;
        link = link_z k.conn ∙ at.linked.link;
        first =
            untaken (λ e. e.first ≡ Some (record { order = x.past; conn = k.conn })) (is_link k.app at.linked.dial (Some link)) ((x.end_at k.app).connection_at at.linked.dial)
            (waits_elsewhere k.app at.linked.dial at.linked.its) at.linked.first;
        its =
            untaken HelloAlone (is_link k.app at.linked.dial (Some link)) ((x.end_at k.app).connection_at at.linked.dial)
            (waits_elsewhere k.app at.linked.dial at.linked.its) at.linked.its;
      };
    }

    -- as the step begins
    pub begins_z : GoInv z n [] (begun n)
    begins_z = record {
      nodes = of_some (NodeDials z) x.node n goes.runs dials_z.node;
      frames = tt;
      cuts = refl;
      noted = all_follow (λ (y : Noted). IsServed x n y.session) (λ (y : Noted). HasLearnt x y.session) (λ y is. is.learnt) n.noted links.serves.noted;
      requests = all_follow (λ (r : Request). IsServed x n r.who.session) (λ (r : Request). HasLearnt x r.who.session) (λ r is. is.learnt) n.locks.requests links.serves.requests;
      replies = all_follow (ReplyWaits v x n) (ReplyFits z n) (λ r is. says_moved x z n refl refl r.says (says_fit v x n r.at r.says is.says)) n.replies links.replies;
      conns = refl;
      longer = omega arith;
      within = within_ordered n.order ordered_n;
      callers = all_follow (CallerIs n x) (CallerIs n z) (λ k at. caller_z k at) n.callers ends.callers.each;
      apart = ends.callers.one_each;
      round = over_learnt v x n ordered_n (λ s. its.link.lanes s x.past) ends.round;
    }

    abbrev acked : ℕ → Sofar
    acked s = acknowledged s f.ack (begun n)

    go_acked : (s : ℕ) → GoInv z n [] (acked s)
    go_acked s = go_windows z n [] (begun n) (acked s) (record { windows = _; state = refl; acts = refl; cuts = refl }) tt begins_z

    go_took : (s : ℕ) → GoInv z n [] (took s f.ack (begun n))
    go_took s = go_windows z n [] (begun n) (took s f.ack (begun n)) (record { windows = _; state = refl; acts = refl; cuts = refl }) tt begins_z

    -- it goes on, or the connection is ended
    abbrev OnOrEnds : Sofar → Type 0
    OnOrEnds b = GoInv z n [] b ⊎ Ends (begun n) conn now b

    numbered : (o : Result Taken WindowError) (s : ℕ) (b : Sofar) → HasLearnt x s → TakesNumbered o (begun n) conn now s f b → OnOrEnds b
    numbered (Ok Fresh) s b learnt (inl fresh) =
        inl (go_message z n [] f.message s (took s f.ack (begun n)) b learnt
        (over_but_one v x n s ordered_n (λ i. its.link.lanes i x.past) ends.round learnt) fresh.made (go_took s))
    numbered (Ok Fresh) s b learnt (inr stray) = inr stray.ended
    numbered (Ok Repeat) s b learnt again = inl (subst (λ (d : Sofar). GoInv z n [] d) (sym again) (go_acked s))
    numbered (Err why) s b learnt ended = inr ended

    bare : (o : Result Taken WindowError) (s : ℕ) (b : Sofar) → TakesBare o (begun n) conn now s f.ack b → OnOrEnds b
    bare (Ok answer) s b is = inl (subst (λ (d : Sofar). GoInv z n [] d) (sym is) (go_acked s))
    bare (Err why) s b ended = inr ended

    bound : (k : Kind) (s : ℕ) (b : Sofar) → HasLearnt x s → TakesBound k (begun n) conn now s f b → OnOrEnds b
    bound Opening s b learnt ended = inr ended
    bound Numbered s b learnt is = numbered (answers body_of (window_of n s) f.seq f.ack) s b learnt is
    bound Unnumbered s b learnt is = bare (answers body_of (window_of n s) 0 f.ack) s b is

    passes : (b : Sofar) → b ≡ begun n → OnOrEnds b
    passes b is = inl (subst (λ (d : Sofar). GoInv z n [] d) (sym is) begins_z)

    closing : (k : Kind) (b : Sofar) → TakesClosing k (begun n) conn now b → OnOrEnds b
    closing Opening b ended = inr ended
    closing Numbered b is = passes b is.after
    closing Unnumbered b is = passes b is.after

    -- the same, where no Hello waits on the connection as it goes on
    abbrev pub MadeBy : Sofar → Type 0
    MadeBy b = ((role_of n conn ≡ Some Waiting → ⊥) × GoInv z n [] b) ⊎ Ends (begun n) conn now b

    for_role : (r : Option Role) → role_of n conn ≡ r → (r ≡ Some Waiting → ⊥) → (b : Sofar) → OnOrEnds b → MadeBy b
    for_role r role apart b (inl go) = inl ((λ waits. apart (sym role ∙ waits)), go)
    for_role r role apart b (inr ended) = inr ended

    by_role : (o : Option Role) → role_of n conn ≡ o → (b : Sofar) → TakesFrame o (begun n) conn now f b → MadeBy b
    by_role None role b is = for_role None role (λ same. absurd cc) b (passes b is.after)
    by_role (Some New) role b is =
        (let both : ◌≡◌ {A = Option Linked} None (Some link)
        = sym (of_some (RoleIs x n conn) (role_of n conn) New role ((of_some (NodeDials x) x.node n goes.runs its.dials.node).roles conn)) ∙ linked in absurd cc)
    by_role (Some Waiting) role b ended = inr ended
    by_role (Some (Bound s)) role b is = for_role (Some (Bound s)) role (λ same. absurd cc) b (bound (kind_of f.message) s b (bound_learnt s role) is)
    by_role (Some (Closing s)) role b is = for_role (Some (Closing s)) role (λ same. absurd cc) b (closing (kind_of f.message) b is)

    -- What the frame makes.
    pub made_by : MadeBy goes.steps.taken
    made_by = by_role (role_of n conn) refl goes.steps.taken goes.steps.takes
