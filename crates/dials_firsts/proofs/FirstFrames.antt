-- The part on connections, for the first frame that a data server takes on one of them.
use Rattle.std.proofs.Common.{◌≡◌, ◌≤◌, ◌<◌, ◌⊎◌, ℕ, Bool, true, false, List, [], ◌∷◌, length, Option, Some, None, is_some, refl, sym, ◌∙◌, ap, subst}
use Rattle.std.proofs.Common.{arith, inl, inr}
use Rattle.std.specs.Prelude.{IsSomeAnd, set}
use Rattle.std.specs.List.{AllByRecursion, list_all}
use Rattle.std.proofs.lemmas.Bool.{and_parts, false≢true}
use Rattle.plain_orders.specs.declared.act.Act.{Act}
use Rattle.plain_orders.specs.declared.entry.Entry.{Entry}
use Rattle.plain_orders.specs.declared.layout.Layout.{Layout}
use Rattle.plain_orders.specs.Entries.{last_epoch, live, live_session}
use Rattle.plain_orders.specs.Sessions.{app_in}
use Rattle.plain_runs.specs.Plain.{Plain, Server, Session, order_at}
use Rattle.plain_runs.specs.Run.{IsRun, after_all, state_after}
use Rattle.lock_table.specs.declared.rows.Request.{Request}
use Rattle.block_holders.specs.declared.noted.Noted.{Noted}
use Rattle.ecp_messages.specs.declared.down.Down.{Down}
use Rattle.ecp_messages.specs.declared.down.Down.TheVariants.{Welcome, Reset, Block, Drop, Ack, Grant, Answer, Normal, Bare as BareDown}
use Rattle.ecp_messages.specs.declared.up.Up.{Up}
use Rattle.ecp_messages.specs.declared.up.Up.TheVariants.{Hello, Recover, Update, Add, Fetch, Ask, Unlock, Cancel, Commit, Rollback, Sync, Done, Claim, Bare}
use Rattle.ecp_messages.specs.declared.up.UpFrame.{UpFrame}
use Rattle.ecp_messages.specs.Rows.{IsField}
use Rattle.ecp_messages.specs.Ups.{IsUpFrame, up_row}
use Rattle.data_rules.specs.declared.data_in.DataIn.TheVariants as data_in
use Rattle.data_rules.specs.declared.limits.TheConstants.{APP_LIMIT}
use Rattle.data_rules.specs.declared.rows.Role.{Role}
use Rattle.data_rules.specs.DataState.{DataState}
use Rattle.data_rules.specs.Callers.{TakesHello, TakesRecover, calls, dial_of, is_let_in, replaces}
use Rattle.data_rules.specs.Conns.{ends_conn}
use Rattle.data_rules.specs.Frames.{EndsNoRecover, EndsOldHello, TakesFirst, TakesFrame}
use Rattle.data_rules.specs.Puts.{Sofar, begun, window_of}
use Rattle.cluster_runs.specs.declared.move_outs.MoveOuts.{MoveOuts}
use Rattle.cluster_runs.specs.declared.moves.Move.TheVariants.{Server as ServerMove}
use Rattle.cluster_runs.specs.CoresState.{CoresState, Linked}
use Rattle.cluster_runs.specs.Machine.{Machine, Site}
use Rattle.cluster_runs.specs.Mirrors.{Mirrors}
use Rattle.cluster_runs.specs.Moves.{Allowed, NodeMay, named_dial}
use Rattle.cluster_runs.specs.Sent.{Knew, Mark}
use Rattle.cluster_runs.specs.Connections.{at_conn, at_link, hears_downs, leaves_conns, link_of, linked_if, up_taken}
use Rattle.cluster_runs.specs.Goes.{ServerGoes, server_takes, with_hellos, with_lanes, with_node}
use Rattle.cluster_invariant.specs.Dials.{DialsAre, KnewIs, first_message}
use Rattle.cluster_invariant.specs.Ends.{NodeEnds}
use Rattle.cluster_invariant.specs.Holds.{Holds, SiteHolds}
use Rattle.cluster_invariant.specs.Link.{NodeLink, is_numbered_down}
use Rattle.cluster_invariant.specs.Orders.{NodeOrder}
use Rattle.cluster_invariant.specs.Served.{HasLearnt, IsServed}
use Rattle.cluster_invariant.specs.Waiting.{ReplyWaits}
use Rattle.cluster_invariant.proofs.AllLists.{all_follow}
use Rattle.cluster_invariant.proofs.Deeds.{order_by}
use Rattle.cluster_invariant.proofs.OrderMoves.{step_from}
use Rattle.cluster_invariant.proofs.OrderRows.{StepWrote}
use Rattle.cluster_invariant.proofs.OrdersStay.{orders_agree}
use Rattle.cluster_invariant.proofs.PastOrders.{now_or_past, order_now}
use Rattle.cluster_invariant.proofs.Small.{of_some}
use Rattle.data_puts.proofs.RecoverLearnt.{SaysMark, first_came, recover_unlearnt, says_mark}
use Rattle.dials_kept.proofs.ShortDials.{EachDials}
use Rattle.dials_server.proofs.FirstSites.{link_now}
use Rattle.dials_server.proofs.FirstTakes.{FirstOn, first_on}
use Rattle.dials_server.proofs.KnownServer.{dials_by_server}
use Rattle.dials_server.proofs.PlainFrames.{IsPlain}
use Rattle.dials_server.proofs.SaveDials.{says_fit}
use Rattle.dials_server.proofs.SaveNodes.{ReplyFits}
use Rattle.dials_server.proofs.TakenFrames.{site_taken}
use Rattle.dials_firsts.proofs.FirstComes.{Comes, FirstAt, comes_dials}
use Rattle.dials_firsts.proofs.HelloFirsts.{comes_opens, comes_waits}
use Rattle.dials_firsts.proofs.KnownRecovers.{met_opened, newer}
use Rattle.dials_firsts.proofs.ReplacedFirsts.{comes_replaces, comes_replaces_later}
use Rattle.dials_firsts.proofs.ResumedFirsts.{comes_resumed, dropped_plain}
use Rattle.dials_firsts.proofs.ReturnedFirsts.{comes_return}
use Rattle.dials_firsts.proofs.ShortFirsts.{comes_ends, comes_gone, frame_says, has_nodes, new_role, on_is}

-- messages with numbers are plain

numbered_one : (m : Down) → is_numbered_down m ≡ true → IsPlain m
numbered_one (Welcome session epoch kept front taken) is = absurd (false≢true is)
numbered_one (Reset session at) is = absurd (false≢true is)
numbered_one (Block front block) is = tt
numbered_one (Drop front lo hi) is = tt
numbered_one (Ack front) is = tt
numbered_one (Grant front ticket at) is = tt
numbered_one (Answer front about job number at sum) is = tt
numbered_one (Normal front) is = tt
numbered_one BareDown is = tt

all_numbered : (ms : List Down) → list_all is_numbered_down ms ≡ true → AllByRecursion IsPlain ms
all_numbered [] is = tt
all_numbered (m ∷ ms) is = (numbered_one m parts.0, all_numbered ms parts.1)
  where
    parts : (is_numbered_down m ≡ true) × (list_all is_numbered_down ms ≡ true)
    parts = and_parts (is_numbered_down m) (list_all is_numbered_down ms) is

-- what a first frame says was known
hello_mark : (v : Server) (app dial to : ℕ) (k : Knew) → first_message v app dial k.session k.mark ≡ Hello app to → k.mark ≡ None
hello_mark v app dial to k says = go k.mark says
  where
    go : (o : Option Mark) → first_message v app dial k.session o ≡ Hello app to → o ≡ None
    go None is = refl
    go (Some mark) is = absurd (cc (is))

module _ (y : Layout) (c : CoresState) (m : Machine) (server now conn : ℕ) (f : UpFrame) (outs : MoveOuts) (written : List Act) (new : Machine) (h : Holds y m)
    (run : IsRun y m.trail) (after_run : IsRun y new.trail) (shows : Mirrors c m) (allowed : Allowed c (ServerMove server now (data_in.Frame conn f)))
    (goes : ServerGoes m server now (data_in.Frame conn f) outs written new) (unlinked : link_of (m.site_at server) conn ≡ None)
  where
    abbrev v : Server
    v = (state_after y m.trail).server_at server

    abbrev q : Plain
    q = after_all y (state_after y m.trail) written

    abbrev x : Site
    x = m.site_at server

    abbrev n : DataState
    n = goes.node

    its : SiteHolds y server m.is_dead_at v x
    its = h.sites server

    first : FirstOn x conn f
    first = first_on c m server now conn f shows allowed unlinked

    abbrev l : Linked
    l = first.link

    node : NodeOrder y server x.past v n
    node = of_some (NodeOrder y server x.past v) x.node n goes.runs its.order.node

    ends : NodeEnds v x n
    ends = of_some (NodeEnds v x) x.node n goes.runs its.ends.node

    links : NodeLink v x m.is_dead_at n
    links = of_some (NodeLink v x m.is_dead_at) x.node n goes.runs its.link.node

    may : IsUpFrame f
    may = subst (λ (o : Option DataState). NodeMay o (data_in.Frame conn f)) (shows.nodes server ∙ goes.runs) allowed.may

    -- within the limits
    low_app : (u : Up) (j : Linked) → f.message ≡ u → named_dial u ≡ Some j → j.app < APP_LIMIT
    low_app (Hello app dial) j says named = subst (λ (i : ℕ). i < APP_LIMIT) (ap (λ (k : Option Linked). app_or k) named) fields.1.0
      where
        app_or : Option Linked → ℕ
        app_or None = 0
        app_or (Some k) = k.app

        fields : AllByRecursion IsField (up_row (Hello app dial)).fields
        fields = subst (λ (w : Up). AllByRecursion IsField (up_row w).fields) says may.fields
    low_app (Recover app session epoch taken dial) j says named = subst (λ (i : ℕ). i < APP_LIMIT) (ap (λ (k : Option Linked). app_or k) named) fields.0
      where
        app_or : Option Linked → ℕ
        app_or None = 0
        app_or (Some k) = k.app

        fields : AllByRecursion IsField (up_row (Recover app session epoch taken dial)).fields
        fields = subst (λ (w : Up). AllByRecursion IsField (up_row w).fields) says may.fields
    low_app (Update w job txn op) j says named = absurd (cc (named))
    low_app (Add w job key amount) j says named = absurd (cc (named))
    low_app (Fetch key) j says named = absurd (cc (named))
    low_app (Ask ticket job mode key) j says named = absurd (cc (named))
    low_app (Unlock job mode key) j says named = absurd (cc (named))
    low_app (Cancel ticket) j says named = absurd (cc (named))
    low_app (Commit w job txn wanted) j says named = absurd (cc (named))
    low_app (Rollback w job txn) j says named = absurd (cc (named))
    low_app (Sync ticket) j says named = absurd (cc (named))
    low_app Done j says named = absurd (cc (named))
    low_app (Claim job mode number at key) j says named = absurd (cc (named))
    low_app Bare j says named = absurd (cc (named))

    at : FirstAt v x m.is_dead_at n conn l f
    at = record {
      unlinked = unlinked;
      here = first.here;
      past = omega (arith, its.order.past);
      next = first.next;
      new = first.new;
      is = its.dials;
      runs = goes.runs;
      noted = all_follow (λ (w : Noted). IsServed x n w.session) (λ (w : Noted). HasLearnt x w.session) (λ w is. is.learnt) n.noted links.serves.noted;
      requests = all_follow (λ (r : Request). IsServed x n r.who.session) (λ (r : Request). HasLearnt x r.who.session)
          (λ r is. is.learnt) n.locks.requests links.serves.requests;
      replies = all_follow (ReplyWaits v x n) (ReplyFits x n) (λ r is. says_fit v x n r.at r.says is.says) n.replies links.replies;
      ordered = (step_from y m server n h run goes.runs).ordered;
      order = ap (order_at v) its.order.past ∙ order_now v ∙ sym node.order;
      synced = omega (arith, node.synced, (orders_agree y m.trail server run).within, ap (λ (es : List Entry). length es) node.order);
      ends = ends;
      low = low_app f.message l refl first.named;
    }

    knew : Knew
    knew = at.next.on.knew

    abbrev Comes_by : Sofar → Type 0
    Comes_by b = Comes v x m.is_dead_at n now conn f l b

    -- the frame's message, by what was known
    frame_is : first_message v l.app l.dial at.next.on.knew.session at.next.on.knew.mark ≡ f.message
    frame_is = ap (λ (g : UpFrame). g.message) (sym (frame_says v x m.is_dead_at n conn l f at).frame)

    -- a Hello

    hello_comes : at.next.on.knew.mark ≡ None → dial_of n l.app ≤ l.dial → Comes_by (calls l.app l.dial conn now (begun n))
    hello_comes hello later = go (is_some n.round) refl (live_session n.order l.app) refl
      where
        go : (t : Bool) → is_some n.round ≡ t → (p : Option ℕ) → live_session n.order l.app ≡ p
            → Comes_by (is_let_in t l.app conn now (replaces p l.app now (begun (record n { dials = set n.dials l.app l.dial }))))
        go false off None free = comes_opens v x m.is_dead_at n conn l f at now later hello off free
        go true on None free = comes_waits v x m.is_dead_at n conn l f at now later hello
        go false off (Some s) has = comes_replaces v x m.is_dead_at n conn l f at now later hello s has off
        go true on (Some s) has = comes_replaces_later v x m.is_dead_at n conn l f at now later hello s has

    -- a Recover

    module _ (s epoch taken : ℕ) (says : f.message ≡ Recover l.app s epoch taken l.dial) where
      mark : SaysMark v at.next.on.knew s epoch
      mark = says_mark v l.app l.dial at.next.on.knew s epoch taken l.dial (frame_is ∙ says)

      known : KnewIs v x l.app at.next.on.knew.session mark.mark
      known = of_some (KnewIs v x l.app at.next.on.knew.session) at.next.on.knew.mark mark.mark mark.its (on_is v x m.is_dead_at n conn l f at).known

      came : IsSomeAnd at.next.on.knew.mark (λ i. at.next.on.knew.session ≡ s)
      came = subst (λ (o : Option Mark). IsSomeAnd o (λ i. at.next.on.knew.session ≡ s)) (sym mark.its) mark.session_is

      opened : app_in n.order s ≡ Some l.app
      opened =
          ap (λ (es : List Entry). app_in es s) node.order
          ∙ met_opened y m.trail server s l.app run (met (v.session_at s)
          (subst (λ (i : ℕ). IsSomeAnd (v.session_at i) (λ t. (t.app ≡ l.app) × (mark.mark.order ≤ t.told))) mark.session_is known.told))
        where
          met : (o : Option Session) → IsSomeAnd o (λ t. (t.app ≡ l.app) × (mark.mark.order ≤ t.told)) → IsSomeAnd o (λ t. t.app ≡ l.app)
          met None none = none
          met (Some t) told = told.0

      -- the epoch was begun
      epoch_low : epoch ≤ last_epoch n.order
      epoch_low =
          now_or_past v mark.mark.order (epoch ≤ last_epoch n.order) known.there
          (λ same. omega (arith, mark.epoch_is, ap (λ (k : ℕ). last_epoch (order_at v k)) same, ap last_epoch (order_now v), ap last_epoch node.order))
          (λ past. omega (arith, mark.epoch_is, newer y m.trail server mark.mark.order run past known.stays, ap last_epoch node.order))

      -- in the current one the session learnt of the order
      learnt : epoch ≡ last_epoch n.order → HasLearnt x s
      learnt same =
          now_or_past v mark.mark.order (HasLearnt x s) known.there
          (λ now_is.
          subst (λ (i : ℕ). is_some (x.lane_at i x.past).began ≡ true) mark.session_is
          (subst (λ (k : ℕ). is_some (x.lane_at at.next.on.knew.session k).began ≡ true) (now_is ∙ sym its.order.past) known.begun))
          (λ past. absurd (omega (arith, mark.epoch_is, newer y m.trail server mark.mark.order run past known.stays, ap last_epoch node.order, same)))

      -- and in an older one it didn't
      unlearnt : epoch < last_epoch n.order → dial_of n l.app ≤ l.dial → (x.lane_at s x.past).began ≡ None
      unlearnt older later =
          recover_unlearnt v x m.is_dead_at n its.dials (has_nodes v x m.is_dead_at n conn l f at) node.order its.order.past l.app s epoch taken l.dial f
          (first_came c m server now conn f l shows allowed unlinked first.named) says at.low (λ a is. same a (sym is ∙ opened)) older later
        where
          same : (a : ℕ) → ◌≡◌ {A = Option ℕ} (Some a) (Some l.app) → a ≡ l.app
          same a is = cc (is)

      plain : live n.order s ≡ true → AllByRecursion IsPlain (window_of n s).waiting
      plain lives =
          subst (λ (ms : List Down). AllByRecursion IsPlain ms) (sym (links.windows.each s lives).waiting)
          (dropped_plain (window_of n s).acked (x.lane_at s x.past).down (all_numbered (x.lane_at s x.past).down (its.link.lanes s x.past).downs))

      recover_comes : (b : Sofar) → TakesRecover (begun n) conn now l.app s epoch taken l.dial b ⊎ EndsNoRecover (begun n) conn now l.app s epoch l.dial b
          → Comes_by b
      recover_comes b (inl (inl takes)) =
          subst Comes_by (sym takes.after)
          (comes_resumed v x m.is_dead_at n conn l f at now takes.later s takes.its takes.is_live came (learnt takes.same) (plain takes.is_live) taken)
      recover_comes b (inl (inr (inl takes))) =
          subst Comes_by (sym takes.after) (comes_return v x m.is_dead_at n conn l f at now takes.later s takes.its takes.is_live came
          (unlearnt takes.older takes.later) takes.kept)
      recover_comes b (inl (inr (inr takes))) = subst Comes_by (sym takes.after)
          (comes_gone v x m.is_dead_at n conn l f at now s takes.at takes.later takes.its takes.closed came)
      recover_comes b (inr ended) = subst Comes_by (sym ended.ended.after) (why ended.refused.why)
        where
          why : (app_in n.order s ≡ Some l.app → ⊥) ⊎ (l.dial < dial_of n l.app) ⊎ (last_epoch n.order < epoch) → Comes_by (ends_conn conn now (begun n))
          why (inl other) = absurd (other opened)
          why (inr (inl older)) = comes_ends v x m.is_dead_at n conn l f at now older
          why (inr (inr later)) = absurd (omega (arith, later, epoch_low))

    -- by the message

    link_is : (j : Linked) → Some j ≡ Some l → j ≡ l
    link_is j is = cc (is)

    by_message : (u : Up) → f.message ≡ u → named_dial u ≡ Some l → (b : Sofar) → TakesFirst u (begun n) conn now b → Comes_by b
    by_message (Hello app dial) says named b takes =
        go (subst (λ (j : Linked). TakesHello (begun n) conn now j.app j.dial b ⊎ EndsOldHello (begun n) conn now j.app j.dial b)
        (link_is (record { app = app; dial = dial }) named) takes)
      where
        hello : at.next.on.knew.mark ≡ None
        hello =
            hello_mark v l.app l.dial l.dial at.next.on.knew
            (frame_is ∙ says ∙ ap (λ (j : Linked). Hello j.app j.dial) (link_is (record { app = app; dial = dial }) named))

        go : TakesHello (begun n) conn now l.app l.dial b ⊎ EndsOldHello (begun n) conn now l.app l.dial b → Comes_by b
        go (inl taken) = subst Comes_by (sym taken.after) (hello_comes hello taken.later)
        go (inr old) = subst Comes_by (sym old.ended.after) (comes_ends v x m.is_dead_at n conn l f at now old.older)
    by_message (Recover app s epoch taken dial) says named b takes =
        recover_comes s epoch taken (says ∙ ap (λ (j : Linked). Recover j.app s epoch taken j.dial) (link_is (record { app = app; dial = dial }) named)) b
        (subst (λ (j : Linked). TakesRecover (begun n) conn now j.app s epoch taken j.dial b ⊎ EndsNoRecover (begun n) conn now j.app s epoch j.dial b)
        (link_is (record { app = app; dial = dial }) named) takes)
    by_message (Update w job txn op) says named b takes = absurd (cc (named))
    by_message (Add w job key amount) says named b takes = absurd (cc (named))
    by_message (Fetch key) says named b takes = absurd (cc (named))
    by_message (Ask ticket job mode key) says named b takes = absurd (cc (named))
    by_message (Unlock job mode key) says named b takes = absurd (cc (named))
    by_message (Cancel ticket) says named b takes = absurd (cc (named))
    by_message (Commit w job txn wanted) says named b takes = absurd (cc (named))
    by_message (Rollback w job txn) says named b takes = absurd (cc (named))
    by_message (Sync ticket) says named b takes = absurd (cc (named))
    by_message Done says named b takes = absurd (cc (named))
    by_message (Claim job mode number at_place key) says named b takes = absurd (cc (named))
    by_message Bare says named b takes = absurd (cc (named))

    first_comes : Comes_by goes.steps.taken
    first_comes =
        by_message f.message refl first.named goes.steps.taken
        (subst (λ (o : Option Role). TakesFrame o (begun n) conn now f goes.steps.taken) (new_role v x m.is_dead_at n conn l f at) goes.steps.takes)

    takes_same : server_takes (data_in.Frame conn f) x ≡ site_taken x conn l (Some l)
    takes_same =
        ap (λ (o : Option Linked). at_link (link_of (at_conn conn (linked_if o) x) conn) (up_taken x.past conn) (at_conn conn (linked_if o) x)) first.named
        ∙ ap (λ (o : Option Linked). at_link o (up_taken x.past conn) (at_conn conn (linked_if (Some l)) x))
        (link_now v x m.is_dead_at conn l f at.unlinked at.here at.past at.next at.new at.is)

    order_w : StepWrote server n goes.state (state_after y m.trail) q → goes.state.order ≡ order_at (q.server_at server) x.past
    order_w w =
        w.its ∙ ap (order_by w.deeds) node.order ∙ sym w.order ∙ sym (order_now (q.server_at server))
        ∙ ap (order_at (q.server_at server)) (ap (λ (os : List (List Entry)). length os) w.past ∙ sym its.order.past)

    -- The part is kept.
    pub firsts_keep : EachDials y (state_after y new.trail) new
    firsts_keep =
        dials_by_server y c m server now (data_in.Frame conn f) outs written new h run after_run shows allowed goes
        (λ later w ordered.
        subst (λ (z : Site). DialsAre (q.server_at server) (with_lanes n goes.state goes.data_outs
        (with_hellos (data_in.Frame conn f) (leaves_conns goes.data_outs.cuts
        (hears_downs goes.data_outs.frames (with_node now goes.state z))))) m.is_dead_at) (sym takes_same)
        (comes_dials v (q.server_at server) x m.is_dead_at n now conn f l goes.steps.taken at first_comes later goes.state goes.data_outs goes.steps.after
        (order_w w)))

-- The first frame on a connection keeps it.
pub dials_kept_by_first : (conn : ℕ) (f : UpFrame) (y : Layout) (c : CoresState) (m : Machine) (server now : ℕ) (outs : MoveOuts) (written : List Act)
    (new : Machine)
    → Holds y m → IsRun y m.trail → IsRun y new.trail → Mirrors c m → Allowed c (ServerMove server now (data_in.Frame conn f))
    → ServerGoes m server now (data_in.Frame conn f) outs written new → link_of (m.site_at server) conn ≡ None → EachDials y (state_after y new.trail) new
dials_kept_by_first conn f y c m server now outs written new h run after_run shows allowed goes unlinked =
    firsts_keep y c m server now conn f outs written new h run after_run shows allowed goes unlinked
