-- The replies that wait after each step of a data server, from the invariant.
use Rattle.std.proofs.Common.{◌≡◌, ◌≤◌, ◌<◌, inl, inr, ℕ, ◌||◌, Bool, true, false, List, [], ◌∷◌, ◌++◌, take, append_assoc, Option, Some, None, is_some, refl, sym, ◌∙◌, ap, subst, arith}
use Rattle.std.specs.Prelude.{◌==◌, IfSome, nat_lt}
use Rattle.std.specs.List.{AllByRecursion}
use Rattle.std.proofs.lemmas.Bool.{eq-eqb, false≢true, ltb-false, ltb-true, or_parts, true≢false}
use Rattle.trail_laws.proofs.Prefixes.{none_above, place_front}
use Rattle.plain_orders.proofs.FrontLemmas.{ordered-take}
use Rattle.plain_orders.specs.declared.act.Act.{Act}
use Rattle.plain_orders.specs.declared.entry.Entry.{Entry}
use Rattle.plain_orders.specs.declared.layout.Layout.{Layout}
use Rattle.plain_orders.specs.Entries.{last_epoch, live}
use Rattle.plain_orders.specs.Ordered.{IsOrdered}
use Rattle.plain_orders.specs.Sessions.{place_of_epoch}
use Rattle.plain_runs.specs.Plain.{Server, current, order_at}
use Rattle.plain_runs.specs.Run.{IsRun, after_all, state_after}
use Rattle.ecp_messages.specs.declared.up.Up.TheVariants as up
use Rattle.ecp_messages.specs.declared.up.UpFrame.{UpFrame}
use Rattle.block_holders.specs.declared.noted.Noted.{Noted}
use Rattle.data_rules.specs.DataState.{DataState}
use Rattle.data_rules.specs.declared.data_in.DataIn.{DataIn}
use Rattle.data_rules.specs.declared.data_in.DataIn.TheVariants as data_in
use Rattle.data_rules.specs.declared.down_frames.DownOut.{DownOut}
use Rattle.data_rules.specs.declared.rows.Conn.{Conn}
use Rattle.data_rules.specs.declared.rows.Kind.TheVariants.{Opening}
use Rattle.data_rules.specs.declared.rows.Reply.{Reply}
use Rattle.data_rules.specs.declared.rows.Role.{Role}
use Rattle.data_rules.specs.declared.rows.Role.TheVariants.{Waiting, Bound, Closing}
use Rattle.recovery_round.specs.RoundWords.{Round}
use Rattle.cluster_runs.specs.Connections.{link_of}
use Rattle.cluster_invariant.proofs.Deeds.{deeds_grow, order_by}
use Rattle.data_rules.specs.declared.rows.Says.{Says}
use Rattle.data_rules.specs.declared.rows.Says.TheVariants.{NewWelcome, EpochWelcome, ResetOf, GrantOf, AnswerOf}
use Rattle.data_rules.specs.Conns.{role_of}
use Rattle.data_rules.specs.Frames.{kind_of}
use Rattle.data_rules.specs.Opening.{live_ends}
use Rattle.data_rules.specs.Places.{epoch_place}
use Rattle.data_rules.specs.Puts.{Sofar, begun}
use Rattle.data_rules.specs.Step.{DataMay, DataStep, made}
use Rattle.cluster_runs.specs.declared.move_outs.MoveOuts.{MoveOuts}
use Rattle.cluster_runs.specs.declared.moves.Move.TheVariants.{Server as ServerMove}
use Rattle.cluster_runs.specs.CoresState.{CoresState}
use Rattle.cluster_runs.specs.Goes.{ServerGoes, server_site, server_takes}
use Rattle.cluster_runs.specs.Machine.{Machine, Site}
use Rattle.cluster_runs.specs.Mirrors.{Mirrors}
use Rattle.cluster_runs.specs.Moves.{Allowed}
use Rattle.cluster_runs.specs.Sent.{Lane, Mark}
use Rattle.cluster_invariant.specs.Dials.{DialsAre, LinkedTo, NodeDials, RoleIs}
use Rattle.cluster_invariant.specs.Ends.{HelloAlone}
use Rattle.cluster_invariant.specs.Holds.{Holds, SiteHolds}
use Rattle.cluster_invariant.specs.Link.{NodeLink, NodeWindows}
use Rattle.cluster_invariant.specs.Rounds.{RoundGoes}
use Rattle.cluster_invariant.specs.Served.{IsServed}
use Rattle.cluster_invariant.specs.Waiting.{IsUnended, ReplyWaits, WaitsFor}
use Rattle.cluster_invariant.specs.Words.{IsFront, stays_at}
use Rattle.cluster_invariant.proofs.AllLists.{all_both, all_follow}
use Rattle.cluster_invariant.proofs.OrderKept.{step_site}
use Rattle.cluster_invariant.proofs.OrderMoves.{server_wrote}
use Rattle.cluster_invariant.proofs.OrderRows.{StepWrote}
use Rattle.cluster_invariant.proofs.OrdersStay.{front_stays, orders_agree}
use Rattle.cluster_invariant.proofs.PastOrders.{order_now}
use Rattle.cluster_invariant.proofs.PieceMay.{Came, Coming, begins}
use Rattle.cluster_invariant.proofs.PiecesOfSteps.{StepFrom, synced_state}
use Rattle.cluster_invariant.proofs.Small.{of_some}
use Rattle.cluster_invariant.proofs.Written.{place_kept}
use Rattle.data_ends_kept.proofs.HelloComes.{hello_takes}
use Rattle.data_ends_kept.proofs.HellosTaken.{FirstFrames, old_takes}
use Rattle.data_ends_kept.proofs.NodeEndsServer as ends
use Rattle.data_ends_kept.proofs.ServerBegins.{waits_spoken}
use Rattle.data_pieces.proofs.ConnLists.{role_at}
use Rattle.data_puts.proofs.Spoken.{RepliesOn, ReplyOn}
use Rattle.data_puts.proofs.SpokenPieces.{begins_frames}
use Rattle.link_kept.proofs.EpochsLast.{front_low}
use Rattle.link_kept.proofs.FitsWell.{may_close}
use Rattle.link_kept.proofs.ServesServer.{ServesAfter}
use Rattle.link_kept.proofs.WindowPieces.{SaysServed}
use Rattle.link_kept.proofs.WindowsServer.{server_lanes}
use Rattle.link_nodes.proofs.ClosedSessions.{closed_dead, same_down, tick_untold}
use Rattle.link_nodes.proofs.ClosingAlong.{ClosingGo, closing_piece}
use Rattle.link_nodes.proofs.NodeReplies.{SilentFor, reply_now}
use Rattle.link_nodes.proofs.OldOrders.{left_before, order_before, same_now}
use Rattle.link_nodes.proofs.RecoverComes.{RecoverAlone, recover_takes}
use Rattle.link_nodes.proofs.RepliesAlong.{RepliesAt, replies_piece}
use Rattle.link_nodes.proofs.RepliesGo.{FrameGo, Origin, RepliesGo, ReplyGo, SaysGo, TickReset, is_first}
use Rattle.link_nodes.proofs.ServedNow.{left}
use Rattle.link_nodes.proofs.ServedSteps as served
use Rattle.link_nodes.proofs.SiteAfter.{site_after}
use Rattle.link_nodes.proofs.TickReplies.{TickFrame, TickGo, ticks_go}
use Rattle.link_nodes.proofs.Unsynced.{waits_after}
use Rattle.link_nodes.proofs.WaitLists.{is_for, one_each, waits_cons, waits_for, waits_parts}
use Rattle.link_nodes.specs.Laws.{RepliesWait}

-- what waits for something waits

waits_here : (before : List Reply) (r : Reply) (behind : List Reply) (n : ℕ) → is_for n r.says ≡ true → waits_for n (before ++ r ∷ behind) ≡ true
waits_here before r behind n is = go (waits_for n (before ++ r ∷ behind)) refl
  where
    go : (b : Bool) → waits_for n (before ++ r ∷ behind) ≡ b → waits_for n (before ++ r ∷ behind) ≡ true
    go true at = at
    go false at =
        absurd (true≢false (sym is ∙ (or_parts (is_for n r.says) (waits_for n behind) (sym (waits_cons n r behind) ∙ (waits_parts n before (r ∷ behind) at).1)).0))

-- each reply waits for its connections
each_waits : (before rs : List Reply) → AllByRecursion (λ (r : Reply). (n : ℕ) → is_for n r.says ≡ true → waits_for n (before ++ rs) ≡ true) rs
each_waits before [] = tt
each_waits before (r ∷ rs) = (
  λ n is. waits_here before r rs n is,
  subst (λ (all : List Reply). AllByRecursion (λ (q : Reply). (n : ℕ) → is_for n q.says ≡ true → waits_for n all ≡ true) rs) (append_assoc before (r ∷ []) rs) (each_waits (before ++ r ∷ []) rs),
)

is_for_it : (conn : ℕ) → ((conn == conn) || false) ≡ true
is_for_it conn = ap (λ (b : Bool). b || false) (eq-eqb conn conn refl)

-- so what was put on them neither begins nor ends anything
silent_now : (lane_of : ℕ → Lane) (t : Coming) (cs : List Conn) (es : List Entry) (rs : List Reply) (fs : List DownOut) (at : ℕ) (says : Says)
    → ((n : ℕ) → is_for n says ≡ true → waits_for n rs ≡ true) → SaysGo lane_of cs es at says → AllByRecursion (FrameGo cs rs) fs → SilentFor lane_of t fs says
silent_now lane_of t cs es rs fs at (NewWelcome conn session) waits g frames =
    all_follow (FrameGo cs rs) (λ (f : DownOut). f.conn ≡ conn → is_first f.down.message ≡ false) (λ f is here. plain f here is) fs frames
  where
    plain : (f : DownOut) → f.conn ≡ conn → FrameGo cs rs f → is_first f.down.message ≡ false
    plain f here (inl none) = absurd (true≢false (sym (waits conn (is_for_it conn)) ∙ ap (λ (n : ℕ). waits_for n rs) (sym here) ∙ none))
    plain f here (inr is) = is.0
silent_now lane_of t cs es rs fs at (EpochWelcome conn session kept) waits g frames =
    all_follow (FrameGo cs rs) (λ (f : DownOut). f.conn ≡ conn → is_first f.down.message ≡ false) (λ f is here. plain f here is) fs frames
  where
    plain : (f : DownOut) → f.conn ≡ conn → FrameGo cs rs f → is_first f.down.message ≡ false
    plain f here (inl none) = absurd (true≢false (sym (waits conn (is_for_it conn)) ∙ ap (λ (n : ℕ). waits_for n rs) (sym here) ∙ none))
    plain f here (inr is) = is.0
silent_now lane_of t cs es rs fs at (ResetOf conn session place) waits g frames =
    all_follow (FrameGo cs rs) (λ (f : DownOut). f.conn ≡ conn → (is_first f.down.message ≡ false) × (TickReset t conn session × (is_some (lane_of session).began ≡ true))) (λ f is here. absurd (plain f here is)) fs
    frames
  where
    plain : (f : DownOut) → f.conn ≡ conn → FrameGo cs rs f → ⊥
    plain f here (inl none) = absurd (true≢false (sym (waits conn (is_for_it conn)) ∙ ap (λ (n : ℕ). waits_for n rs) (sym here) ∙ none))
    plain f here (inr is) = is.1 session (ap (λ (n : ℕ). role_at n cs) here ∙ g.closing)
silent_now lane_of t cs es rs fs at (GrantOf session ticket number) waits g frames = tt
silent_now lane_of t cs es rs fs at (AnswerOf session about job number place sum) waits g frames = tt

-- in a tick
silent_tick : (v : Server) (x : Site) (lane_of : ℕ → Lane) (t : Coming) (cs : List Conn) (es : List Entry) (fs : List DownOut) (at : ℕ) (says : Says) → t.input ≡ data_in.Tick
    → Origin v x t (record { at = at; says = says }) → SaysGo lane_of cs es at says → AllByRecursion (TickFrame lane_of t.old.conns) fs → SilentFor lane_of t fs says
silent_tick v x lane_of t cs es fs at (NewWelcome conn session) came origin g frames =
    all_follow (TickFrame lane_of t.old.conns) (λ (f : DownOut). f.conn ≡ conn → is_first f.down.message ≡ false) (λ f is here. is.plain) fs frames
silent_tick v x lane_of t cs es fs at (EpochWelcome conn session kept) came origin g frames =
    all_follow (TickFrame lane_of t.old.conns) (λ (f : DownOut). f.conn ≡ conn → is_first f.down.message ≡ false) (λ f is here. is.plain) fs frames
silent_tick v x lane_of t cs es fs at (ResetOf conn session place) came origin g frames =
    all_follow (TickFrame lane_of t.old.conns) (λ (f : DownOut). f.conn ≡ conn → (is_first f.down.message ≡ false) × (TickReset t conn session × (is_some (lane_of session).began ≡ true))) (λ f is here. go f here is origin)
    fs frames
  where
    go : (f : DownOut) → f.conn ≡ conn → TickFrame lane_of t.old.conns f → Origin v x t (record { at = at; says = ResetOf conn session place })
        → (is_first f.down.message ≡ false) × (TickReset t conn session × (is_some (lane_of session).began ≡ true))
    go f here is (inl waits) = absurd (let both : Some (Closing session) ≡ Some (Bound is.session) = sym waits.says.closing ∙ ap (λ (n : ℕ). role_at n t.old.conns) (sym here) ∙ is.was in cc)
    go f here is (inr (inl rec)) = absurd (let both : data_in.Tick ≡ data_in.Frame conn rec.came.up = sym came ∙ rec.came.its in cc)
    go f here is (inr (inr tick)) =
        (is.plain, (tick, ap (λ (s : ℕ). is_some (lane_of s).began) (one session is.session (sym tick.was ∙ ap (λ (n : ℕ). role_at n t.old.conns) (sym here) ∙ is.was)) ∙ is.learnt))
      where
        one : (i j : ℕ) → Some (Bound i) ≡ Some (Bound j) → i ≡ j
        one i j both = cc
silent_tick v x lane_of t cs es fs at (GrantOf session ticket number) came origin g frames = tt
silent_tick v x lane_of t cs es fs at (AnswerOf session about job number place sum) came origin g frames = tt

-- what waited

says_old : (v : Server) (x : Site) (n : DataState) (at : ℕ) (says : Says) → WaitsFor v x n at says → SaysGo (λ s. x.lane_at s x.past) n.conns n.order at says
says_old v x n at (NewWelcome conn s) is = record { until = is.place; bound = is.bound; unlearnt = is.unlearnt }
says_old v x n at (EpochWelcome conn s kept) is = record { until = is.place; bound = is.bound; unlearnt = is.unlearnt }
says_old v x n at (ResetOf conn s place) is = record { until = is.until; closing = is.closing; closed = is.closed }
says_old v x n at (GrantOf s ticket number) is = tt
says_old v x n at (AnswerOf s about job number place sum) is = tt

clash : (o : Option ℕ) (k : ℕ) → o ≡ Some k → o ≡ None → ⊥
clash o k some none = absurd cc

-- the first Epoch above one that an order had last isn't among the entries of it that stay
behind_kept : (l : Layout) (acts : List Act) (d : ℕ) → IsRun l acts → (k kept : ℕ) → k < current ((state_after l acts).server_at d)
    → place_of_epoch (last_epoch (order_at ((state_after l acts).server_at d) k)) 0 ((state_after l acts).server_at d).order ≡ Some kept → stays_at ((state_after l acts).server_at d) k ≤ kept
behind_kept l acts d run k kept under found = go (nat_lt kept (stays_at v k)) refl
  where
    v : Server
    v = (state_after l acts).server_at d

    es : List Entry
    es = order_at v k

    ordered : IsOrdered es
    ordered = (orders_agree l acts d run).ordered k (omega (arith, under))

    same : take (stays_at v k) v.order ≡ take (stays_at v k) es
    same = ap (take (stays_at v k)) (sym (order_now v)) ∙ front_stays l acts d k (current v) run (omega (arith, under)) (omega arith)

    none : place_of_epoch (last_epoch es) 0 (take (stays_at v k) es) ≡ None
    none = none_above (take (stays_at v k) es) (ordered-take es (stays_at v k) ordered) (last_epoch es) (front_low es ordered (stays_at v k))

    go : (b : Bool) → nat_lt kept (stays_at v k) ≡ b → stays_at v k ≤ kept
    go false is = ltb-false kept (stays_at v k) is
    go true is =
        absurd (clash (place_of_epoch (last_epoch es) 0 (take (stays_at v k) es)) kept
        (ap (place_of_epoch (last_epoch es) 0) (sym same) ∙ place_front (last_epoch es) 0 (stays_at v k) kept v.order found (omega (arith, ltb-true kept (stays_at v k) is))) none)

module _ (l : Layout) (c : CoresState) (m : Machine) (server now : ℕ) (input : DataIn) (outs : MoveOuts) (written : List Act) (new : Machine)
    (h : Holds l m) (run : IsRun l m.trail) (shows : Mirrors c m) (allowed : Allowed c (ServerMove server now input)) (goes : ServerGoes m server now input outs written new) where
  abbrev x : Site
  x = m.site_at server

  abbrev v : Server
  v = (state_after l m.trail).server_at server

  abbrev w : Server
  w = (after_all l (state_after l m.trail) written).server_at server

  abbrev old : DataState
  old = goes.node

  abbrev next : DataState
  next = goes.state

  abbrev z : Site
  z = server_takes input (m.site_at server)

  abbrev y : Site
  y = server_site goes.node now input goes.data_outs goes.state (m.site_at server)

  abbrev t : Coming
  t = record { old = goes.node; now = now; input = input }

  abbrev lane_of : ℕ → Lane
  lane_of s = (m.site_at server).lane_at s (m.site_at server).past

  its : SiteHolds l server m.is_dead_at v x
  its = h.sites server

  node : NodeLink v x m.is_dead_at old
  node = ends.link l c m server now input outs written new h run shows allowed goes

  from : StepFrom old
  from = ends.from l c m server now input outs written new h run shows allowed goes

  wrote : StepWrote server goes.node goes.state (state_after l m.trail) (after_all l (state_after l m.trail) written)
  wrote = server_wrote l c m server now input outs written new h run shows allowed goes

  order_v : order_at v x.past ≡ old.order
  order_v = ap (order_at v) its.order.past ∙ order_now v ∙ sym (ends.order l c m server now input outs written new h run shows allowed goes).order

  goes_on : IsFront old.order next.order
  goes_on =
      let more : (more : List Entry) × (order_by wrote.deeds old.order ≡ old.order ++ more) = deeds_grow wrote.deeds old.order in
      (more.0, wrote.its ∙ more.1)

  place_same : epoch_place next.order ≡ epoch_place old.order
  place_same = ap epoch_place wrote.its ∙ place_kept wrote.deeds old.order wrote.may

  -- with what each small change keeps

  on : RepliesOn old.conns old.replies
  on = all_follow (ReplyWaits v x old) (ReplyOn old.conns) (λ r is. waits_spoken v x old r is) old.replies node.replies

  each_old : AllByRecursion (ReplyGo lane_of (Origin v x t) old.conns old.order) old.replies
  each_old = all_follow (ReplyWaits v x old) (ReplyGo lane_of (Origin v x t) old.conns old.order) (λ r is. (inl is, says_old v x old r.at r.says is.says)) old.replies node.replies

  replies_begin : RepliesAt v x lane_of t (begins t)
  replies_begin = go input (begins_frames old now input) each_old
    where
      At : DataIn → Coming
      At i = record { old = old; now = now; input = i }

      with_frames : (i : DataIn) (n : DataState) (fs : List DownOut) → fs ≡ [] → AllByRecursion (ReplyGo lane_of (Origin v x (At i)) n.conns n.order) n.replies → one_each n.replies ≡ true
          → RepliesGo lane_of (Origin v x (At i)) n.conns n.order n.replies fs
      with_frames i n fs none each one = record { each = each; one = one; frames = subst (λ (gs : List DownOut). AllByRecursion (FrameGo n.conns n.replies) gs) (sym none) tt }

      go : (i : DataIn) → (begins (At i)).outs.frames ≡ [] → AllByRecursion (ReplyGo lane_of (Origin v x (At i)) old.conns old.order) old.replies → RepliesAt v x lane_of (At i) (begins (At i))
      go (data_in.Frame conn f) none each = with_frames (data_in.Frame conn f) old [] refl each node.one_each
      go (data_in.Connected conn) none each = with_frames (data_in.Connected conn) old [] refl each node.one_each
      go (data_in.Broken conn) none each = with_frames (data_in.Broken conn) old [] refl each node.one_each
      go data_in.Tick none each = with_frames data_in.Tick old [] refl each node.one_each
      go (data_in.Saved upto) none each =
          subst
          (λ (n : DataState).
          RepliesGo lane_of (Origin v x (At (data_in.Saved upto))) n.conns n.order n.replies (begins (At (data_in.Saved upto))).outs.frames)
          (sym (synced_state upto (begun old))) (with_frames (data_in.Saved upto) (record old { synced = upto }) (begins (At (data_in.Saved upto))).outs.frames none each node.one_each)

  abbrev KnownAt : Sofar → Type 0
  KnownAt b = served.Known l c m server now input outs written new h run shows allowed goes b

  -- what holds after the step in each case
  record Went (i : DataIn) : Type 0 where
    after : ServesAfter old next x y (may_close i)
    known : KnownAt (made next goes.data_outs)
    closing : ClosingGo t next

  -- all steps
  went : Went input
  went =
      let all : ServesAfter old next x y (may_close input) × (KnownAt (made next goes.data_outs) × ClosingGo t next) =
      served.served_by_step l c m server now input outs written new h run shows allowed goes (left l c m server now input outs written new h run shows allowed goes) (λ b. ClosingGo t b.state)
      (λ q b made_so well k g. closing_piece t l (state_after l m.trail) server v.synced (served.W l c m server now input outs written new h run shows allowed goes) q b made_so k.along g)
      closing_begin in
      record { after = all.0; known = all.1.0; closing = all.1.1 }
    where
      At : DataIn → Coming
      At i = record { old = old; now = now; input = i }

      none_closing : (i : DataIn) → ClosingGo (At i) old
      none_closing i = record { still = λ is. is; closing = λ n s closed was. absurd (let both : Some (Closing s) ≡ Some (Bound s) = sym closed ∙ was in cc) }

      none_saved : (upto : ℕ) → ClosingGo (At (data_in.Saved upto)) (record old { synced = upto })
      none_saved upto = record { still = λ is. is; closing = λ n s closed was. absurd (let both : Some (Closing s) ≡ Some (Bound s) = sym closed ∙ was in cc) }

      closing_begin : ClosingGo t (begins t).state
      closing_begin = go input
        where
          go : (i : DataIn) → ClosingGo (At i) (begins (At i)).state
          go (data_in.Frame conn f) = none_closing (data_in.Frame conn f)
          go (data_in.Connected conn) = none_closing (data_in.Connected conn)
          go (data_in.Broken conn) = none_closing (data_in.Broken conn)
          go data_in.Tick = none_closing data_in.Tick
          go (data_in.Saved upto) = subst (ClosingGo (At (data_in.Saved upto))) (sym (synced_state upto (begun old))) (none_saved upto)

  -- those that are no ticks
  replies_went : (input ≡ data_in.Tick → ⊥) → RepliesAt v x lane_of t (made next goes.data_outs)
  replies_went still =
      (served.served_by_step l c m server now input outs written new h run shows allowed goes (left l c m server now input outs written new h run shows allowed goes) (RepliesAt v x lane_of t)
      (λ q b made_so well k g. replies_piece v x lane_of t l (state_after l m.trail) server v.synced (served.W l c m server now input outs written new h run shows allowed goes) still on q b made_so well k.along k.bounds.longer g)
      replies_begin).1.1

  -- a tick
  tick_went : input ≡ data_in.Tick → TickGo lane_of (Origin v x t) t (made next goes.data_outs)
  tick_went came =
      subst (TickGo lane_of (Origin v x t) t) (sym (subst (λ (i : DataIn). DataStep old now i goes.data_outs next) came goes.steps))
      (ticks_go lane_of (Origin v x t) t (λ at conn s place was. inr (inr (record { came = came; was = was }))) (λ at s ticket number. inr tt) (live_ends old.order) now (begun old) (record {
        each = each_old;
        one = node.one_each;
        frames = tt;
        noted = all_follow (λ (n : Noted). IsServed x old n.session) (λ (n : Noted). is_some (lane_of n.session).began ≡ true) (λ n is. is.learnt) old.noted node.serves.noted;
        was = λ n s is. is;
        differ = (ends.dials l c m server now input outs written new h run shows allowed goes).differ;
      }))

  -- what is known of each reply
  record Replies : Type 0 where
    each : AllByRecursion (λ r. ReplyGo lane_of (Origin v x t) next.conns next.order r × SilentFor lane_of t goes.data_outs.frames r.says) next.replies
    one : one_each next.replies ≡ true

  replies : Replies
  replies = go input refl
    where
      others : (input ≡ data_in.Tick → ⊥) → Replies
      others still = record {
        each = all_follow _ (λ (r : Reply). ReplyGo lane_of (Origin v x t) next.conns next.order r × SilentFor lane_of t goes.data_outs.frames r.says)
            (λ r both. (both.0, silent_now lane_of t next.conns next.order next.replies goes.data_outs.frames r.at r.says both.1 both.0.1 a.frames)) next.replies
            (all_both (ReplyGo lane_of (Origin v x t) next.conns next.order) (λ (r : Reply). (n : ℕ) → is_for n r.says ≡ true → waits_for n next.replies ≡ true) next.replies a.each (each_waits [] next.replies));
        one = a.one;
      }
        where
          a : RepliesAt v x lane_of t (made next goes.data_outs)
          a = replies_went still

      go : (i : DataIn) → input ≡ i → Replies
      go (data_in.Frame conn f) is = others (λ tick. (let both : data_in.Frame conn f ≡ data_in.Tick = sym is ∙ tick in cc))
      go (data_in.Connected conn) is = others (λ tick. (let both : data_in.Connected conn ≡ data_in.Tick = sym is ∙ tick in cc))
      go (data_in.Broken conn) is = others (λ tick. (let both : data_in.Broken conn ≡ data_in.Tick = sym is ∙ tick in cc))
      go (data_in.Saved upto) is = others (λ tick. (let both : data_in.Saved upto ≡ data_in.Tick = sym is ∙ tick in cc))
      go data_in.Tick is = record {
        each = all_follow (ReplyGo lane_of (Origin v x t) next.conns next.order) (λ (r : Reply). ReplyGo lane_of (Origin v x t) next.conns next.order r × SilentFor lane_of t goes.data_outs.frames r.says)
            (λ r g. (g, silent_tick v x lane_of t next.conns next.order goes.data_outs.frames r.at r.says is g.0 g.1 a.frames)) next.replies a.each;
        one = a.one;
      }
        where
          a : TickGo lane_of (Origin v x t) t (made next goes.data_outs)
          a = tick_went is

  may : DataMay old input
  may = ends.may l c m server now input outs written new h run shows allowed goes

  unsynced : AllByRecursion (λ (r : Reply). next.synced < r.at) next.replies
  unsynced =
      waits_after old now input goes.data_outs next may goes.steps
      (record { waits = all_follow (ReplyWaits v x old) (λ (r : Reply). old.synced < r.at) (λ r is. is.unsynced) old.replies node.replies; within = served.within l c m server now input outs written new h run shows allowed goes })

  -- connections that are linked as a Hello or a Recover comes

  first : FirstFrames v x m.is_dead_at its.dials input
  first = ends.first l c m server now input outs written new h run shows allowed goes

  accepted : (conn : ℕ) (f : UpFrame) → input ≡ data_in.Frame conn f → is_some (x.connection_at conn) ≡ true
  accepted = ends.accepted l c m server now input outs written new h run shows allowed goes

  unlinked : (conn : ℕ) (f : UpFrame) → input ≡ data_in.Frame conn f → kind_of f.message ≡ Opening → link_of x conn ≡ None
  unlinked = ends.unlinked l c m server now input outs written new h run shows allowed goes

  no_conn : (conn : ℕ) → input ≡ data_in.Connected conn → role_of old conn ≡ None
  no_conn conn is = go (role_of old conn) (subst (DataMay old) is may)
    where
      go : (o : Option Role) → is_some o ≡ false → o ≡ None
      go None none = refl
      go (Some r) none = absurd (true≢false none)

  pub hello_on : (conn app : ℕ) → served.W l c m server now input outs written new h run shows allowed goes (record { conn = conn; app = app }) → LinkedTo z conn app HelloAlone
  hello_on conn app (inl waited) =
      old_takes v x m.is_dead_at its.dials input first conn app waited.0
      (λ f came. served.not_alone l c m server now input outs written new h run shows allowed goes conn app f waited.0
      ((ends.at_frame l c m server now input outs written new h run shows allowed goes).next conn f (record { app = app; dial = waited.0.dial }) came waited.0.link))
      (λ is. (let none : role_of old conn ≡ None = no_conn conn is in let some : role_of old conn ≡ Some Waiting = waited.1 in cc))
  hello_on conn app (inr g) =
      subst (λ (i : DataIn). LinkedTo (server_takes i x) conn app HelloAlone) (sym g.its)
      (hello_takes v x m.is_dead_at its.dials conn app g.dial g.frame g.says (accepted conn g.frame g.its) (unlinked conn g.frame g.its (ap kind_of g.says))
      (subst (FirstFrames v x m.is_dead_at its.dials) g.its first))

  pub recover_on : (conn app session epoch taken dial : ℕ) → Came t conn (up.Recover app session epoch taken dial) → LinkedTo z conn app (RecoverAlone v x app session epoch)
  recover_on conn app session epoch taken dial came =
      subst (λ (i : DataIn). LinkedTo (server_takes i x) conn app (RecoverAlone v x app session epoch)) (sym came.its)
      (recover_takes v x m.is_dead_at its.dials conn app session epoch taken dial came.up came.says (accepted conn came.up came.its) (unlinked conn came.up came.its (ap kind_of came.says))
      (subst (FirstFrames v x m.is_dead_at its.dials) came.its first))

  behind : (mk : Mark) (kept : ℕ) → mk.order < current v → place_of_epoch (last_epoch (order_at v mk.order)) 0 old.order ≡ Some kept → stays_at v mk.order ≤ kept
  behind mk kept under found =
      behind_kept l m.trail server run mk.order kept under
      (ap (place_of_epoch (last_epoch (order_at v mk.order)) 0) (sym (ends.order l c m server now input outs written new h run shows allowed goes).order) ∙ found)

  windows_new : NodeWindows y next
  windows_new = went.after.windows.windows

  ordered_new : IsOrdered next.order
  ordered_new = went.known.along.ends.links.ordered

  module _ (dials_new : DialsAre w y m.is_dead_at) where
    node_new : NodeDials y next
    node_new = of_some (NodeDials y) y.node next (step_site goes.node now input goes.data_outs goes.state (m.site_at server)).node dials_new.node

    -- one that a tick closed on its connection: a round was on
    in_tick : (conn s : ℕ) → input ≡ data_in.Tick → role_of old conn ≡ Some (Bound s) → role_of next conn ≡ Some (Closing s) → IsUnended next.order s (y.lane_at s y.past)
    in_tick conn s came was closed = go old.round refl (went.closing.closing conn s closed was)
      where
        lives : live old.order s ≡ true
        lives = ((ends.hold l c m server now input outs written new h run shows allowed goes).bound conn s was).0

        dead : live next.order s ≡ false
        dead = closed_dead next.order ordered_new s (of_some (RoleIs y next conn) (role_of next conn) (Closing s) closed (node_new.roles conn)).ended

        go : (o : Option Round) → old.round ≡ o → is_some o ≡ true → IsUnended next.order s (y.lane_at s y.past)
        go None none some = absurd (false≢true some)
        go (Some r) some is =
            by (of_some (λ (q : Round). RoundGoes x old) old.round r some (of_some (λ (n : DataState). IfSome n.round (λ q. RoundGoes x n)) x.node old goes.runs its.rounds.node))
          where
            by : RoundGoes x old → IsUnended next.order s (y.lane_at s y.past)
            by g = record {
              before = ap (λ (n : ℕ). nat_lt n s) place_same ∙ not_above (g.before s lives);
              untold = tick_untold old next goes.data_outs x y s (server_lanes old now input goes.data_outs next x) lives dead (g.untold s);
            }
              where
                not_above : s < epoch_place old.order → nat_lt (epoch_place old.order) s ≡ false
                not_above low = go_lt (nat_lt (epoch_place old.order) s) refl
                  where
                    go_lt : (b : Bool) → nat_lt (epoch_place old.order) s ≡ b → nat_lt (epoch_place old.order) s ≡ false
                    go_lt false is = is
                    go_lt true is = absurd (omega (arith, low, ltb-true (epoch_place old.order) s is))

    pub replies_now : RepliesWait w y next
    replies_now = record {
      each = all_follow _ (ReplyWaits w y next)
          (λ r g.
          reply_now v w x m.is_dead_at old now input goes.data_outs next (served.W l c m server now input outs written new h run shows allowed goes) its.order.past order_v (same_now v w wrote.past)
          (λ k low. ap last_epoch (order_before v w wrote.past k low)) (left_before v w wrote.past (ap epoch_place wrote.order ∙ place_kept wrote.deeds v.order wrote.may)) goes_on place_same
          (server_lanes old now input goes.data_outs next x) from.ordered (ends.dials l c m server now input outs written new h run shows allowed goes) dials_new node_new went.known.bounds
          (site_after old now input goes.data_outs next x) no_conn hello_on recover_on behind in_tick
          (λ s closed. same_down x y old next goes.data_outs (server_lanes old now input goes.data_outs next x) node.windows windows_new from.ordered ordered_new goes_on s closed) r
          (record { origin = g.0.0.0; says = g.0.0.1; silent = g.0.1; served = g.1.0; unsynced = g.1.1 })) next.replies
          (all_both _ _ next.replies replies.each (all_both (λ (r : Reply). SaysServed lane_of next.order r.says) (λ (r : Reply). next.synced < r.at) next.replies went.after.goes.replies unsynced));
      one_each = replies.one;
    }
