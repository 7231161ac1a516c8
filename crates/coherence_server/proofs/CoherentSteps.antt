-- Each step of a data server keeps what was put to its sessions coherent.
use Rattle.std.proofs.Common.{◌≡◌, ◌≢◌, ◌≤◌, ◌<◌, ◌⊎◌, inl, inr, ◌+◌, ◌&&◌, ◌||◌, not, ℕ, Bool, true, false, List, [], ◌∷◌, ◌++◌, length, take, Option, None, refl, sym, ◌∙◌, ap, subst, arith}
use Rattle.std.specs.Prelude.{IfSome, nat_lt, ◌==◌}
use Rattle.std.specs.List.{list_any}
use Rattle.std.proofs.lemmas.Bool.{eqb-true, false≢true, ltb-true, ltb-false}
use Rattle.std.proofs.lemmas.List.{append-nil, length-append, length-drop}
use Rattle.std.proofs.Math.Seq.{take-append_seam}
use Rattle.plain_orders.specs.declared.act.Act.{Act}
use Rattle.plain_orders.specs.declared.entry.Entry.{Entry}
use Rattle.plain_orders.specs.declared.layout.Layout.{Layout}
use Rattle.plain_orders.specs.Entries.{live}
use Rattle.plain_orders.specs.Ordered.{IsOrdered}
use Rattle.plain_orders.specs.Sessions.{app_in}
use Rattle.plain_orders.proofs.FrontLemmas.{front_lives}
use Rattle.plain_orders.proofs.LiveSessions.{none_opened}
use Rattle.plain_orders.proofs.OrderLemmas.{ordered-front}
use Rattle.plain_runs.specs.Plain.{Plain, Server, current, order_at}
use Rattle.plain_runs.specs.Run.{IsRun, after_all, state_after}
use Rattle.plain_runs.proofs.OrderLaws.{orders_kept}
use Rattle.plain_runs.proofs.RunLemmas.{after_all-append}
use Rattle.plain_runs.specs.Plain.{start}
use Rattle.ecp_messages.specs.declared.down.Down.{Down}
use Rattle.end_words.specs.Windows.{Window, fresh, sent}
use Rattle.block_holders.specs.declared.noted.Noted.{Noted}
use Rattle.block_holders.specs.HolderWords.{is_noted_for}
use Rattle.data_rules.specs.DataState.{DataState}
use Rattle.data_rules.specs.declared.data_in.DataIn.{DataIn}
use Rattle.data_rules.specs.declared.data_in.DataIn.TheVariants as data_in
use Rattle.data_rules.specs.Puts.{Sofar, begun, window_of}
use Rattle.data_rules.specs.Step.{DataMay, made}
use Rattle.cluster_runs.specs.declared.move_outs.MoveOuts.{MoveOuts}
use Rattle.cluster_runs.specs.declared.moves.Move.TheVariants.{Server as ServerMove}
use Rattle.cluster_runs.specs.CoresState.{CoresState}
use Rattle.cluster_runs.specs.Goes.{ServerGoes, server_site}
use Rattle.cluster_runs.specs.Lanes.{downs_given, given_since, is_closed_by, with_data_step}
use Rattle.cluster_runs.specs.Machine.{Machine, Site}
use Rattle.cluster_runs.specs.Mirrors.{Mirrors}
use Rattle.cluster_runs.specs.Moves.{Allowed, NodeMay}
use Rattle.cluster_runs.specs.Sent.{Lane}
use Rattle.cluster_invariant.specs.Coherence.{BlocksHold, CoherenceHolds, IsCoherent, IsHeld, NodeHeld}
use Rattle.cluster_invariant.specs.Holds.{Holds, SiteHolds}
use Rattle.cluster_invariant.specs.Link.{LaneCounts, NodeLink, NodeWindows, WindowIs, is_window_of}
use Rattle.cluster_invariant.specs.Orders.{NodeOrder, OrdersAgree}
use Rattle.cluster_invariant.specs.Words.{IsFront, stays_at}
use Rattle.cluster_invariant.proofs.Deeds.{Does, deeds_grow, order_by}
use Rattle.cluster_invariant.proofs.OrderKept.{step_site}
use Rattle.cluster_invariant.proofs.OrderMoves.{server_wrote, step_from}
use Rattle.cluster_invariant.proofs.OrderRows.{StepWrote}
use Rattle.cluster_invariant.proofs.OrdersStay.{orders_agree}
use Rattle.cluster_invariant.proofs.PastOrders.{now_stays, order_now}
use Rattle.cluster_invariant.proofs.PieceDeeds.{does_step}
use Rattle.cluster_invariant.proofs.PieceKinds.{Piece, makes}
use Rattle.cluster_invariant.proofs.PieceMay.{Coming, begins}
use Rattle.cluster_invariant.proofs.Pieces.{MayMake}
use Rattle.cluster_invariant.proofs.PiecesOfSteps.{StepFrom, synced_state}
use Rattle.cluster_invariant.proofs.SiteMoves.{kept_at_one}
use Rattle.cluster_invariant.proofs.Small.{of_some, put_same}
use Rattle.link_kept.proofs.FitsWell.{may_close}
use Rattle.link_kept.proofs.Later.{front_same, front_then}
use Rattle.link_kept.proofs.OrderGrows.{order_grows}
use Rattle.link_kept.proofs.ServerMoves.{none_begun, serves_kept_by_server}
use Rattle.link_kept.proofs.ServesServer.{ServesAfter}
use Rattle.link_kept.proofs.StepFits.{ConnsKnow, LeftToOthers}
use Rattle.link_kept.proofs.WindowLists.{none_there}
use Rattle.link_kept.proofs.WindowPieces.{PutsWell}
use Rattle.link_kept.proofs.WindowsGo.{AllServed, same_or}
use Rattle.link_kept.proofs.WindowsServer.{LanesGrow, server_lanes}
use Rattle.coherence_kept.proofs.ShortMoves.{PutsCoherent}
use Rattle.coherence_kept.proofs.CoherenceLater.{LaneCoherent}
use Rattle.coherence_kept.proofs.DeedsOn.{deeds_on}
use Rattle.coherence_kept.proofs.Grows.{OrdersOn, coherent_later}
use Rattle.coherence_kept.proofs.EntryDrops.{HeldBy}
use Rattle.coherence_kept.proofs.Joined.{Held, held_coherent}
use Rattle.coherence_kept.proofs.ServerClosed.{closed_after}
use Rattle.coherence_kept.proofs.ServerHeld.{held_session, past_coherent, session_held, spans_for}
use Rattle.coherence_kept.proofs.WindowHeld.{PutHeld, put_first, put_given}
use Rattle.coherence_server.proofs.HeldAll.{held_piece}
use Rattle.coherence_server.proofs.HeldSteps.{HeldGo, HeldIn}

-- only live sessions have notes
noted_lives : (lane_of : ℕ → Lane) (es : List Entry) (s : ℕ) (xs : List Noted) → AllServed lane_of es xs → list_any (is_noted_for s) xs ≡ true → live es s ≡ true
noted_lives lane_of es s [] all is = absurd (false≢true is)
noted_lives lane_of es s (x ∷ xs) all is = go (x.session == s) refl is (noted_lives lane_of es s xs all.1)
  where
    go : (b : Bool) → (x.session == s) ≡ b → (b || list_any (is_noted_for s) xs) ≡ true → (list_any (is_noted_for s) xs ≡ true → live es s ≡ true) → live es s ≡ true
    go true its at more = ap (live es) (sym (eqb-true x.session s its)) ∙ all.0.0
    go false other at more = more at

-- of a window that is as its lane is so many were sent as were put
sent_all : (w : Window Down) (down : List Down) (reached came : ℕ) → reached ≤ length down → WindowIs w down reached came → sent w ≡ length down
sent_all w down reached came low is =
    ap (λ (ms : List Down). w.acked + length ms) is.waiting ∙ omega (arith, is.acked, low, length-drop w.acked down)

-- a session that isn't live in a list and is live in one that goes on from it is opened behind it
opened_behind : (es fs : List Entry) (s : ℕ) → IsFront es fs → IsOrdered fs → live fs s ≡ true → live es s ≡ false → length es < s
opened_behind es fs s front ordered lives dead = go (nat_lt (length es) s) refl
  where
    go : (b : Bool) → nat_lt (length es) s ≡ b → length es < s
    go true late = ltb-true (length es) s late
    go false low =
        absurd (false≢true (sym dead ∙ ap (λ (l : List Entry). live l s) (sym (ap (take (length es)) front.1 ∙ take-append_seam es front.0))
        ∙ front_lives fs (length es) s ordered (ltb-false (length es) s low) (omega (arith, ap (λ (l : List Entry). length l) front.1, length-append es front.0)) lives))

module _ (l : Layout) (c : CoresState) (m : Machine) (server now : ℕ) (input : DataIn) (outs : MoveOuts) (written : List Act) (new : Machine) (h : Holds l m)
    (run : IsRun l m.trail) (after_run : IsRun l new.trail) (shows : Mirrors c m) (allowed : Allowed c (ServerMove server now input))
    (goes : ServerGoes m server now input outs written new) where
  abbrev x : Site
  x = m.site_at server

  abbrev v : Server
  v = (state_after l m.trail).server_at server

  abbrev q : Plain
  q = after_all l (state_after l m.trail) written

  -- the plain server after the step
  abbrev w : Server
  w = q.server_at server

  abbrev old : DataState
  old = goes.node

  abbrev next : DataState
  next = goes.state

  abbrev t : Coming
  t = record { old = old; now = now; input = input }

  abbrev lane_of : ℕ → Lane
  lane_of s = x.lane_at s x.past

  its : SiteHolds l server m.is_dead_at v x
  its = h.sites server

  counts : (s : ℕ) → LaneCounts (lane_of s)
  counts s = its.link.lanes s x.past

  node : NodeLink v x m.is_dead_at old
  node = of_some (NodeLink v x m.is_dead_at) x.node old goes.runs its.link.node

  held : NodeHeld x old
  held = of_some (NodeHeld x) x.node old goes.runs its.coherence.node

  order : NodeOrder l server x.past v old
  order = of_some (NodeOrder l server x.past v) x.node old goes.runs its.order.node

  from : StepFrom old
  from = step_from l m server old h run goes.runs

  may : DataMay old input
  may = subst (λ (o : Option DataState). NodeMay o input) (shows.nodes server ∙ goes.runs) allowed.may

  wrote : StepWrote server old next (state_after l m.trail) q
  wrote = server_wrote l c m server now input outs written new h run shows allowed goes

  does : Does (begins t) (made next goes.data_outs)
  does = does_step old now input goes.data_outs next from may goes.steps

  on : OrdersOn v w
  on = deeds_on v w wrote.deeds (orders_agree l m.trail server run) wrote.may wrote.past wrote.order (omega (arith, wrote.synced))

  -- the order of the node goes on, and is the plain one

  goes_on : IsFront old.order next.order
  goes_on = subst (λ (es : List Entry). IsFront old.order es) (sym wrote.its) (deeds_grow wrote.deeds old.order)

  same_now : current w ≡ current v
  same_now = ap (λ (xs : List (List Entry)). length xs) wrote.past

  same_order : w.order ≡ next.order
  same_order = wrote.order ∙ ap (order_by wrote.deeds) (sym order.order) ∙ sym wrote.its

  ordered : IsOrdered next.order
  ordered = subst IsOrdered same_order (subst IsOrdered (order_now w) ((agree after_run).ordered (current w) (omega arith)))
    where
      agree : IsRun l new.trail → OrdersAgree w
      agree r =
          subst (λ (p : Plain). OrdersAgree (p.server_at server)) (after_all-append l start m.trail written)
          (orders_agree l (m.trail ++ written) server (subst (λ (n : Machine). IsRun l n.trail) goes.after r))

  -- how far it is synced

  within_plain : v.synced ≤ length old.order
  within_plain = omega (arith, (orders_kept l m.trail server run).within, ap (λ (es : List Entry). length es) order.order)

  within_old : old.synced ≤ length old.order
  within_old = omega (arith, within_plain, order.synced)

  reached : (begins t).state.synced ≤ length old.order
  reached = go input may
    where
      go : (i : DataIn) → DataMay old i → (begins (record { old = old; now = now; input = i })).state.synced ≤ length old.order
      go (data_in.Frame conn f) i = within_old
      go (data_in.Connected conn) i = within_old
      go (data_in.Broken conn) i = within_old
      go data_in.Tick i = within_old
      go (data_in.Saved upto) i = omega (arith, ap (λ (d : DataState). d.synced) (synced_state upto (begun old)), i.within)

  low : (begins t).state.synced ≤ w.synced
  low = omega (arith, does.synced, wrote.synced)

  stays_in : w.synced ≤ length old.order
  stays_in = omega (arith, wrote.synced, does.synced, reached, within_plain)

  -- where it begins

  was_coherent : (s : ℕ) → LaneCoherent old.order v.synced s (lane_of s)
  was_coherent s =
      subst (λ (es : List Entry). LaneCoherent es v.synced s (lane_of s)) here
      (subst (λ (n : ℕ). LaneCoherent (order_at v x.past) n s (lane_of s)) (ap (stays_at v) its.order.past ∙ now_stays v)
      (its.coherence.lanes s x.past (omega (arith, its.order.past))))
    where
      here : order_at v x.past ≡ old.order
      here = ap (order_at v) its.order.past ∙ order_now v ∙ sym order.order

  still_coherent : (s : ℕ) → LaneCoherent old.order w.synced s (lane_of s)
  still_coherent s =
      coherent_later old.order old.order v.synced w.synced s (lane_of s).front (lane_of s).down (front_same old.order) within_plain (omega (arith, wrote.synced)) (was_coherent s)

  begin_held : (n : ℕ) → n ≤ w.synced → HeldIn lane_of w.synced old.order n old.noted old.windows
  begin_held n under = record {
    ordered = from.ordered;
    low = under;
    within = stays_in;
    first = λ s. (still_coherent s).first;
    each =
        λ s lives.
        put_first (lane_of s) old.order w.synced s (spans_for s old.noted) (window_of old s) (node.windows.each s lives).waiting
        (omega (arith, (node.windows.each s lives).acked, (counts s).down_taken))
        (session_held old.order old.noted w.synced s (lane_of s).front (lane_of s).down (still_coherent s) (held.held s lives));
  }

  begins_held : HeldGo lane_of w.synced (begins t).state
  begins_held = go input low
    where
      go : (i : DataIn) → (begins (record { old = old; now = now; input = i })).state.synced ≤ w.synced → HeldGo lane_of w.synced (begins (record { old = old; now = now; input = i })).state
      go (data_in.Frame conn f) under = begin_held old.synced under
      go (data_in.Connected conn) under = begin_held old.synced under
      go (data_in.Broken conn) under = begin_held old.synced under
      go data_in.Tick under = begin_held old.synced under
      go (data_in.Saved upto) under =
          subst (λ (d : DataState). HeldGo lane_of w.synced d) (sym (synced_state upto (begun old)))
          (begin_held upto (subst (λ (d : DataState). d.synced ≤ w.synced) (synced_state upto (begun old)) under))

  -- while it goes on

  -- what was put is coherent as far as the step has come, where its order is a front of the one that comes of it
  abbrev pub HeldSo : Sofar → Type 0
  HeldSo b = IsFront b.state.order next.order → HeldGo lane_of w.synced b.state

  -- each small change keeps it
  pub held_so : (p : Piece) (b : Sofar) → MayMake t p b → PutsWell lane_of p b → HeldSo b → HeldSo (makes now p b)
  held_so p b made well g front =
      held_piece lane_of w.synced counts t p b made well
      (ordered-front (makes now p b).state.order front.0 (subst IsOrdered front.1 ordered))
      (g (front_then b.state.order (makes now p b).state.order next.order (order_grows now p b) front))

  pub held_begin : HeldSo (begins t)
  held_begin front = begins_held

  -- and where it ends
  module _ (ended : HeldGo lane_of w.synced next) (windows : NodeWindows (server_site old now input goes.data_outs next x) next) (noted : AllServed lane_of next.order next.noted) where
    abbrev y : Site
    y = server_site old now input goes.data_outs next x

    abbrev lane_after : ℕ → Lane
    lane_after s = with_data_step old next goes.data_outs.frames s (lane_of s)

    -- what a session that is live was put in the step
    sent_old : (s : ℕ) → live next.order s ≡ true → sent (window_of old s) ≡ length (lane_of s).down
    sent_old s lives = go (live old.order s) refl
      where
        go : (b : Bool) → live old.order s ≡ b → sent (window_of old s) ≡ length (lane_of s).down
        go true is = sent_all (window_of old s) (lane_of s).down (lane_of s).down_taken (lane_of s).up_taken (counts s).down_taken (node.windows.each s is)
        go false dead =
            ap (λ (u : Window Down). sent u) (no_window (list_any (is_window_of s) old.windows) refl)
            ∙ ap (λ (ms : List Down). length ms) (sym ((counts s).no_down unlearnt))
          where
            no_window : (b : Bool) → list_any (is_window_of s) old.windows ≡ b → window_of old s ≡ fresh
            no_window true there = absurd (false≢true (sym dead ∙ node.windows.lives s there))
            no_window false there = none_there old.windows s there

            unlearnt : (lane_of s).began ≡ None
            unlearnt =
                none_begun v x s x.past (lane_of s).began (app_in (order_at v x.past) s)
                (ap (λ (es : List Entry). app_in es s) (ap (order_at v) its.order.past ∙ order_now v ∙ sym order.order)
                ∙ none_opened old.order from.ordered s (opened_behind old.order next.order s goes_on ordered lives dead))
                (its.dials.learnt s x.past)

    closed_false : (a b : Bool) → b ≡ true → (a && not b) ≡ false
    closed_false true b is = ap not is
    closed_false false b is = refl

    given : (s : ℕ) → live next.order s ≡ true → (p : PutHeld (lane_of s) next.order w.synced s (spans_for s next.noted) (window_of next s))
        → downs_given (is_closed_by old next s) old next s ≡ p.more
    given s lives p =
        ap (λ (b : Bool). downs_given b old next s) (closed_false (live old.order s) (live next.order s) lives)
        ∙ ap (λ (n : ℕ). given_since n (window_of next s)) (sent_old s lives)
        ∙ put_given (lane_of s) next.order w.synced s (spans_for s next.noted) (window_of next s) p

    -- of a live session
    live_held : (s : ℕ) → live next.order s ≡ true → Held next.order w.synced s (HeldBy next.order (spans_for s next.noted)) (lane_of s).front (lane_after s).down
    live_held s lives = go (ended.each s lives)
      where
        go : PutHeld (lane_of s) next.order w.synced s (spans_for s next.noted) (window_of next s)
            → Held next.order w.synced s (HeldBy next.order (spans_for s next.noted)) (lane_of s).front (lane_after s).down
        go p =
            subst (λ (ms : List Down). Held next.order w.synced s (HeldBy next.order (spans_for s next.noted)) (lane_of s).front ((lane_of s).down ++ ms)) (sym (given s lives p)) p.held

    -- of one that isn't live, and wasn't
    gone_coherent : (s : ℕ) → live next.order s ≡ false → live old.order s ≡ false → LaneCoherent next.order w.synced s (lane_after s)
    gone_coherent s gone dead =
        subst (λ (ms : List Down). IsCoherent next.order w.synced s (lane_of s).front ((lane_of s).down ++ ms)) (sym nothing)
        (subst (IsCoherent next.order w.synced s (lane_of s).front) (sym (append-nil (lane_of s).down))
        (coherent_later old.order next.order w.synced w.synced s (lane_of s).front (lane_of s).down goes_on stays_in (omega arith) (still_coherent s)))
      where
        no_window : (d : DataState) → (list_any (is_window_of s) d.windows ≡ true → live d.order s ≡ true) → live d.order s ≡ false → window_of d s ≡ fresh
        no_window d lives is = by (list_any (is_window_of s) d.windows) refl
          where
            by : (b : Bool) → list_any (is_window_of s) d.windows ≡ b → window_of d s ≡ fresh
            by true there = absurd (false≢true (sym is ∙ lives there))
            by false there = none_there d.windows s there

        nothing : downs_given (is_closed_by old next s) old next s ≡ []
        nothing =
            ap (λ (b : Bool). downs_given (b && not (live next.order s)) old next s) dead
            ∙ ap (λ (u : Window Down). given_since (sent u) (window_of next s)) (no_window old (node.windows.lives s) dead)
            ∙ ap (λ (u : Window Down). given_since (sent (fresh {M = Down})) u) (no_window next (windows.lives s) gone)

    now_coherent : (s : ℕ) → LaneCoherent next.order w.synced s (lane_after s)
    now_coherent s = go (live next.order s) (live old.order s) refl refl
      where
        go : (a b : Bool) → live next.order s ≡ a → live old.order s ≡ b → LaneCoherent next.order w.synced s (lane_after s)
        go true b lives was = held_coherent next.order w.synced s (HeldBy next.order (spans_for s next.noted)) (lane_of s).front (lane_after s).down (live_held s lives)
        go false true gone was =
            closed_after old next goes.data_outs.frames (lane_of s) s v.synced w.synced goes_on ordered (omega (arith, order.synced)) within_plain (omega (arith, wrote.synced))
            (was_coherent s) (held.held s was) (ap (λ (b : Bool). b && not (live next.order s)) was ∙ ap not gone)
        go false false gone was = gone_coherent s gone was

    -- What was put at this data server is coherent.
    coherent_here : LanesGrow old next goes.data_outs x y → CoherenceHolds w y
    coherent_here grow = record {
      lanes = λ s k there. lanes s k there (same_or k x.past);
      node = subst (λ (o : Option DataState). IfSome o (NodeHeld y)) (sym (step_site old now input goes.data_outs next x).node) (record {
        held =
            λ s lives.
            subst (λ (z : Lane). BlocksHold next.order (IsHeld next.order next.noted s) z.down) (sym (lane s))
            (held_session next.order next.noted w.synced s (lane_of s).front (lane_after s).down (live_held s lives));
        noted = λ s there. noted_lives lane_of next.order s next.noted noted there;
      });
    }
      where
        lane : (s : ℕ) → y.lane_at s y.past ≡ lane_after s
        lane s = ap (y.lane_at s) grow.past ∙ grow.here s

        here : order_at w x.past ≡ next.order
        here = ap (order_at w) (its.order.past ∙ sym same_now) ∙ order_now w ∙ same_order

        stays : stays_at w x.past ≡ w.synced
        stays = ap (stays_at w) (its.order.past ∙ sym same_now) ∙ now_stays w

        lanes : (s k : ℕ) → k ≤ current w → (k ≡ x.past) ⊎ (k ≢ x.past) → LaneCoherent (order_at w k) (stays_at w k) s (y.lane_at s k)
        lanes s k there (inl same) =
            subst (λ (n : ℕ). LaneCoherent (order_at w n) (stays_at w n) s (y.lane_at s n)) (sym same)
            (subst (λ (z : Lane). LaneCoherent (order_at w x.past) (stays_at w x.past) s z) (sym (grow.here s))
            (subst (λ (n : ℕ). LaneCoherent (order_at w x.past) n s (lane_after s)) (sym stays)
            (subst (λ (es : List Entry). LaneCoherent es w.synced s (lane_after s)) (sym here) (now_coherent s))))
        lanes s k there (inr other) =
            past_coherent v w old next goes.data_outs x y on grow s k (omega (arith, there, same_now)) other (its.coherence.lanes s k (omega (arith, there, same_now)))

  -- Each step of a data server keeps what was put coherent, where it serves its sessions.
  pub coherence_kept_by_serving : ServesAfter old next x (new.site_at server) (may_close input) × HeldSo (made next goes.data_outs) → PutsCoherent l new
  coherence_kept_by_serving both =
      kept_at_one (λ dead d u z. CoherenceHolds u z) l m new server (server_site old now input goes.data_outs next) written (λ d. (h.sites d).coherence) goes.after wrote.others
      (coherent_here (both.1 (front_same next.order)) (subst (λ (z : Site). NodeWindows z next) site both.0.windows.windows) both.0.goes.noted
      (server_lanes old now input goes.data_outs next x))
    where
      site : new.site_at server ≡ server_site old now input goes.data_outs next x
      site = ap (λ (n : Machine). n.site_at server) goes.after ∙ put_same m.site_at server (server_site old now input goes.data_outs next x)

  -- So it does where what it puts to and takes from its sessions fits.
  pub coherence_kept_by_server : (E : Sofar → Type 0) → ((b : Sofar) → E b → ConnsKnow lane_of t b) → LeftToOthers lane_of t E
      → ((p : Piece) (b : Sofar) → MayMake t p b → E b → E (makes now p b)) → E (begins t) → PutsCoherent l new
  coherence_kept_by_server E know left keeps first =
      coherence_kept_by_serving (serves_kept_by_server l c m server now input outs written new h run shows allowed goes E know left keeps first HeldSo held_so held_begin)
