-- What a reply that waits after a step rests on isn't synced.
use Rattle.std.proofs.Common.{◌≡◌, ◌≤◌, ◌<◌, ℕ, ◌+◌, not, Bool, true, false, List, [], ◌∷◌, ◌++◌, filter, reverse, length, Option, Some, None, is_some, refl, sym, ◌∙◌, ap, subst, arith}
use Rattle.std.specs.Prelude.{nat_le}
use Rattle.std.specs.List.{AllByRecursion}
use Rattle.std.proofs.lemmas.Bool.{false≢true, leb-false}
use Rattle.std.proofs.lemmas.List.{length-append}
use Rattle.plain_orders.specs.declared.act.Act.TheVariants as act
use Rattle.plain_orders.specs.declared.causes.ShutCause.{ShutCause}
use Rattle.plain_orders.specs.declared.causes.ShutCause.TheVariants as causes
use Rattle.plain_orders.specs.Sessions.{app_in}
use Rattle.data_rules.specs.declared.rows.Says.TheVariants.{NewWelcome, ResetOf, GrantOf}
use Rattle.plain_orders.specs.declared.entry.Entry.{Entry}
use Rattle.plain_orders.specs.declared.entry.Entry.TheVariants.{Closed, Opened}
use Rattle.link_states.specs.declared.link_event.LinkEvent.TheVariants as event
use Rattle.link_states.specs.Tables.{data_next}
use Rattle.ecp_messages.specs.declared.down.Down.{Down}
use Rattle.ecp_messages.specs.declared.down.Down.TheVariants as down
use Rattle.end_words.specs.Windows.{owes_bare}
use Rattle.lock_table.specs.declared.rows.Request.{Request}
use Rattle.lock_table.specs.LockWords.{Freed, is_request_of, without_request, without_session}
use Rattle.data_rules.specs.DataState.{DataState}
use Rattle.data_rules.specs.declared.data_in.DataIn.{DataIn}
use Rattle.data_rules.specs.declared.data_in.DataIn.TheVariants as data_in
use Rattle.data_rules.specs.declared.data_outs.DataOuts.{DataOuts}
use Rattle.data_rules.specs.declared.rows.Caller.{Caller}
use Rattle.data_rules.specs.declared.rows.LiveEnd.{LiveEnd}
use Rattle.data_rules.specs.declared.rows.Reply.{Reply}
use Rattle.data_rules.specs.declared.rows.Role.{Role}
use Rattle.data_rules.specs.declared.rows.Role.TheVariants.{New, Waiting, Bound, Closing}
use Rattle.data_rules.specs.Closing.{cancels, cancels_all, cancels_one, closes, silenced, turns_away, unawaited}
use Rattle.data_rules.specs.Conns.{breaks_if, end_breaks, is_normal, link_of, loses_conn, role_of, with_event, with_role, without_conn}
use Rattle.data_rules.specs.Entering.{appends, enters}
use Rattle.data_rules.specs.Frames.{bares_role}
use Rattle.data_rules.specs.Granting.{grants, grants_one, with_locks}
use Rattle.data_rules.specs.Leaving.{bare_on, bare_to, flushed, must_wait}
use Rattle.data_rules.specs.Opening.{bound, breaks_unless, come_back, comes_back, is_round_over, live_ends, opens, opens_all, round_ends_if, rounds, without_round}
use Rattle.data_rules.specs.Puts.{Sofar, becomes, begun, conn_of, head_of, is_reply_elsewhere, puts, says_on, says_to, window_of, writes}
use Rattle.data_rules.specs.Saving.{acks, acks_one, cause_of, closed_in, closes_late, hears_tick, is_free, part_saved, releases, releases_all, savers, ticks, ticks_end, ticks_one}
use Rattle.data_rules.specs.Messages.{is_awaited}
use Rattle.data_rules.specs.Step.{DataMay, DataStep}
use Rattle.cluster_invariant.proofs.AllLists.{all_filtered, all_follow, all_joined, all_passed}
use Rattle.cluster_invariant.proofs.PieceMay.{synced_to}
use Rattle.cluster_invariant.proofs.PiecesOfSteps.{synced_state}
use Rattle.cluster_invariant.proofs.PutLaws.{appends_state, only_flushed, only_puts}

-- what waits isn't synced, and what is synced is in the order
pub record Unsynced (n : DataState) : Type 0 where
  pub waits : AllByRecursion (λ r. n.synced < r.at) n.replies
  pub within : n.synced ≤ length n.order

-- the same by its parts
same_unsynced : (n k : DataState) → k.synced ≡ n.synced → k.order ≡ n.order → k.replies ≡ n.replies → Unsynced n → Unsynced k
same_unsynced n k synced order rs h = record {
  waits =
      subst (λ (i : ℕ). AllByRecursion (λ (r : Reply). i < r.at) k.replies) (sym synced) (subst (λ (l : List Reply). AllByRecursion (λ (r : Reply). n.synced < r.at) l) (sym rs) h.waits);
  within = subst (λ (i : ℕ). i ≤ length k.order) (sym synced) (subst (λ (es : List Entry). n.synced ≤ length es) (sym order) h.within);
}

-- what leaves is all that is synced
pub flushed_waits : (b : Sofar) → AllByRecursion (λ (r : Reply). (flushed b).state.synced < r.at) (flushed b).state.replies
flushed_waits b =
    subst (λ (n : DataState). AllByRecursion (λ (r : Reply). n.synced < r.at) n.replies) (sym (only_flushed b).state)
    (all_follow (λ (r : Reply). must_wait b.state.synced r ≡ true) (λ (r : Reply). b.state.synced < r.at) (λ r is. above (nat_le r.at b.state.synced) r refl is)
    (filter (must_wait b.state.synced) b.state.replies) (all_passed (must_wait b.state.synced) b.state.replies))
  where
    above : (low : Bool) (r : Reply) → nat_le r.at b.state.synced ≡ low → not (nat_le r.at b.state.synced) ≡ true → b.state.synced < r.at
    above true r its is = absurd (false≢true (sym (ap not its) ∙ is))
    above false r its is = leb-false r.at b.state.synced its

pub flushed_unsynced : (b : Sofar) → b.state.synced ≤ length b.state.order → Unsynced (flushed b).state
flushed_unsynced b within = record {
  waits = flushed_waits b;
  within = subst (λ (n : DataState). n.synced ≤ length n.order) (sym (only_flushed b).state) within;
}

puts_unsynced : (s : ℕ) (m : Down) (b : Sofar) → Unsynced b.state → Unsynced (puts s m b).state
puts_unsynced s m b h =
    same_unsynced b.state (puts s m b).state (ap (λ (n : DataState). n.synced) (only_puts s m b).state) (ap (λ (n : DataState). n.order) (only_puts s m b).state)
    (ap (λ (n : DataState). n.replies) (only_puts s m b).state) h

-- one more, behind what is synced
more_unsynced : (n : DataState) (r : Reply) → n.synced < r.at → Unsynced n → Unsynced (record n { replies = n.replies ++ r ∷ [] })
more_unsynced n r above h = record { waits = all_joined (λ (q : Reply). n.synced < q.at) n.replies (r ∷ []) h.waits (above, tt); within = h.within }

-- some go
fewer : (n k : DataState) (p : Reply → Bool) → k.synced ≡ n.synced → k.order ≡ n.order → k.replies ≡ filter p n.replies → Unsynced n → Unsynced k
fewer n k p synced order rs h = same_unsynced (record n { replies = filter p n.replies }) k synced order rs
    (record { waits = all_filtered (λ (r : Reply). n.synced < r.at) p n.replies h.waits; within = h.within })

-- entries and sessions

appends_unsynced : (e : Entry) (b : Sofar) → Unsynced b.state → Unsynced (appends e b).state
appends_unsynced e b h =
    subst Unsynced (sym (appends_state e b).state) (record {
      waits = h.waits;
      within = omega (arith, h.within, length-append b.state.order (e ∷ []));
    })

opens_unsynced : (app conn now : ℕ) (b : Sofar) → Unsynced b.state → Unsynced (opens app conn now b).state
opens_unsynced app conn now b h =
    go (enters (Opened s app) b) (ap (λ (n : DataState). n.synced) (appends_state (Opened s app) (writes (act.Enter b.state.server (Opened s app)) b)).state)
    (appends_unsynced (Opened s app) (writes (act.Enter b.state.server (Opened s app)) b) h)
  where
    s : ℕ
    s = length b.state.order + 1

    go : (c : Sofar) → c.state.synced ≡ b.state.synced → Unsynced c.state
        → Unsynced (record (bound app s conn now c.state) { replies = c.state.replies ++ record { at = s; says = NewWelcome conn s } ∷ [] })
    go c synced g = record {
      waits = all_joined (λ (q : Reply). c.state.synced < q.at) c.state.replies (record { at = s; says = NewWelcome conn s } ∷ []) g.waits (omega (arith, synced, h.within), tt);
      within = g.within;
    }

by_opens : (cs : List Caller) (now : ℕ) (b : Sofar) → Unsynced b.state → Unsynced (opens_all cs now b).state
by_opens [] now b h = h
by_opens (c ∷ cs) now b h = by_opens cs now (opens c.app c.conn now b) (opens_unsynced c.app c.conn now b h)

by_unless : (joined : Bool) (app now : ℕ) (b : Sofar) → Unsynced b.state → Unsynced (breaks_unless joined app now b).state
by_unless true app now b h = h
by_unless false app now b h = h

-- nothing of it changes
beside : (n k : DataState) → k.synced ≡ n.synced → k.order ≡ n.order → k.replies ≡ n.replies → Unsynced n → Unsynced k
beside n k synced order rs h = same_unsynced n k synced order rs h

by_backs : (xs : List LiveEnd) (now : ℕ) (b : Sofar) → Unsynced b.state → Unsynced (come_back xs now b).state
by_backs [] now b h = h
by_backs (x ∷ xs) now b h = by_backs xs now (comes_back x.app x.session now b) back
  where
    joined : Bool
    joined = is_some (conn_of b.state x.session)

    told : Sofar
    told = becomes (with_event x.app now (event.RoundOver joined)) b

    back : Unsynced (comes_back x.app x.session now b).state
    back =
        puts_unsynced x.session (down.Normal (head_of b.state x.session)) (breaks_unless joined x.app now told)
        (by_unless joined x.app now told (beside b.state told.state refl refl refl h))

by_over : (over : Bool) (now : ℕ) (b : Sofar) → Unsynced b.state → Unsynced (round_ends_if over now b).state
by_over true now b h =
    by_opens b.state.callers now (come_back (live_ends b.state.order) now (writes (act.Back b.state.server) (becomes without_round b)))
    (by_backs (live_ends b.state.order) now (writes (act.Back b.state.server) (becomes without_round b)) (beside b.state (without_round b.state) refl refl refl h))
by_over false now b h = h

by_acks : (ss : List ℕ) (b : Sofar) → Unsynced b.state → Unsynced (acks ss b).state
by_acks [] b h = h
by_acks (s ∷ ss) b h = by_acks ss (acks_one s b) (puts_unsynced s _ b h)

-- locks

by_grants : (rs : List Request) (b : Sofar) → b.state.synced < length b.state.order → Unsynced b.state → Unsynced (grants rs b).state
by_grants [] b under h = h
by_grants (r ∷ rs) b under h = by_grants rs (grants_one r b) under (more_unsynced b.state (record { at = length b.state.order; says = GrantOf r.who.session r.ticket (length b.state.order) }) under h)

grants_kept : (rs : List Request) (b : Sofar) → ((grants rs b).state.synced ≡ b.state.synced) × ((grants rs b).state.order ≡ b.state.order)
grants_kept [] b = (refl, refl)
grants_kept (r ∷ rs) b = grants_kept rs (grants_one r b)

cancel_unsynced : (r : Request) (b : Sofar) → b.state.synced < length b.state.order → Unsynced b.state → Unsynced (cancels_one r b).state
cancel_unsynced r b under h =
    by_grants f.grants (becomes (with_locks f.locks) b) under (beside b.state (with_locks f.locks b.state) refl refl refl h)
  where
    f : Freed
    f = without_request b.state.locks r.who.session r.ticket (length b.state.order)

by_cancels : (rs : List Request) (b : Sofar) → b.state.synced < length b.state.order → Unsynced b.state → Unsynced (cancels rs b).state × ((cancels rs b).state.order ≡ b.state.order) × ((cancels rs b).state.synced ≡ b.state.synced)
by_cancels [] b under h = (h, refl, refl)
by_cancels (r ∷ rs) b under h =
    let f : Freed = without_request b.state.locks r.who.session r.ticket (length b.state.order) in
    let kept : ((cancels_one r b).state.synced ≡ b.state.synced) × ((cancels_one r b).state.order ≡ b.state.order) = grants_kept f.grants (becomes (with_locks f.locks) b) in
    let low : (cancels_one r b).state.synced < length (cancels_one r b).state.order = omega (arith, under, kept.0, ap (λ (es : List Entry). length es) kept.1) in
    let more : Unsynced (cancels rs (cancels_one r b)).state × ((cancels rs (cancels_one r b)).state.order ≡ (cancels_one r b).state.order) × ((cancels rs (cancels_one r b)).state.synced ≡ (cancels_one r b).state.synced) =
    by_cancels rs (cancels_one r b) low (cancel_unsynced r b under h) in
    (more.0, more.1 ∙ kept.1, more.2 ∙ kept.0)

-- a Close

by_turn : (cause : ShutCause) (o : Option ℕ) (s at : ℕ) (b : Sofar) → b.state.synced < at → Unsynced b.state → Unsynced (turns_away cause o s at b).state
by_turn (causes.Trouble time) None s at b above h = h
by_turn (causes.Trouble time) (Some conn) s at b above h =
    more_unsynced (with_role conn (Closing s) b.state) (record { at = at; says = ResetOf conn s at }) above (beside b.state (with_role conn (Closing s) b.state) refl refl refl h)
by_turn causes.Replaced None s at b above h = h
by_turn causes.Replaced (Some conn) s at b above h = fewer b.state (without_conn conn b.state) (is_reply_elsewhere (says_on conn)) refl refl refl h
by_turn (causes.Round time) None s at b above h = h
by_turn (causes.Round time) (Some conn) s at b above h =
    more_unsynced (with_role conn (Closing s) b.state) (record { at = at; says = ResetOf conn s at }) above (beside b.state (with_role conn (Closing s) b.state) refl refl refl h)

closes_unsynced : (s : ℕ) (cause : ShutCause) (b : Sofar) → Unsynced b.state → Unsynced (closes s cause b).state
closes_unsynced s cause b h = by_turn cause (conn_of b.state s) s (length b.state.order + 1) (cancels_all s closed) (omega (arith, cancelled.2, synced, h.within)) cancelled.0
  where
    silent : Sofar
    silent = becomes (silenced s) (writes (act.Shut b.state.server s cause) b)

    closed : Sofar
    closed = becomes (unawaited s) (appends (Closed s) silent)

    now_closed : Unsynced closed.state
    now_closed =
        beside (appends (Closed s) silent).state closed.state refl refl refl
        (appends_unsynced (Closed s) silent (fewer b.state silent.state (is_reply_elsewhere (says_to s)) refl refl refl h))

    longer : closed.state.order ≡ b.state.order ++ Closed s ∷ []
    longer = ap (λ (n : DataState). n.order) (appends_state (Closed s) silent).state

    synced : closed.state.synced ≡ b.state.synced
    synced = ap (λ (n : DataState). n.synced) (appends_state (Closed s) silent).state

    under : closed.state.synced < length closed.state.order
    under = omega (arith, synced, h.within, ap (λ (es : List Entry). length es) longer, length-append b.state.order (Closed s ∷ []))

    cancelled : Unsynced (cancels_all s closed).state × ((cancels_all s closed).state.order ≡ closed.state.order) × ((cancels_all s closed).state.synced ≡ closed.state.synced)
    cancelled = by_cancels (reverse (filter (is_request_of s) closed.state.locks.requests)) closed under now_closed

-- a tick

by_late : (late : Bool) (s now : ℕ) (cause : ShutCause) (b : Sofar) → Unsynced b.state → Unsynced (closes_late late s now cause b).state
by_late true s now cause b h = closes_unsynced s cause b h
by_late false s now cause b h = h

by_end : (hears : Bool) (app s now : ℕ) (b : Sofar) → Unsynced b.state → Unsynced (ticks_end hears app s now b).state
by_end true app s now b h =
    beside c.state (with_event app now event.Ticked c.state) refl refl refl
    (by_late (is_free (data_next b.state.times now (link_of b.state app) event.Ticked)) s now (cause_of (link_of b.state app) now) b h)
  where
    c : Sofar
    c = closes_late (is_free (data_next b.state.times now (link_of b.state app) event.Ticked)) s now (cause_of (link_of b.state app) now) b
by_end false app s now b h = h

by_ticks : (xs : List LiveEnd) (now : ℕ) (b : Sofar) → Unsynced b.state → Unsynced (ticks xs now b).state
by_ticks [] now b h = h
by_ticks (x ∷ xs) now b h =
    by_ticks xs now (ticks_one x now b) (by_end (hears_tick (link_of b.state x.app) (is_awaited b.state x.session)) x.app x.session now b h)

-- an acknowledgement by itself

by_bare : (owed : Bool) (s conn : ℕ) (b : Sofar) → AllByRecursion (λ (r : Reply). b.state.synced < r.at) b.state.replies
    → AllByRecursion (λ (r : Reply). (bare_to owed s conn b).state.synced < r.at) (bare_to owed s conn b).state.replies
by_bare true s conn b h = h
by_bare false s conn b h = h

by_bare_on : (o : Option ℕ) (s : ℕ) (b : Sofar) → AllByRecursion (λ (r : Reply). b.state.synced < r.at) b.state.replies
    → AllByRecursion (λ (r : Reply). (bare_on o s b).state.synced < r.at) (bare_on o s b).state.replies
by_bare_on None s b h = h
by_bare_on (Some conn) s b h = by_bare (owes_bare (window_of b.state s)) s conn b h

by_role : (r : Option Role) (b : Sofar) → AllByRecursion (λ (r : Reply). b.state.synced < r.at) b.state.replies
    → AllByRecursion (λ (q : Reply). (bares_role r b).state.synced < q.at) (bares_role r b).state.replies
by_role None b h = h
by_role (Some New) b h = h
by_role (Some Waiting) b h = h
by_role (Some (Bound s)) b h = by_bare_on (conn_of b.state s) s b h
by_role (Some (Closing s)) b h = h

-- a connection ends

by_lost : (o : Option ℕ) (now : ℕ) (b : Sofar) → Unsynced b.state → Unsynced (end_breaks o now b).state
by_lost None now b h = h
by_lost (Some app) now b h = go (is_normal (link_of b.state app))
  where
    go : (normal : Bool) → Unsynced (becomes (with_event app now event.Ended) (breaks_if normal app now b)).state
    go true = beside b.state (with_event app now event.Ended b.state) refl refl refl h
    go false = beside b.state (with_event app now event.Ended b.state) refl refl refl h

by_loss : (r : Option Role) (now : ℕ) (b : Sofar) → Unsynced b.state → Unsynced (loses_conn r now b).state
by_loss None now b h = h
by_loss (Some New) now b h = h
by_loss (Some Waiting) now b h = h
by_loss (Some (Bound s)) now b h = by_lost (app_in b.state.order s) now b h
by_loss (Some (Closing s)) now b h = h

-- After each step.
pub waits_after : (old : DataState) (now : ℕ) (input : DataIn) (outs : DataOuts) (new : DataState) → DataMay old input → DataStep old now input outs new → Unsynced old
    → AllByRecursion (λ (r : Reply). new.synced < r.at) new.replies
waits_after old now (data_in.Frame conn f) outs new may steps h =
    subst (λ (b : Sofar). AllByRecursion (λ (r : Reply). b.state.synced < r.at) b.state.replies) (sym steps.after)
    (by_role (role_of (flushed (rounds now steps.taken)).state conn) (flushed (rounds now steps.taken)) (flushed_waits (rounds now steps.taken)))
waits_after old now (data_in.Connected conn) outs new may steps h = subst (λ (b : Sofar). AllByRecursion (λ (r : Reply). b.state.synced < r.at) b.state.replies) (sym steps) h.waits
waits_after old now (data_in.Broken conn) outs new may steps h =
    subst (λ (b : Sofar). AllByRecursion (λ (r : Reply). b.state.synced < r.at) b.state.replies) (sym steps)
    (by_loss (role_of old conn) now (becomes (without_conn conn) (begun old)) (fewer old (without_conn conn old) (is_reply_elsewhere (says_on conn)) refl refl refl h)).waits
waits_after old now data_in.Tick outs new may steps h =
    subst (λ (b : Sofar). AllByRecursion (λ (r : Reply). b.state.synced < r.at) b.state.replies) (sym steps) (by_ticks (live_ends old.order) now (begun old) h).waits
waits_after old now (data_in.Saved upto) outs new may steps h =
    subst (λ (b : Sofar). AllByRecursion (λ (r : Reply). b.state.synced < r.at) b.state.replies) (sym steps)
    (by_over (is_round_over acked.state acked.state.round) now acked (by_acks (savers old.order (part_saved old upto)) (flushed freed) (flushed_unsynced freed low))).waits
  where
    freed : Sofar
    freed = releases_all (closed_in (part_saved old upto)) (synced_to upto (begun old))

    acked : Sofar
    acked = acks (savers old.order (part_saved old upto)) (flushed freed)

    kept : (ss : List ℕ) (b : Sofar) → ((releases_all ss b).state.synced ≡ b.state.synced) × ((releases_all ss b).state.order ≡ b.state.order)
    kept [] b = (refl, refl)
    kept (s ∷ ss) b =
        let more : ((releases_all ss (releases s b)).state.synced ≡ (releases s b).state.synced) × ((releases_all ss (releases s b)).state.order ≡ (releases s b).state.order) = kept ss (releases s b) in
        let f : Freed = without_session b.state.locks s (length b.state.order) in
        let one : ((releases s b).state.synced ≡ b.state.synced) × ((releases s b).state.order ≡ b.state.order) = grants_kept f.grants (becomes (with_locks f.locks) (writes (act.Release b.state.server s) b)) in
        (more.0 ∙ one.0, more.1 ∙ one.1)

    low : freed.state.synced ≤ length freed.state.order
    low = omega (
      arith,
      (kept (closed_in (part_saved old upto)) (synced_to upto (begun old))).0,
      ap (λ (es : List Entry). length es) (kept (closed_in (part_saved old upto)) (synced_to upto (begun old))).1,
      ap (λ (n : DataState). n.synced) (synced_state upto (begun old)),
      ap (λ (n : DataState). length n.order) (synced_state upto (begun old)),
      may.within,
    )
