-- The replies that wait, and the frames that were put, in the midst of a tick: sessions are closed, one after the other.
use Rattle.std.proofs.Common.{◌≡◌, ◌≢◌, ◌⊎◌, inl, inr, ℕ, ◌+◌, ◌||◌, not, Bool, true, false, cond, List, [], ◌∷◌, ◌++◌, map, filter, reverse, length, Option, Some, None, is_some, refl, sym, ◌∙◌, ap, subst}
use Rattle.std.specs.Prelude.{◌==◌}
use Rattle.std.specs.List.{AllByRecursion, find}
use Rattle.std.proofs.lemmas.Bool.{eq-eqb, ne_eqb, or_parts, true≢false}
use Rattle.plain_orders.specs.declared.act.Act.TheVariants as act
use Rattle.plain_orders.specs.declared.causes.ShutCause.{ShutCause}
use Rattle.plain_orders.specs.declared.entry.Entry.{Entry}
use Rattle.plain_orders.specs.declared.entry.Entry.TheVariants.{Closed}
use Rattle.plain_orders.specs.Entries.{entry_at}
use Rattle.plain_orders.proofs.Places.{entry_last, entry_more}
use Rattle.link_states.specs.declared.data_link.DataLink.{DataLink}
use Rattle.link_states.specs.declared.data_link.DataLink.TheVariants.{Free, Normal, Trouble, Recovering}
use Rattle.link_states.specs.declared.link_event.LinkEvent.TheVariants as event
use Rattle.link_states.specs.Tables.{data_next}
use Rattle.ecp_messages.specs.declared.down.Down.{Down}
use Rattle.end_words.specs.Windows.{sent, with_sent}
use Rattle.block_holders.specs.declared.noted.Noted.{Noted}
use Rattle.block_holders.specs.HolderWords.{is_noted_elsewhere, is_touched, touched}
use Rattle.lock_table.specs.declared.rows.Request.{Request}
use Rattle.lock_table.specs.LockWords.{Freed, is_request_of, without_request}
use Rattle.data_rules.specs.DataState.{DataState}
use Rattle.data_rules.specs.declared.down_frames.DownOut.{DownOut}
use Rattle.data_rules.specs.declared.rows.Conn.{Conn}
use Rattle.data_rules.specs.declared.rows.LiveEnd.{LiveEnd}
use Rattle.data_rules.specs.declared.rows.Reply.{Reply}
use Rattle.data_rules.specs.declared.rows.Role.{Role}
use Rattle.data_rules.specs.declared.rows.Role.TheVariants.{Bound, Closing}
use Rattle.data_rules.specs.declared.rows.Says.{Says}
use Rattle.data_rules.specs.declared.rows.Says.TheVariants.{NewWelcome, EpochWelcome, ResetOf, GrantOf, AnswerOf}
use Rattle.data_rules.specs.Closing.{cancels, cancels_all, cancels_one, closes, silenced, turns_away, unawaited, waits_for_reset}
use Rattle.data_rules.specs.Conns.{is_conn, link_of, with_event, with_role_if}
use Rattle.data_rules.specs.Entering.{appends, drops, drops_one, spans_of, with_entry}
use Rattle.data_rules.specs.Granting.{grants, grants_one, with_locks}
use Rattle.data_rules.specs.Messages.{is_awaited}
use Rattle.data_rules.specs.Puts.{Sofar, becomes, conn_of, is_reply_elsewhere, puts, says_to, tells_on, window_of, with_window, writes}
use Rattle.data_rules.specs.Saving.{cause_of, closes_late, hears_tick, is_free, ticks, ticks_end, ticks_one}
use Rattle.cluster_runs.specs.Sent.{Lane}
use Rattle.cluster_invariant.specs.Words.{is_begun}
use Rattle.cluster_invariant.proofs.AllLists.{all_filtered, all_follow, all_joined}
use Rattle.cluster_invariant.proofs.ConnRoles.{bound_role}
use Rattle.cluster_invariant.proofs.PieceMay.{Coming}
use Rattle.cluster_invariant.proofs.PiecesOfCloses.{conn_there, role_given}
use Rattle.cluster_invariant.proofs.PutLaws.{appends_state, only_cancels, only_puts}
use Rattle.cluster_invariant.proofs.Written.{closed_place}
use Rattle.data_pieces.proofs.CallersGo.{role_other}
use Rattle.data_pieces.proofs.ConnLists.{Differ, differ_role, role_at}
use Rattle.link_nodes.proofs.BoundsGo.{role_set}
use Rattle.link_nodes.proofs.RepliesGo.{ReplyGo, SaysGo, is_first}
use Rattle.link_nodes.proofs.WaitLists.{is_for, one_beside, one_each, one_fewer, one_more, waits_beside, waits_cons, waits_for}

-- a frame of a tick: it neither begins nor ends anything, on the connection that a session had before that learnt of the order
pub record TickFrame (lane_of : ℕ → Lane) (cs : List Conn) (f : DownOut) : Type 0 where
  pub session : ℕ
  pub was : role_at f.conn cs ≡ Some (Bound session)
  pub learnt : is_begun (lane_of session) ≡ true
  pub plain : is_first f.down.message ≡ false

-- what holds in the midst of it
pub record TickGo (lane_of : ℕ → Lane) (O : Reply → Type 0) (t : Coming) (b : Sofar) : Type 0 where
  pub each : AllByRecursion (ReplyGo lane_of O b.state.conns b.state.order) b.state.replies
  pub one : one_each b.state.replies ≡ true
  pub frames : AllByRecursion (TickFrame lane_of t.old.conns) b.outs.frames
  pub noted : AllByRecursion (λ y. is_begun (lane_of y.session) ≡ true) b.state.noted
  pub was : (m s : ℕ) → role_at m b.state.conns ≡ Some (Bound s) → role_at m t.old.conns ≡ Some (Bound s)
  pub differ : Differ b.state.conns

-- replies for another connection

false_or : (a b : Bool) → (a || b) ≡ false → a ≡ false
false_or true b is = absurd (true≢false is)
false_or false b is = refl

apart_of : (conn w : ℕ) → ((conn == w) || false) ≡ false → w ≢ conn
apart_of conn w is same = true≢false (sym (eq-eqb conn w (sym same)) ∙ false_or (conn == w) false is)

module _ (lane_of : ℕ → Lane) (O : Reply → Type 0) where
  says_apart : (conn : ℕ) (q : Role) (cs : List Conn) (es : List Entry) (at : ℕ) (says : Says) → is_for conn says ≡ false → SaysGo lane_of cs es at says
      → SaysGo lane_of (map (with_role_if conn q) cs) es at says
  says_apart conn q cs es at (NewWelcome w session) apart g =
      record { until = g.until; bound = role_other conn w q cs (apart_of conn w apart) ∙ g.bound; unlearnt = g.unlearnt }
  says_apart conn q cs es at (EpochWelcome w session kept) apart g =
      record { until = g.until; bound = role_other conn w q cs (apart_of conn w apart) ∙ g.bound; unlearnt = g.unlearnt }
  says_apart conn q cs es at (ResetOf w session place) apart g =
      record { until = g.until; closing = role_other conn w q cs (apart_of conn w apart) ∙ g.closing; closed = g.closed }
  says_apart conn q cs es at (GrantOf session ticket number) apart g = tt
  says_apart conn q cs es at (AnswerOf session about job number place sum) apart g = tt

  -- where none waits for it
  each_apart : (conn : ℕ) (q : Role) (cs : List Conn) (es : List Entry) (rs : List Reply) → waits_for conn rs ≡ false → AllByRecursion (ReplyGo lane_of O cs es) rs
      → AllByRecursion (ReplyGo lane_of O (map (with_role_if conn q) cs) es) rs
  each_apart conn q cs es [] none all = tt
  each_apart conn q cs es (r ∷ rs) none all =
      ((all.0.0, says_apart conn q cs es r.at r.says (split.0) all.0.1), each_apart conn q cs es rs split.1 all.1)
    where
      split : (is_for conn r.says ≡ false) × (waits_for conn rs ≡ false)
      split = or_parts (is_for conn r.says) (waits_for conn rs) (sym (waits_cons conn r rs) ∙ none)

  -- what waits for the connection of a session says to it
  only_says : (conn s : ℕ) (cs : List Conn) (es : List Entry) (at : ℕ) (says : Says) → role_at conn cs ≡ Some (Bound s) → SaysGo lane_of cs es at says → not (says_to s says) ≡ true → is_for conn says ≡ false
  only_says conn s cs es at (NewWelcome w session) role g elsewhere = ap (λ (b : Bool). b || false) (ne_eqb conn w (λ same. differs same))
    where
      differs : conn ≡ w → ⊥
      differs same =
          absurd (let both : Some (Bound session) ≡ Some (Bound s) = sym g.bound ∙ ap (λ (k : ℕ). role_at k cs) (sym same) ∙ role in
          let its : session ≡ s = cc in true≢false (sym elsewhere ∙ ap not (eq-eqb session s its)))
  only_says conn s cs es at (EpochWelcome w session kept) role g elsewhere = ap (λ (b : Bool). b || false) (ne_eqb conn w (λ same. differs same))
    where
      differs : conn ≡ w → ⊥
      differs same =
          absurd (let both : Some (Bound session) ≡ Some (Bound s) = sym g.bound ∙ ap (λ (k : ℕ). role_at k cs) (sym same) ∙ role in
          let its : session ≡ s = cc in true≢false (sym elsewhere ∙ ap not (eq-eqb session s its)))
  only_says conn s cs es at (ResetOf w session place) role g elsewhere = ap (λ (b : Bool). b || false) (ne_eqb conn w (λ same. differs same))
    where
      differs : conn ≡ w → ⊥
      differs same = absurd (let both : Some (Closing session) ≡ Some (Bound s) = sym g.closing ∙ ap (λ (k : ℕ). role_at k cs) (sym same) ∙ role in cc)
  only_says conn s cs es at (GrantOf session ticket number) role g elsewhere = refl
  only_says conn s cs es at (AnswerOf session about job number place sum) role g elsewhere = refl

  -- so none is left as it is silenced
  none_left : (conn s : ℕ) (cs : List Conn) (es : List Entry) (rs : List Reply) → role_at conn cs ≡ Some (Bound s) → AllByRecursion (ReplyGo lane_of O cs es) rs
      → waits_for conn (filter (is_reply_elsewhere (says_to s)) rs) ≡ false
  none_left conn s cs es [] role all = refl
  none_left conn s cs es (r ∷ rs) role all = go (is_reply_elsewhere (says_to s) r) refl (none_left conn s cs es rs role all.1)
    where
      go : (b : Bool) → is_reply_elsewhere (says_to s) r ≡ b → waits_for conn (filter (is_reply_elsewhere (says_to s)) rs) ≡ false
          → waits_for conn (cond b (r ∷ filter (is_reply_elsewhere (says_to s)) rs) (filter (is_reply_elsewhere (says_to s)) rs)) ≡ false
      go true stays more =
          waits_cons conn r (filter (is_reply_elsewhere (says_to s)) rs)
          ∙ ap (λ (b : Bool). b || waits_for conn (filter (is_reply_elsewhere (says_to s)) rs)) (only_says conn s cs es r.at r.says role all.0.1 stays) ∙ more
      go false goes more = more

  says_pushed : (cs : List Conn) (es : List Entry) (q at : ℕ) (says : Says) → SaysGo lane_of cs es at says → SaysGo lane_of cs (es ++ Closed q ∷ []) at says
  says_pushed cs es q at (NewWelcome conn session) g = g
  says_pushed cs es q at (EpochWelcome conn session kept) g = record { until = g.until ∙ sym (closed_place q 0 0 es); bound = g.bound; unlearnt = g.unlearnt }
  says_pushed cs es q at (ResetOf conn session p) g = record { until = g.until; closing = g.closing; closed = entry_more es (Closed q) (Closed session) p g.closed }
  says_pushed cs es q at (GrantOf session ticket number) g = tt
  says_pushed cs es q at (AnswerOf session about job number p sum) g = tt

  module _ (t : Coming) (fresh : (at conn s place : ℕ) → role_at conn t.old.conns ≡ Some (Bound s) → O (record { at = at; says = ResetOf conn s place }))
      (granted : (at s ticket number : ℕ) → O (record { at = at; says = GrantOf s ticket number })) where
    abbrev Go : Sofar → Type 0
    Go b = TickGo lane_of O t b

    -- a Drop
    puts_go : (s : ℕ) (m : Down) (b : Sofar) → is_first m ≡ false → is_begun (lane_of s) ≡ true → Go b → Go (puts s m b)
    puts_go s m b plain learnt h = record {
      each = subst (λ (d : DataState). AllByRecursion (ReplyGo lane_of O d.conns d.order) d.replies) (sym (only_puts s m b).state) h.each;
      one = subst (λ (d : DataState). one_each d.replies ≡ true) (sym (only_puts s m b).state) h.one;
      frames = put (conn_of b.state s) (sent (window_of b.state s) + 1) (λ conn its. h.was conn s (bound_role s b.state.conns conn h.differ its));
      noted = subst (λ (d : DataState). AllByRecursion (λ y. is_begun (lane_of y.session) ≡ true) d.noted) (sym (only_puts s m b).state) h.noted;
      was = subst (λ (d : DataState). (i q : ℕ) → role_at i d.conns ≡ Some (Bound q) → role_at i t.old.conns ≡ Some (Bound q)) (sym (only_puts s m b).state) h.was;
      differ = subst (λ (d : DataState). Differ d.conns) (sym (only_puts s m b).state) h.differ;
    }
      where
        put : (o : Option ℕ) (n : ℕ) → ((conn : ℕ) → o ≡ Some conn → role_at conn t.old.conns ≡ Some (Bound s))
            → AllByRecursion (TickFrame lane_of t.old.conns) (tells_on s o n m (becomes (λ d. with_window s (with_sent (window_of d s) m) d) b)).outs.frames
        put None n bound = h.frames
        put (Some conn) n bound = all_joined (TickFrame lane_of t.old.conns) b.outs.frames (_ ∷ []) h.frames (record { session = s; was = bound conn refl; learnt = learnt; plain = plain }, tt)

    drops_go : (before : ℕ) (xs : List Noted) (b : Sofar) → AllByRecursion (λ y. is_begun (lane_of y.session) ≡ true) xs → Go b → Go (drops before xs b)
    drops_go before [] b learnt h = h
    drops_go before (n ∷ xs) b learnt h = drops_go before xs (drops_one before n xs b) learnt.1 (puts_go n.session _ b refl learnt.0 h)

    closed_go : (s : ℕ) (b : Sofar) → Go b → Go (appends (Closed s) b)
    closed_go s b h =
        drops_go (length b.state.order) (touched (spans_of b.state (Closed s)) b.state.noted) (becomes (with_entry (Closed s) (spans_of b.state (Closed s))) b)
        (all_filtered (λ (y : Noted). is_begun (lane_of y.session) ≡ true) (is_touched (spans_of b.state (Closed s))) b.state.noted h.noted) (record {
          each = all_follow (ReplyGo lane_of O b.state.conns b.state.order) (ReplyGo lane_of O b.state.conns (b.state.order ++ Closed s ∷ []))
              (λ r g. (g.0, says_pushed b.state.conns b.state.order s r.at r.says g.1)) b.state.replies h.each;
          one = h.one;
          frames = h.frames;
          noted = all_filtered (λ (y : Noted). is_begun (lane_of y.session) ≡ true) _ b.state.noted h.noted;
          was = h.was;
          differ = h.differ;
        })

    silent_go : (s : ℕ) (b : Sofar) → Go b → Go (becomes (silenced s) b)
    silent_go s b h = record {
      each = all_filtered (ReplyGo lane_of O b.state.conns b.state.order) (is_reply_elsewhere (says_to s)) b.state.replies h.each;
      one = one_fewer (is_reply_elsewhere (says_to s)) b.state.replies h.one;
      frames = h.frames;
      noted = all_filtered (λ (y : Noted). is_begun (lane_of y.session) ≡ true) (is_noted_elsewhere s) b.state.noted h.noted;
      was = h.was;
      differ = h.differ;
    }

    -- requests that go

    granted_go : (rs : List Request) (b : Sofar) → Go b → Go (grants rs b)
    granted_go [] b h = h
    granted_go (r ∷ rs) b h =
        granted_go rs (grants_one r b) (record {
          each = all_joined (ReplyGo lane_of O b.state.conns b.state.order) b.state.replies (record { at = length b.state.order; says = GrantOf r.who.session r.ticket (length b.state.order) } ∷ []) h.each
              ((granted (length b.state.order) r.who.session r.ticket (length b.state.order), tt), tt);
          one = one_beside b.state.replies (record { at = length b.state.order; says = GrantOf r.who.session r.ticket (length b.state.order) }) refl h.one;
          frames = h.frames;
          noted = h.noted;
          was = h.was;
          differ = h.differ;
        })

    cancelled_go : (rs : List Request) (b : Sofar) → Go b → Go (cancels rs b)
    cancelled_go [] b h = h
    cancelled_go (r ∷ rs) b h =
        cancelled_go rs (cancels_one r b)
        (granted_go f.grants (becomes (with_locks f.locks) b) (record { each = h.each; one = h.one; frames = h.frames; noted = h.noted; was = h.was; differ = h.differ }))
      where
        f : Freed
        f = without_request b.state.locks r.who.session r.ticket (length b.state.order)

    -- none waits for a connection that none waited for
    grants_none : (conn : ℕ) (rs : List Request) (b : Sofar) → waits_for conn b.state.replies ≡ false → waits_for conn (grants rs b).state.replies ≡ false
    grants_none conn [] b none = none
    grants_none conn (r ∷ rs) b none =
        grants_none conn rs (grants_one r b) (waits_beside conn b.state.replies (record { at = length b.state.order; says = GrantOf r.who.session r.ticket (length b.state.order) }) refl none)

    cancels_none : (conn : ℕ) (rs : List Request) (b : Sofar) → waits_for conn b.state.replies ≡ false → waits_for conn (cancels rs b).state.replies ≡ false
    cancels_none conn [] b none = none
    cancels_none conn (r ∷ rs) b none =
        cancels_none conn rs (cancels_one r b)
        (grants_none conn (without_request b.state.locks r.who.session r.ticket (length b.state.order)).grants (becomes (with_locks (without_request b.state.locks r.who.session r.ticket (length b.state.order)).locks) b) none)

    cancels_kept : (rs : List Request) (b : Sofar) → ((cancels rs b).state.conns ≡ b.state.conns) × ((cancels rs b).state.order ≡ b.state.order)
    cancels_kept rs b = (ap (λ (d : DataState). d.conns) (only_cancels rs b).state, ap (λ (d : DataState). d.order) (only_cancels rs b).state)

    -- a connection that awaits its Reset
    reset_go : (conn s at : ℕ) (b : Sofar) → role_at conn b.state.conns ≡ Some (Bound s) → is_some (find (is_conn conn) b.state.conns) ≡ true → entry_at b.state.order at ≡ Some (Closed s)
        → waits_for conn b.state.replies ≡ false → Go b → Go (waits_for_reset (Some conn) s at b)
    reset_go conn s at b role there closed none h = record {
      each = all_joined (ReplyGo lane_of O (map (with_role_if conn (Closing s)) b.state.conns) b.state.order) b.state.replies (record { at = at; says = ResetOf conn s at } ∷ [])
          (each_apart conn (Closing s) b.state.conns b.state.order b.state.replies none h.each)
          ((fresh at conn s at (h.was conn s role), record { until = refl; closing = role_given conn (Closing s) b.state.conns there; closed = closed }), tt);
      one = one_more conn b.state.replies (record { at = at; says = ResetOf conn s at }) refl none h.one;
      frames = h.frames;
      noted = h.noted;
      was = λ m q is. before m q (role_set conn m (Closing s) (Bound q) b.state.conns is);
      differ = differ_role conn (Closing s) b.state.conns h.differ;
    }
      where
        before : (m q : ℕ) → ((m ≡ conn) × (Bound q ≡ Closing s)) ⊎ ((m ≢ conn) × (role_at m b.state.conns ≡ Some (Bound q))) → role_at m t.old.conns ≡ Some (Bound q)
        before m q (inl here) = absurd (let other : Bound q ≡ Closing s = here.1 in cc)
        before m q (inr is) = h.was m q is.1

    closes_go : (s : ℕ) (cause : ShutCause) (b : Sofar) → ((o : Option ℕ) (at : ℕ) (c : Sofar) → turns_away cause o s at c ≡ waits_for_reset o s at c) → Go b → Go (closes s cause b)
    closes_go s cause b turns h =
        subst Go (sym (turns (conn_of b.state s) (length b.state.order + 1) (cancels_all s closed))) (go (conn_of b.state s) refl)
      where
        silent : Sofar
        silent = becomes (silenced s) (writes (act.Shut b.state.server s cause) b)

        closed : Sofar
        closed = becomes (unawaited s) (appends (Closed s) silent)

        a : Go (appends (Closed s) silent)
        a = closed_go s silent (silent_go s (writes (act.Shut b.state.server s cause) b) (record { each = h.each; one = h.one; frames = h.frames; noted = h.noted; was = h.was; differ = h.differ }))

        now_closed : Go closed
        now_closed = record { each = a.each; one = a.one; frames = a.frames; noted = a.noted; was = a.was; differ = a.differ }

        rs : List Request
        rs = reverse (filter (is_request_of s) closed.state.locks.requests)

        same_replies : closed.state.replies ≡ filter (is_reply_elsewhere (says_to s)) b.state.replies
        same_replies = ap (λ (d : DataState). d.replies) (appends_state (Closed s) silent).state

        same_conns : (cancels_all s closed).state.conns ≡ b.state.conns
        same_conns = (cancels_kept rs closed).0 ∙ ap (λ (d : DataState). d.conns) (appends_state (Closed s) silent).state

        same_order : (cancels_all s closed).state.order ≡ b.state.order ++ Closed s ∷ []
        same_order = (cancels_kept rs closed).1 ∙ ap (λ (d : DataState). d.order) (appends_state (Closed s) silent).state

        go : (o : Option ℕ) → conn_of b.state s ≡ o → Go (waits_for_reset o s (length b.state.order + 1) (cancels_all s closed))
        go None its = cancelled_go rs closed now_closed
        go (Some conn) its =
            reset_go conn s (length b.state.order + 1) (cancels_all s closed) (ap (role_at conn) same_conns ∙ role)
            (ap (λ (cs : List Conn). is_some (find (is_conn conn) cs)) same_conns ∙ conn_there s b.state.conns conn its)
            (ap (λ (es : List Entry). entry_at es (length b.state.order + 1)) same_order ∙ entry_last b.state.order (Closed s) (length b.state.order + 1) refl) none (cancelled_go rs closed now_closed)
          where
            role : role_at conn b.state.conns ≡ Some (Bound s)
            role = bound_role s b.state.conns conn h.differ its

            none : waits_for conn (cancels_all s closed).state.replies ≡ false
            none = cancels_none conn rs closed (ap (waits_for conn) same_replies ∙ none_left conn s b.state.conns b.state.order b.state.replies role h.each)

    -- the tick

    turn_of : (x : DataLink) (now s : ℕ) (o : Option ℕ) (at : ℕ) (c : Sofar) → turns_away (cause_of x now) o s at c ≡ waits_for_reset o s at c
    turn_of Free now s o at c = refl
    turn_of Normal now s o at c = refl
    turn_of (Trouble broke) now s o at c = refl
    turn_of (Recovering due) now s o at c = refl

    late_go : (late : Bool) (s now : ℕ) (x : DataLink) (b : Sofar) → Go b → Go (closes_late late s now (cause_of x now) b)
    late_go true s now x b h = closes_go s (cause_of x now) b (turn_of x now s) h
    late_go false s now x b h = h

    end_go : (hears : Bool) (app s now : ℕ) (b : Sofar) → Go b → Go (ticks_end hears app s now b)
    end_go true app s now b h = by (late_go (is_free (data_next b.state.times now (link_of b.state app) event.Ticked)) s now (link_of b.state app) b h)
      where
        c : Sofar
        c = closes_late (is_free (data_next b.state.times now (link_of b.state app) event.Ticked)) s now (cause_of (link_of b.state app) now) b

        by : Go c → Go (becomes (with_event app now event.Ticked) c)
        by g = record { each = g.each; one = g.one; frames = g.frames; noted = g.noted; was = g.was; differ = g.differ }
    end_go false app s now b h = h

    pub ticks_go : (xs : List LiveEnd) (now : ℕ) (b : Sofar) → Go b → Go (ticks xs now b)
    ticks_go [] now b h = h
    ticks_go (y ∷ xs) now b h = ticks_go xs now (ticks_one y now b) (end_go (hears_tick (link_of b.state y.app) (is_awaited b.state y.session)) y.app y.session now b h)
