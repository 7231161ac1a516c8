-- Over each small change of a data server's step the connection of a live session keeps what the session is given, or it goes before
-- anything is put on it, and then nothing is.
use Rattle.std.proofs.Common.{◌≡◌, ◌≢◌, ◌≤◌, ◌⊎◌, inl, inr, ◌+◌, ℕ, Bool, true, false, List, [], ◌∷◌, ◌++◌, length, filter, map, Option, Some, None, is_some, option_map, refl, sym, ◌∙◌, ap, subst, arith}
use Rattle.std.specs.Prelude.{not}
use Rattle.std.specs.List.{AllByRecursion, find}
use Rattle.std.proofs.lemmas.Bool.{eq-eqb, false≢true, ne_eqb, true≢false}
use Rattle.plain_orders.specs.declared.act.Act.TheVariants as act
use Rattle.plain_orders.specs.declared.causes.ShutCause.{ShutCause}
use Rattle.plain_orders.specs.declared.causes.ShutCause.TheVariants.{Trouble, Replaced, Round}
use Rattle.plain_orders.specs.declared.entry.Entry.{Entry}
use Rattle.plain_orders.specs.declared.entry.Entry.TheVariants.{Opened as OpenEntry, Closed}
use Rattle.plain_orders.specs.declared.layout.Layout.{Layout}
use Rattle.plain_orders.specs.Entries.{live}
use Rattle.plain_runs.specs.Plain.{Plain}
use Rattle.ecp_messages.specs.declared.down.Down.{Down}
use Rattle.ecp_messages.specs.declared.down.Down.TheVariants as down
use Rattle.cluster_invariant.specs.Link.{is_numbered_down}
use Rattle.cluster_invariant.specs.Words.{is_normal_down}
use Rattle.ecp_messages.specs.declared.up.UpFrame.{UpFrame}
use Rattle.end_words.specs.Windows.{Window, fresh, with_ack, with_taken}
use Rattle.block_holders.specs.declared.noted.Noted.{Noted}
use Rattle.block_holders.specs.HolderWords.{forgotten, is_noted_elsewhere, is_touched, touched}
use Rattle.data_rules.specs.declared.data_in.DataIn.TheVariants as data_in
use Rattle.data_rules.specs.declared.rows.Caller.{Caller}
use Rattle.data_rules.specs.declared.rows.Conn.{Conn}
use Rattle.data_rules.specs.declared.rows.Reply.{Reply}
use Rattle.data_rules.specs.declared.rows.Role.{Role}
use Rattle.data_rules.specs.declared.rows.Role.TheVariants.{New, Waiting, Bound, Closing}
use Rattle.data_rules.specs.declared.rows.Says.{Says}
use Rattle.data_rules.specs.DataState.{DataState, SessionWindow}
use Rattle.data_rules.specs.Callers.{resumed, waiting_conn}
use Rattle.data_rules.specs.Closing.{silenced}
use Rattle.data_rules.specs.Conns.{breaks_if, drops_conn, end_breaks, is_conn, is_normal, is_other_conn, link_of, role_in, role_of, with_event, with_role_if, without_conn}
use Rattle.data_rules.specs.Entering.{appends, enters, spans_of}
use Rattle.data_rules.specs.Frames.{acknowledged, took}
use Rattle.data_rules.specs.Leaving.{leaves}
use Rattle.data_rules.specs.Opening.{live_ends, opens}
use Rattle.data_rules.specs.Puts.{Sofar, becomes, conn_of, head_of, is_reply_elsewhere, puts, says_on, says_to, set_window, tells, window_in, window_of, with_window, writes}
use Rattle.cluster_runs.specs.Sent.{Lane}
use Rattle.cluster_invariant.proofs.AllLists.{all_filtered, all_follow, all_passed}
use Rattle.cluster_invariant.proofs.ConnRoles.{bound_role, dropped, dropped_conns, new_stays, other_stays}
use Rattle.cluster_invariant.proofs.PieceKinds.{Ending, Piece, Accepts, Forgets, Breaks, Dials, Waits, Opens, OpensNext, Resumes, GoesOn, ComesAgain, AwaitsReset, Closes, Acknowledges, Takes, TakesDone, Enters, Fetches, PutsNormal, PutsAck, Replies, Leaves, Bares, Locks, RoundEnds, Ticks, calls, closing_on, cuts_if, event_of, makes, next_caller, parts_from, round_over, with_close, with_replies}
use Rattle.cluster_invariant.proofs.PieceMay.{AcknowledgesMay, ClosesBy, Coming, TakesMay, begins}
use Rattle.cluster_invariant.proofs.Pieces.{MayMake}
use Rattle.cluster_invariant.proofs.PiecesOfRounds.{back_written, ends_aside}
use Rattle.cluster_invariant.proofs.PutLaws.{appends_state}
use Rattle.data_pieces.proofs.CallerPieces.{waiting_role}
use Rattle.data_pieces.proofs.CallersGo.{CallersOf, role_other}
use Rattle.data_pieces.proofs.ConnLists.{Differ, conn_for, role_at}
use Rattle.data_pieces.proofs.ConnPieces.{differ_dropped, role_gone}
use Rattle.data_pieces.proofs.EndsPieces.{some_role}
use Rattle.data_pieces.proofs.QuietPieces.{quiet_calls}
use Rattle.data_puts.proofs.SpokenAlong.{Along}
use Rattle.data_puts.proofs.SpokenPieces.{begins_frames}
use Rattle.link_kept.proofs.ServesServer.{live_within}
use Rattle.link_kept.proofs.WindowLists.{gone_elsewhere}
use Rattle.link_kept.proofs.WindowPieces.{SameWindows, item_still, same_breaks, same_calls, same_cuts, same_drops, same_parts, same_round}
use Rattle.link_kept.proofs.WindowsGo.{open_live, other_live, same_or, still_live}
use Rattle.link_downs.proofs.BoundConn.{ConnsFor, conns_dropped, conns_gone, conns_more, conns_role, conns_same, conns_then, keeps_goes_on, keeps_leaves, none_waits, steady_by, steady_tells}
use Rattle.link_downs.proofs.BoundPuts.{Keeping, Keeps, Steady, keeping_same, keeping_set, keeps_acked, keeps_appends, keeps_bare, keeps_puts, keeps_steady, others_apart}
use Rattle.link_downs.proofs.OffConn.{Ended, Off, is_off, broke, forgot, off_piece, off_replies}
use Rattle.link_downs.proofs.OnConn.{Beside, HasOther, beside_appends, beside_calls, beside_round, put_on, waiting_on, waits_gone, waits_left, waits_there}

-- Its connection keeps what it is given, or is none of a live session's and nothing was put on it.
abbrev pub Stands : Lane → ℕ → ℕ → Bool → Sofar → Type 0
Stands lane q s in_round b = Keeps lane q s in_round b ⊎ Off q false None b

-- what a connection that is dropped leaves of what was put
dropped_frames : (o : Option ℕ) (b : Sofar) → (drops_conn o b).outs.frames ≡ b.outs.frames
dropped_frames None b = refl
dropped_frames (Some n) b = refl

dropped_waits : (q : ℕ) (o : Option ℕ) (b : Sofar) → waiting_on q b.state.replies ≡ [] → waiting_on q (drops_conn o b).state.replies ≡ []
dropped_waits q None b none = none
dropped_waits q (Some n) b none = waits_left q (is_reply_elsewhere (says_on n)) b.state.replies ∙ ap (filter (is_reply_elsewhere (says_on n))) none

-- what a Close makes of the connections
pub parts_conns : (s : ℕ) (cause : ShutCause) (o : Option ℕ) (r : ℕ) (b : Sofar) → Differ b.state.conns → ((n : ℕ) → o ≡ Some n → (role_at n b.state.conns ≡ Some (Bound r)))
    → r ≢ s → ConnsFor s b.state.conns (parts_from cause o r b).state.conns
parts_conns s cause o r b differ has apart = go cause
  where
    other : (n : ℕ) → o ≡ Some n → role_at n b.state.conns ≡ Some (Bound s) → ⊥
    other n its role = one (sym (has n its) ∙ role)
      where
        one : Some (Bound r) ≡ Some (Bound s) → ⊥
        one same = apart cc

    closing : (p : Option ℕ) → o ≡ p → ConnsFor s b.state.conns (closing_on p r b).state.conns
    closing None its = conns_same s b.state.conns b.state.conns refl
    closing (Some n) its = conns_role s n (Closing r) b.state.conns differ (other n its) (λ same. absurd cc) (some_role (find (is_conn n) b.state.conns) (Bound r) (has n its))

    dropping : ConnsFor s b.state.conns (drops_conn o b).state.conns
    dropping = subst (λ (cs : List Conn). ConnsFor s b.state.conns cs) (sym (dropped_conns o b)) (conns_dropped s o b.state.conns differ other)

    go : (c : ShutCause) → ConnsFor s b.state.conns (parts_from c o r b).state.conns
    go (Trouble time) = closing o refl
    go Replaced = dropping
    go (Round time) = closing o refl

parts_waits : (q : ℕ) (cause : ShutCause) (o : Option ℕ) (r : ℕ) (b : Sofar) → waiting_on q b.state.replies ≡ [] → waiting_on q (parts_from cause o r b).state.replies ≡ []
parts_waits q cause o r b none = go cause
  where
    closing : (p : Option ℕ) → waiting_on q (closing_on p r b).state.replies ≡ []
    closing None = none
    closing (Some n) = none

    go : (c : ShutCause) → waiting_on q (parts_from c o r b).state.replies ≡ []
    go (Trouble time) = closing o
    go Replaced = dropped_waits q o b none
    go (Round time) = closing o

parts_frames : (cause : ShutCause) (o : Option ℕ) (r : ℕ) (b : Sofar) → (parts_from cause o r b).outs.frames ≡ b.outs.frames
parts_frames cause o r b = go cause
  where
    closing : (p : Option ℕ) → (closing_on p r b).outs.frames ≡ b.outs.frames
    closing None = refl
    closing (Some n) = refl

    go : (c : ShutCause) → (parts_from c o r b).outs.frames ≡ b.outs.frames
    go (Trouble time) = closing o
    go Replaced = dropped_frames o b
    go (Round time) = closing o

module _ (l : Layout) (p : Plain) (d k : ℕ) (t : Coming) (W : Caller → Type 0) (lane : Lane) (q s : ℕ) (within : lane.down_taken ≤ length lane.down)
    (no_tick : t.input ≡ data_in.Tick → ⊥) (no_conn : t.input ≡ data_in.Connected q → ⊥) (was : role_of t.old q ≡ Some (Bound s))
    (acked : (conn : ℕ) (f : UpFrame) (b : Sofar) → AcknowledgesMay t conn s f b → f.ack ≤ lane.down_taken)
    (taken : (conn : ℕ) (f : UpFrame) (b : Sofar) → TakesMay t conn s f b → f.ack ≤ lane.down_taken) where
  abbrev in_round : Bool
  in_round = is_some t.old.round

  abbrev Kept : Sofar → Type 0
  Kept b = Keeps lane q s in_round b

  abbrev At : Sofar → Type 0
  At b = Stands lane q s in_round b

  module _ (b : Sofar) (along : Along l p d k t W b) (h : Kept b) where
    differ : Differ b.state.conns
    differ = along.ends.links.differ

    role_q : role_of b.state q ≡ Some (Bound s)
    role_q = bound_role s b.state.conns q differ h.its

    -- another connection isn't the session's
    none_at : (n : ℕ) → n ≢ q → role_at n b.state.conns ≡ Some (Bound s) → ⊥
    none_at n apart role = apart (h.only n role)

    apart_of : (r : Role) (n : ℕ) → (r ≡ Bound s → ⊥) → role_of b.state n ≡ Some r → n ≢ q
    apart_of r n other role same = other (one (sym role ∙ ap (role_of b.state) same ∙ role_q))
      where
        one : Some r ≡ Some (Bound s) → r ≡ Bound s
        one is = cc

    new_apart : (n : ℕ) → role_of b.state n ≡ Some New → n ≢ q
    new_apart n role = apart_of New n (λ same. absurd cc) role

    stays : (c : Sofar) → Steady q s b c → At c
    stays c x = inl (keeps_steady lane q s in_round b c x h)

    off_now : (c : Sofar) → role_of c.state q ≡ None → put_on q c.outs.frames ≡ [] → waiting_on q c.state.replies ≡ [] → At c
    off_now c role silent none = inr (record { off = ap (is_off false) role; put = inl (silent, inl none) })

    -- an end of a connection
    ends_at : (n : ℕ) (c : Sofar) → b ≡ begins t → Ended n b c → c.state.order ≡ b.state.order → c.state.windows ≡ b.state.windows → At c
    ends_at n c first ended order windows = or (same_or n q)
      where
        or : (n ≡ q) ⊎ (n ≢ q) → At c
        or (inl same) =
            off_now c
            (ap (role_at q) ended.conns ∙ ap (λ (i : ℕ). role_at q (without_conn i b.state).conns) same ∙ role_gone q b.state.conns)
            (ap (put_on q) (ended.frames ∙ ap (λ (e : Sofar). e.outs.frames) first ∙ begins_frames t.old t.now t.input))
            (ap (waiting_on q) ended.replies ∙ ap (λ (i : ℕ). waiting_on q (without_conn i b.state).replies) same ∙ waits_gone q b.state)
        or (inr apart) =
            stays c
            (steady_by q s b c (subst (λ (cs : List Conn). ConnsFor s b.state.conns cs) (sym ended.conns) (conns_gone s n b.state.conns differ (none_at n apart)))
            (λ lives. ap (λ (es : List Entry). live es s) order ∙ lives)
            (keeping_same (window_of b.state s) (window_of c.state s) (ap (λ (ws : List SessionWindow). window_in ws s) windows))
            (ap (put_on q) ended.frames)
            (λ quiet. ap (waiting_on q) ended.replies ∙ waits_left q (is_reply_elsewhere (says_on n)) b.state.replies ∙ ap (filter (is_reply_elsewhere (says_on n))) quiet))

    -- a session opens on another connection
    opens_at : (app conn : ℕ) (r : Role) → (r ≡ Bound s → ⊥) → role_of b.state conn ≡ Some r → (c : Sofar) → c.state.conns ≡ b.state.conns → c.state.order ≡ b.state.order → Kept c → At (opens app conn t.now c)
    opens_at app conn r other role c conns order hc = inl (keeps_steady lane q s in_round e (opens app conn t.now c) after entered)
      where
        n : ℕ
        n = length c.state.order + 1

        apart : conn ≢ q
        apart = apart_of r conn other role

        z : Sofar
        z = writes (act.Enter c.state.server (OpenEntry n app)) c

        e : Sofar
        e = enters (OpenEntry n app) c

        differ_c : Differ c.state.conns
        differ_c = subst Differ (sym conns) differ

        entered : Kept e
        entered =
            keeps_appends lane q s in_round within (OpenEntry n app) z differ_c (open_live c.state.order n app s hc.lives)
            (record { its = hc.its; only = hc.only; lives = hc.lives; given = hc.given; acked = hc.acked; waiting = hc.waiting; taken = hc.taken; put = hc.put; normal = hc.normal; quiet = hc.quiet })

        conns_e : e.state.conns ≡ b.state.conns
        conns_e = ap (λ (x : DataState). x.conns) (appends_state (OpenEntry n app) z).state ∙ conns

        low : s ≤ length c.state.order
        low = subst (λ (es : List Entry). s ≤ length es) (sym order) (live_within b.state.order along.ends.links.ordered s h.lives)

        newer : n ≢ s
        newer same = absurd (omega (arith, same, low))

        after : Steady q s e (opens app conn t.now c)
        after =
            steady_by q s e (opens app conn t.now c)
            (subst (λ (cs : List Conn). ConnsFor s cs (map (with_role_if conn (Bound n)) cs)) (sym conns_e)
            (conns_role s conn (Bound n) b.state.conns differ (none_at conn apart) (λ same. newer (one same)) (some_role (find (is_conn conn) b.state.conns) r role)))
            (λ lives. lives)
            (keeping_set e.state.windows n s fresh (λ same. absurd (newer same))) refl
            (λ quiet. waits_there q e.state.replies _ (ne_eqb conn q apart) ∙ quiet)
          where
            one : Bound n ≡ Bound s → n ≡ s
            one same = cc

    -- the session's own Close, for a newer Hello
    shut_here : (app : ℕ) (cause : ShutCause) → ClosesBy t s app cause b → At (makes t.now (Closes s app cause) b)
    shut_here app (Trouble time) why = absurd (no_tick why.came)
    shut_here app (Round time) why = absurd (no_tick why.came)
    shut_here app Replaced why = go (conn_of b.state s) h.its
      where
        z : Sofar
        z = becomes (silenced s) (writes (act.Shut b.state.server s Replaced) b)

        w : Sofar
        w = with_close s Replaced b

        not_own : (y : Noted) → is_noted_elsewhere s y ≡ true → HasOther q b.state.conns y.session
        not_own y is = others_apart lane q s in_round within y.session b.state.conns differ h.its (λ same. false≢true (sym (ap not (eq-eqb y.session s same)) ∙ is))

        beside : Beside q z (appends (Closed s) z)
        beside =
            beside_appends q (Closed s) z
            (all_filtered (λ (y : Noted). HasOther q b.state.conns y.session) (is_touched (spans_of z.state (Closed s))) z.state.noted
            (all_follow (λ (y : Noted). is_noted_elsewhere s y ≡ true) (λ (y : Noted). HasOther q b.state.conns y.session) not_own z.state.noted (all_passed (is_noted_elsewhere s) b.state.noted)))

        silent : put_on q w.outs.frames ≡ []
        silent = beside.put ∙ ap (put_on q) why.unput

        go : (o : Option ℕ) → o ≡ Some q → At (becomes (with_event app t.now (event_of Replaced)) (parts_from Replaced o s w))
        go None its = absurd cc
        go (Some n) its =
            subst (λ (i : ℕ). At (becomes (with_event app t.now (event_of Replaced)) (parts_from Replaced (Some i) s w))) (sym (one its))
            (off_now (becomes (with_event app t.now (event_of Replaced)) (parts_from Replaced (Some q) s w)) (role_gone q w.state.conns) silent (waits_gone q w.state))
          where
            one : Some n ≡ Some q → n ≡ q
            one same = cc

    -- another session's
    shut_other : (r app : ℕ) (cause : ShutCause) → r ≢ s → At (makes t.now (Closes r app cause) b)
    shut_other r app cause apart = inl (keeps_steady lane q s in_round w (makes t.now (Closes r app cause) b) after at_close)
      where
        z : Sofar
        z = becomes (silenced r) (writes (act.Shut b.state.server r cause) b)

        w : Sofar
        w = with_close r cause b

        quieted : Kept z
        quieted =
            keeps_steady lane q s in_round b z
            (steady_by q s b z (conns_same s b.state.conns b.state.conns refl) (λ lives. lives)
            (keeping_same (window_of b.state s) (window_of z.state s) (gone_elsewhere b.state.windows r s (λ same. apart (sym same)))) refl
            (λ quiet. waits_left q (is_reply_elsewhere (says_to r)) b.state.replies ∙ ap (filter (is_reply_elsewhere (says_to r))) quiet)) h

        entered : Kept (appends (Closed r) z)
        entered = keeps_appends lane q s in_round within (Closed r) z differ (other_live b.state.order r s (λ same. apart (sym same)) h.lives) quieted

        at_close : Kept w
        at_close = record {
          its = entered.its;
          only = entered.only;
          lives = entered.lives;
          given = entered.given;
          acked = entered.acked;
          waiting = entered.waiting;
          taken = entered.taken;
          put = entered.put;
          normal = entered.normal;
          quiet = entered.quiet;
        }

        conns_w : w.state.conns ≡ b.state.conns
        conns_w = ap (λ (x : DataState). x.conns) (appends_state (Closed r) z).state

        same : SameWindows w (parts_from cause (conn_of b.state r) r w)
        same = same_parts cause (conn_of b.state r) r w

        after : Steady q s w (makes t.now (Closes r app cause) b)
        after =
            steady_by q s w (makes t.now (Closes r app cause) b)
            (parts_conns s cause (conn_of b.state r) r w (subst Differ (sym conns_w) differ)
            (λ n its. ap (role_at n) conns_w ∙ bound_role r b.state.conns n differ its) apart)
            (λ lives. ap (λ (es : List Entry). live es s) same.order ∙ lives)
            (keeping_same (window_of w.state s) (window_of (makes t.now (Closes r app cause) b).state s) (ap (λ (ws : List SessionWindow). window_in ws s) same.windows))
            (ap (put_on q) (parts_frames cause (conn_of b.state r) r w))
            (parts_waits q cause (conn_of b.state r) r w)

    -- its windows
    acknowledged_at : (conn r : ℕ) (f : UpFrame) → AcknowledgesMay t conn r f b → At (acknowledged r f.ack b)
    acknowledged_at conn r f m = go (same_or r s)
      where
        go : (r ≡ s) ⊎ (r ≢ s) → At (acknowledged r f.ack b)
        go (inl same) =
            subst (λ (n : ℕ). At (acknowledged n f.ack b)) (sym same)
            (inl (keeps_acked lane q s in_round within (with_ack (window_of b.state s) f.ack) f.ack b
            (acked conn f b (subst (λ (n : ℕ). AcknowledgesMay t conn n f b) same m)) refl refl (omega arith) h))
        go (inr apart) =
            stays (acknowledged r f.ack b)
            (steady_by q s b (acknowledged r f.ack b) (conns_same s b.state.conns b.state.conns refl) (λ lives. lives)
            (keeping_set b.state.windows r s (with_ack (window_in b.state.windows r) f.ack) (λ same. absurd (apart same))) refl (λ quiet. quiet))

    took_at : (conn r : ℕ) (f : UpFrame) → TakesMay t conn r f b → Kept (took r f.ack b)
    took_at conn r f m = go (same_or r s)
      where
        go : (r ≡ s) ⊎ (r ≢ s) → Kept (took r f.ack b)
        go (inl same) =
            subst (λ (n : ℕ). Kept (took n f.ack b)) (sym same)
            (keeps_acked lane q s in_round within (with_taken (window_of b.state s) f.ack) f.ack b
            (taken conn f b (subst (λ (n : ℕ). TakesMay t conn n f b) same m)) refl refl (omega arith) h)
        go (inr apart) =
            keeps_steady lane q s in_round b (took r f.ack b)
            (steady_by q s b (took r f.ack b) (conns_same s b.state.conns b.state.conns refl) (λ lives. lives)
            (keeping_set b.state.windows r s (with_taken (window_in b.state.windows r) f.ack) (λ same. absurd (apart same))) refl (λ quiet. quiet)) h

    -- as it is, in a state with the same conns, order, windows, frames and replies
    moved : (c : Sofar) → c.state.conns ≡ b.state.conns → c.state.order ≡ b.state.order → c.state.windows ≡ b.state.windows → put_on q c.outs.frames ≡ put_on q b.outs.frames
        → waiting_on q c.state.replies ≡ waiting_on q b.state.replies → At c
    moved c conns order windows put waits =
        stays c
        (steady_by q s b c (conns_same s b.state.conns c.state.conns conns) (λ lives. ap (λ (es : List Entry). live es s) order ∙ lives)
        (keeping_same (window_of b.state s) (window_of c.state s) (ap (λ (ws : List SessionWindow). window_in ws s) windows)) put (λ quiet. waits ∙ quiet))

  -- What each small change makes of it.
  pub stands_piece : (x : Piece) (b : Sofar) → MayMake t x b → Along l p d k t W b → At b → At (makes t.now x b)
  stands_piece x b may along (inr off) = inr (off_piece l p d k t W q false None (λ r is. absurd cc) no_tick no_conn x b may along off)
  stands_piece x b may along (inl h) = go x may
    where
      apart_from : (r : Role) (n : ℕ) → (r ≡ Bound s → ⊥) → role_of b.state n ≡ Some r → n ≢ q
      apart_from r n other role = apart_of b along h r n other role

      is_new : (n : ℕ) → role_of b.state n ≡ Some New → n ≢ q
      is_new n role = new_apart b along h n role

      -- a Recover comes on a connection that was new
      recovers : (n : ℕ) → role_of t.old n ≡ Some New → n ≢ q
      recovers n new same = (let both : Some New ≡ Some (Bound s) = sym new ∙ ap (role_of t.old) same ∙ was in absurd cc)

      differ_b : Differ b.state.conns
      differ_b = along.ends.links.differ

      put_to : (r : ℕ) (m : Down) → is_numbered_down m ≡ true → (is_normal_down m ≡ true → in_round ≡ true) → Kept (puts r m b)
      put_to r m is normal = keeps_puts lane q s in_round within r m b differ_b is normal h

      go : (y : Piece) → MayMake t y b → At (makes t.now y b)
      go (Accepts conn) m =
          stays b along h (makes t.now (Accepts conn) b)
          (steady_by q s b (makes t.now (Accepts conn) b) (conns_more s conn b.state.conns) (λ lives. lives) (keeping_same (window_of b.state s) (window_of b.state s) refl) refl (λ quiet. quiet))
      go (Forgets ending conn) m = ended (same_cuts ending conn (becomes (without_conn conn) b))
        where
          ended : SameWindows (becomes (without_conn conn) b) (makes t.now (Forgets ending conn) b) → At (makes t.now (Forgets ending conn) b)
          ended same = ends_at b along h conn (makes t.now (Forgets ending conn) b) m.first (forgot ending conn b) same.order same.windows
      go (Breaks ending conn session app) m =
          ended (same_breaks (is_normal (link_of (without_conn conn b.state) app)) app t.now (becomes (without_conn conn) b))
          (same_cuts ending conn (end_breaks (Some app) t.now (becomes (without_conn conn) b)))
        where
          ended : SameWindows (becomes (without_conn conn) b) (breaks_if (is_normal (link_of (without_conn conn b.state) app)) app t.now (becomes (without_conn conn) b))
              → SameWindows (end_breaks (Some app) t.now (becomes (without_conn conn) b)) (makes t.now (Breaks ending conn session app) b) → At (makes t.now (Breaks ending conn session app) b)
          ended first more =
              ends_at b along h conn (makes t.now (Breaks ending conn session app) b) m.first (broke ending app t.now conn b) (more.order ∙ first.order) (more.windows ∙ first.windows)
      go (Dials app dial) m = moved b along h (makes t.now (Dials app dial) b) refl refl refl refl refl
      go (Waits app conn) m = waits (same_drops (waiting_conn b.state app) b)
        where
          older : (n : ℕ) → waiting_conn b.state app ≡ Some n → role_at n b.state.conns ≡ Some (Bound s) → ⊥
          older n its role =
              (let both : Some Waiting ≡ Some (Bound s) = sym (waiting_role app n b.state.conns b.state.order b.state.callers along.ends.callers.each its) ∙ role in absurd cc)

          new_there : role_at conn (dropped (waiting_conn b.state app) b.state.conns) ≡ Some New
          new_there = waiting_new_stays (waiting_conn b.state app) refl
            where
              waiting_new_stays : (o : Option ℕ) → waiting_conn b.state app ≡ o → role_at conn (dropped o b.state.conns) ≡ Some New
              waiting_new_stays None its = m.is_new
              waiting_new_stays (Some n) its =
                  ap (option_map role_in)
                  (other_stays b.state.conns n conn
                  (λ same. (let both : Some New ≡ Some Waiting = sym m.is_new ∙ ap (role_of b.state) same ∙ waiting_role app n b.state.conns b.state.order b.state.callers along.ends.callers.each its in absurd cc)))
                  ∙ m.is_new

          conns : ConnsFor s b.state.conns (makes t.now (Waits app conn) b).state.conns
          conns =
              subst (λ (cs : List Conn). ConnsFor s b.state.conns (map (with_role_if conn Waiting) cs)) (sym (dropped_conns (waiting_conn b.state app) b))
              (conns_then s b.state.conns (dropped (waiting_conn b.state app) b.state.conns) (map (with_role_if conn Waiting) (dropped (waiting_conn b.state app) b.state.conns))
              (conns_dropped s (waiting_conn b.state app) b.state.conns differ_b older)
              (conns_role s conn Waiting (dropped (waiting_conn b.state app) b.state.conns) (differ_dropped (waiting_conn b.state app) b.state.conns differ_b)
              (λ role. (let both : Some New ≡ Some (Bound s) = sym new_there ∙ role in absurd cc)) (λ same. absurd cc)
              (some_role (find (is_conn conn) (dropped (waiting_conn b.state app) b.state.conns)) New new_there)))

          waits : SameWindows b (drops_conn (waiting_conn b.state app) b) → At (makes t.now (Waits app conn) b)
          waits same =
              stays b along h (makes t.now (Waits app conn) b)
              (steady_by q s b (makes t.now (Waits app conn) b) conns (λ lives. ap (λ (es : List Entry). live es s) same.order ∙ lives)
              (keeping_same (window_of b.state s) (window_of (makes t.now (Waits app conn) b).state s) (ap (λ (ws : List SessionWindow). window_in ws s) same.windows))
              (ap (put_on q) (dropped_frames (waiting_conn b.state app) b)) (λ quiet. dropped_waits q (waiting_conn b.state app) b quiet))
      go (Opens app conn) m = opens_at b along h app conn New (λ same. absurd cc) m.is_new b refl refl h
      go (OpensNext app conn) m =
          opens_at b along h app conn Waiting (λ same. absurd cc) waits (becomes next_caller b) refl refl
          (record { its = h.its; only = h.only; lives = h.lives; given = h.given; acked = h.acked; waiting = h.waiting; taken = h.taken; put = h.put; normal = h.normal; quiet = h.quiet })
        where
          waits : role_of b.state conn ≡ Some Waiting
          waits = (subst (λ (cs : List Caller). CallersOf b.state.conns b.state.order cs) m.next along.ends.callers).each.0.0
      go (Resumes app session conn) m = resumes (same_or session s) (same_drops (conn_of b.state session) b)
        where
          apart : conn ≢ q
          apart = is_new conn m.is_new

          off : (o : Option ℕ) → o ≡ Some q → At (becomes (resumed app s conn t.now) (drops_conn o b))
          off None its = absurd cc
          off (Some n) its =
              subst (λ (i : ℕ). At (becomes (resumed app s conn t.now) (drops_conn (Some i) b))) (sym (one its))
              (off_now b along h (becomes (resumed app s conn t.now) (drops_conn (Some q) b))
              (role_other conn q (Bound s) (filter (is_other_conn q) b.state.conns) (λ same. apart (sym same)) ∙ role_gone q b.state.conns) (ap (put_on q) m.unput) (waits_gone q b.state))
            where
              one : Some n ≡ Some q → n ≡ q
              one same = cc

          other : session ≢ s → (n : ℕ) → conn_of b.state session ≡ Some n → role_at n b.state.conns ≡ Some (Bound s) → ⊥
          other differs n its role = differs (one (sym (bound_role session b.state.conns n differ_b its) ∙ role))
            where
              one : Some (Bound session) ≡ Some (Bound s) → session ≡ s
              one same = cc

          new_there : role_at conn (dropped (conn_of b.state session) b.state.conns) ≡ Some New
          new_there = new_stays b.state session conn differ_b m.is_new

          conns : session ≢ s → ConnsFor s b.state.conns (makes t.now (Resumes app session conn) b).state.conns
          conns differs =
              subst (λ (cs : List Conn). ConnsFor s b.state.conns (map (with_role_if conn (Bound session)) cs)) (sym (dropped_conns (conn_of b.state session) b))
              (conns_then s b.state.conns (dropped (conn_of b.state session) b.state.conns) (map (with_role_if conn (Bound session)) (dropped (conn_of b.state session) b.state.conns))
              (conns_dropped s (conn_of b.state session) b.state.conns differ_b (other differs))
              (conns_role s conn (Bound session) (dropped (conn_of b.state session) b.state.conns) (differ_dropped (conn_of b.state session) b.state.conns differ_b)
              (λ role. (let both : Some New ≡ Some (Bound s) = sym new_there ∙ role in absurd cc)) (λ same. differs (one same))
              (some_role (find (is_conn conn) (dropped (conn_of b.state session) b.state.conns)) New new_there)))
            where
              one : Bound session ≡ Bound s → session ≡ s
              one same = cc

          resumes : (session ≡ s) ⊎ (session ≢ s) → SameWindows b (drops_conn (conn_of b.state session) b) → At (makes t.now (Resumes app session conn) b)
          resumes (inl same) windows = subst (λ (n : ℕ). At (makes t.now (Resumes app n conn) b)) (sym same) (off (conn_of b.state s) h.its)
          resumes (inr differs) windows =
              stays b along h (makes t.now (Resumes app session conn) b)
              (steady_by q s b (makes t.now (Resumes app session conn) b) (conns differs) (λ lives. ap (λ (es : List Entry). live es s) windows.order ∙ lives)
              (keeping_same (window_of b.state s) (window_of (makes t.now (Resumes app session conn) b).state s) (ap (λ (ws : List SessionWindow). window_in ws s) windows.windows))
              (ap (put_on q) (dropped_frames (conn_of b.state session) b)) (λ quiet. dropped_waits q (conn_of b.state session) b quiet))
      go (GoesOn session conn count) m = inl (keeps_goes_on lane q s in_round session conn count b (recovers conn m.came.firstly.was_new) h)
      go (ComesAgain session conn kept) m =
          stays b along h (makes t.now (ComesAgain session conn kept) b)
          (steady_by q s b (makes t.now (ComesAgain session conn kept) b) (conns_same s b.state.conns b.state.conns refl) (λ lives. lives)
          (keeping_set b.state.windows session s fresh (λ same. absurd (apart (h.only conn (subst (λ (n : ℕ). role_of b.state conn ≡ Some (Bound n)) same m.bound))))) refl
          (λ quiet. waits_there q b.state.replies _ (ne_eqb conn q apart) ∙ quiet))
        where
          apart : conn ≢ q
          apart = recovers conn m.came.firstly.was_new
      go (AwaitsReset session conn at) m =
          stays b along h (makes t.now (AwaitsReset session conn at) b)
          (steady_by q s b (makes t.now (AwaitsReset session conn at) b)
          (conns_role s conn (Closing session) b.state.conns differ_b (λ role. (let both : Some New ≡ Some (Bound s) = sym m.is_new ∙ role in absurd cc)) (λ same. absurd cc)
          (some_role (find (is_conn conn) b.state.conns) New m.is_new))
          (λ lives. lives) (keeping_same (window_of b.state s) (window_of b.state s) refl) refl (λ quiet. waits_there q b.state.replies _ (ne_eqb conn q (is_new conn m.is_new)) ∙ quiet))
      go (Closes session app cause) m = closes (same_or session s)
        where
          closes : (session ≡ s) ⊎ (session ≢ s) → At (makes t.now (Closes session app cause) b)
          closes (inl same) =
              subst (λ (n : ℕ). At (makes t.now (Closes n app cause) b)) (sym same)
              (shut_here b along h app cause (subst (λ (n : ℕ). ClosesBy t n app cause b) same m.why))
          closes (inr differs) = shut_other b along h session app cause differs
      go (Acknowledges conn session f) m = acknowledged_at b along h conn session f m
      go (Takes conn session f) m = inl (took_at b along h conn session f m)
      go (TakesDone conn session f) m = done (took_at b along h conn session f m.takes)
        where
          done : Kept (took session f.ack b) → At (makes t.now (TakesDone conn session f) b)
          done g = inl (record { its = g.its; only = g.only; lives = g.lives; given = g.given; acked = g.acked; waiting = g.waiting; taken = g.taken; put = g.put; normal = g.normal; quiet = g.quiet })
      go (Enters e) m =
          inl (keeps_appends lane q s in_round within e (writes (act.Enter b.state.server e) b) differ_b
          (still_live b.state.order e s (item_still m.session m.its.up.message e m.item) ∙ h.lives)
          (record { its = h.its; only = h.only; lives = h.lives; given = h.given; acked = h.acked; waiting = h.waiting; taken = h.taken; put = h.put; normal = h.normal; quiet = h.quiet }))
      go (Fetches session run block) m = noted (put_to session (down.Block (head_of b.state session) block) refl (λ normal. absurd (false≢true normal)))
        where
          noted : Kept (puts session (down.Block (head_of b.state session) block) b) → At (makes t.now (Fetches session run block) b)
          noted g = inl (record { its = g.its; only = g.only; lives = g.lives; given = g.given; acked = g.acked; waiting = g.waiting; taken = g.taken; put = g.put; normal = g.normal; quiet = g.quiet })
      go (PutsNormal app session) m = inl (put_to session (down.Normal (head_of b.state session)) refl (λ normal. m.in_round))
      go (PutsAck session) m = inl (put_to session (down.Ack (head_of b.state session)) refl (λ normal. absurd (false≢true normal)))
      go (Replies at says) m =
          moved b along h (makes t.now (Replies at says) b) refl refl refl refl (waits_there q b.state.replies _ (off_replies l p d k t W q false None (λ r is. absurd cc) no_tick no_conn at says b m))
      go (Leaves before r behind) m = leaving (none_waits q before r behind (sym (ap (waiting_on q) m.its) ∙ h.quiet))
        where
          leaving : (says_on q r.says ≡ false) × (waiting_on q (before ++ behind) ≡ []) → At (makes t.now (Leaves before r behind) b)
          leaving x =
              inl (keeps_leaves lane q s in_round r.says (becomes (with_replies (before ++ behind)) b) within differ_b x.0
              (record { its = h.its; only = h.only; lives = h.lives; given = h.given; acked = h.acked; waiting = h.waiting; taken = h.taken; put = h.put; normal = h.normal; quiet = x.1 }))
      go (Bares session conn) m = bares (same_or session s)
        where
          bares : (session ≡ s) ⊎ (session ≢ s) → At (makes t.now (Bares session conn) b)
          bares (inl same) =
              subst (λ (n : ℕ). At (tells n conn 0 down.Bare b)) (sym same)
              (subst (λ (n : ℕ). At (tells s n 0 down.Bare b)) (one (sym h.its ∙ ap (conn_of b.state) (sym same) ∙ m.its)) (inl (keeps_bare lane q s in_round within b h)))
            where
              one : Some q ≡ Some conn → q ≡ conn
              one is = cc
          bares (inr differs) =
              stays b along h (tells session conn 0 down.Bare b)
              (steady_tells q s session conn 0 down.Bare b
              (λ same. others_apart lane q s in_round within session b.state.conns differ_b h.its differs (m.its ∙ ap Some same)))
      go (Locks call) m = locks (beside_calls q call b) (same_calls call b)
        where
          locks : Beside q b (calls call b) → SameWindows b (calls call b) → At (makes t.now (Locks call) b)
          locks x same = moved b along h (calls call b) (quiet_calls call b).core.conns same.order same.windows x.put x.waits
      go RoundEnds m = round (beside_round q t.now b) (same_round (live_ends b.state.order) t.now b)
        where
          round : Beside q b (round_over t.now b) → SameWindows b (round_over t.now b) → At (makes t.now RoundEnds b)
          round x same = moved b along h (round_over t.now b) ((ends_aside (live_ends b.state.order) t.now).conns (back_written b)) same.order same.windows x.put x.waits
      go (Ticks app session) m = moved b along h (makes t.now (Ticks app session) b) refl refl refl refl refl
