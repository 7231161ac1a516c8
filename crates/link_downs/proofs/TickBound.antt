-- In the midst of a tick the connection of a live session keeps the Drops that the session is given, until the session is closed; then it
-- awaits the session's Reset, and nothing more is put on it.
use Rattle.std.proofs.Common.{◌≡◌, ◌≢◌, ◌≤◌, ◌⊎◌, inl, inr, ◌+◌, ℕ, Bool, true, false, if◌then◌else◌, List, [], ◌∷◌, ◌++◌, length, drop, filter, reverse, Option, Some, None, is_some, refl, sym, ◌∙◌, ap, subst, arith}
use Rattle.std.specs.Prelude.{◌==◌, not}
use Rattle.std.specs.List.{AllByRecursion, find, list_any}
use Rattle.std.proofs.lemmas.Bool.{eq-eqb, false≢true, ne_eqb}
use Rattle.std.proofs.lemmas.List.{append-nil, append_assoc, drop-append-le, length-append}
use Rattle.plain_orders.specs.declared.act.Act.TheVariants as act
use Rattle.plain_orders.specs.declared.causes.ShutCause.{ShutCause}
use Rattle.plain_orders.specs.declared.causes.ShutCause.TheVariants.{Round}
use Rattle.plain_orders.specs.declared.entry.Entry.{Entry}
use Rattle.plain_orders.specs.declared.entry.Entry.TheVariants.{Closed}
use Rattle.plain_orders.specs.Entries.{live}
use Rattle.plain_orders.proofs.EntryLemmas.{live-push}
use Rattle.subscript_keys.specs.declared.span.Span.{Span}
use Rattle.ecp_messages.specs.declared.down.Down.{Down}
use Rattle.ecp_messages.specs.declared.down.DownFrame.{DownFrame}
use Rattle.end_words.specs.Windows.{Window}
use Rattle.block_holders.specs.declared.noted.Noted.{Noted}
use Rattle.block_holders.specs.HolderWords.{forgotten, is_noted_elsewhere, is_touched, touched}
use Rattle.lock_table.specs.declared.rows.Request.{Request}
use Rattle.lock_table.specs.LockWords.{is_request_of}
use Rattle.data_rules.specs.declared.rows.Conn.{Conn}
use Rattle.data_rules.specs.declared.rows.Role.TheVariants.{Bound, Closing}
use Rattle.data_rules.specs.declared.rows.Says.TheVariants.{ResetOf}
use Rattle.data_rules.specs.DataState.{DataState, SessionWindow}
use Rattle.data_rules.specs.Closing.{cancels, cancels_all, closes, silenced, turns_away, unawaited, waits_for_reset}
use Rattle.data_rules.specs.Conns.{is_conn, role_of}
use Rattle.data_rules.specs.Entering.{appends, spans_of, with_entry as with_entry_at}
use Rattle.data_rules.specs.Puts.{Sofar, becomes, conn_of, is_reply_elsewhere, says_to, window_in, window_of, writes}
use Rattle.cluster_runs.specs.Lanes.{drops_until, notes_of}
use Rattle.cluster_runs.specs.Sent.{Lane}
use Rattle.cluster_runs.specs.WireDrops.{Notes, drops_of, is_met, is_unmet, with_entry}
use Rattle.cluster_invariant.specs.Link.{is_normal_frame}
use Rattle.cluster_invariant.proofs.AllLists.{all_filtered, all_follow, all_passed}
use Rattle.cluster_invariant.proofs.ConnRoles.{bound_role}
use Rattle.cluster_invariant.proofs.PiecesOfCloses.{conn_there, role_given}
use Rattle.cluster_invariant.proofs.PutLaws.{Appended, OnlyLocks, appends_state, only_cancels}
use Rattle.coherence_kept.proofs.ServerHeld.{spans_for}
use Rattle.coherence_server.proofs.SentWindows.{Sent, drops_sent, spans_forgotten, spans_touched, spans_untouched}
use Rattle.data_pieces.proofs.CallersGo.{role_other}
use Rattle.data_pieces.proofs.ConnLists.{Differ, differ_role, role_at}
use Rattle.data_puts.proofs.TakenSame.{taken_appends}
use Rattle.link_kept.proofs.WindowLists.{gone_elsewhere}
use Rattle.link_kept.proofs.WindowsGo.{other_live, same_or}
use Rattle.link_downs.proofs.BoundConn.{ConnsFor, conns_same, steady_by}
use Rattle.link_downs.proofs.BoundPieces.{parts_conns}
use Rattle.link_downs.proofs.BoundPuts.{Keeps, Steady, keeping_same, keeps_appends, keeps_steady, others_apart}
use Rattle.link_downs.proofs.NumberedPuts.{PutNext}
use Rattle.link_downs.proofs.OffConn.{all_each}
use Rattle.link_downs.proofs.TickLists.{beside_cancels, same_rest}
use Rattle.link_downs.proofs.OnConn.{Beside, HasOther, beside_appends, put_on, waiting_on, waits_left, waits_there}

module _ (old : DataState) (lane : Lane) (q s : ℕ) (in_round : Bool) (within : lane.down_taken ≤ length lane.down) where
  -- the Drops that the entries so far cause to it are those, and what follows causes more by what is noted now
  abbrev GivenSo : DataState → List Down → Type 0
  GivenSo n given = (es : List Entry) → drops_until s (notes_of old s) (drop (length old.order) (n.order ++ es)) ≡ given ++ drops_until s (notes_of n s) es

  -- it lives
  pub record Lives (b : Sofar) : Type 0 where
    pub keeps : Keeps lane q s in_round b
    pub differ : Differ b.state.conns
    pub count : (window_of b.state s).taken ≡ lane.up_taken
    pub so : GivenSo b.state keeps.given

  -- it was closed
  pub record Shut (b : Sofar) : Type 0 where
    pub closing : role_of b.state q ≡ Some (Closing s)
    pub differ : Differ b.state.conns
    pub dead : live b.state.order s ≡ false
    pub given : List Down
    pub put : PutNext (length lane.down) lane.up_taken (put_on q b.outs.frames) given
    pub normal : in_round ≡ false → list_any is_normal_frame (put_on q b.outs.frames) ≡ false
    pub so : (es : List Entry) → drops_until s (notes_of old s) (drop (length old.order) (b.state.order ++ es)) ≡ given

  abbrev pub TickAt : Sofar → Type 0
  TickAt b = Lives b ⊎ Shut b

  -- as it is, in a state with the same of it
  pub record SameOf (b c : Sofar) : Type 0 where
    pub conns : c.state.conns ≡ b.state.conns
    pub order : c.state.order ≡ b.state.order
    pub synced : c.state.synced ≡ b.state.synced
    pub noted : c.state.noted ≡ b.state.noted
    pub windows : c.state.windows ≡ b.state.windows
    pub put : put_on q c.outs.frames ≡ put_on q b.outs.frames
    pub waits : waiting_on q c.state.replies ≡ waiting_on q b.state.replies

  notes_same : (n k : DataState) → k.order ≡ n.order → k.synced ≡ n.synced → k.noted ≡ n.noted → notes_of k s ≡ notes_of n s
  notes_same n k order synced noted =
      ap (λ (es : List Entry). record { order = es; synced = k.synced; noted = spans_for s k.noted; due = []; saved = false; closed = false }) order
      ∙ ap (λ (i : ℕ). record { order = n.order; synced = i; noted = spans_for s k.noted; due = []; saved = false; closed = false }) synced
      ∙ ap (λ (xs : List Noted). record { order = n.order; synced = n.synced; noted = spans_for s xs; due = []; saved = false; closed = false }) noted

  so_same : (n k : DataState) (given : List Down) → k.order ≡ n.order → notes_of k s ≡ notes_of n s → GivenSo n given → GivenSo k given
  so_same n k given order notes so es =
      ap (λ (us : List Entry). drops_until s (notes_of old s) (drop (length old.order) (us ++ es))) order ∙ so es
      ∙ ap (λ (t : Notes). given ++ drops_until s t es) (sym notes)

  lives_same : (b c : Sofar) → SameOf b c → Lives b → Lives c
  unfolding keeps_steady
  lives_same b c same h = record {
    keeps =
        keeps_steady lane q s in_round b c
        (steady_by q s b c (conns_same s b.state.conns c.state.conns same.conns) (λ lives. ap (λ (es : List Entry). live es s) same.order ∙ lives)
        (keeping_same (window_of b.state s) (window_of c.state s) (ap (λ (ws : List SessionWindow). window_in ws s) same.windows)) same.put (λ quiet. same.waits ∙ quiet)) h.keeps;
    differ = subst Differ (sym same.conns) h.differ;
    count = ap (λ (ws : List SessionWindow). (window_in ws s).taken) same.windows ∙ h.count;
    so = so_same b.state c.state h.keeps.given same.order (notes_same b.state c.state same.order same.synced same.noted) h.so;
  }

  shut_same : (b c : Sofar) → SameOf b c → Shut b → Shut c
  shut_same b c same h = record {
    closing = ap (role_at q) same.conns ∙ h.closing;
    differ = subst Differ (sym same.conns) h.differ;
    dead = ap (λ (es : List Entry). live es s) same.order ∙ h.dead;
    given = h.given;
    put = subst (λ (fs : List DownFrame). PutNext (length lane.down) lane.up_taken fs h.given) (sym same.put) h.put;
    normal = λ out. ap (list_any is_normal_frame) same.put ∙ h.normal out;
    so = λ es. ap (λ (us : List Entry). drops_until s (notes_of old s) (drop (length old.order) (us ++ es))) same.order ∙ h.so es;
  }

  pub at_same : (b c : Sofar) → SameOf b c → TickAt b → TickAt c
  at_same b c same (inl h) = inl (lives_same b c same h)
  at_same b c same (inr h) = inr (shut_same b c same h)

  -- requests that go
  same_cancels : (rs : List Request) (b : Sofar) → SameOf b (cancels rs b)
  same_cancels rs b = go (only_cancels rs b) (beside_cancels q rs b)
    where
      go : OnlyLocks b (cancels rs b) → Beside q b (cancels rs b) → SameOf b (cancels rs b)
      go o x = record {
        conns = ap (λ (n : DataState). n.conns) o.state;
        order = ap (λ (n : DataState). n.order) o.state;
        synced = ap (λ (n : DataState). n.synced) o.state;
        noted = ap (λ (n : DataState). n.noted) o.state;
        windows = ap (λ (n : DataState). n.windows) o.state;
        put = x.put;
        waits = x.waits;
      }

  -- a Close enters

  module _ (r : ℕ) (cause : ShutCause) (b : Sofar) where
    abbrev silent : Sofar
    silent = becomes (silenced r) (writes (act.Shut b.state.server r cause) b)

    abbrev entered : Sofar
    entered = appends (Closed r) silent

    appended : Appended (Closed r) silent entered
    appended = appends_state (Closed r) silent

    conns_now : entered.state.conns ≡ b.state.conns
    conns_now = ap (λ (n : DataState). n.conns) appended.state

    order_now : entered.state.order ≡ b.state.order ++ Closed r ∷ []
    order_now = ap (λ (n : DataState). n.order) appended.state

    more_order : (es : List Entry) → entered.state.order ++ es ≡ b.state.order ++ (Closed r ∷ es)
    more_order es = ap (λ (us : List Entry). us ++ es) order_now ∙ append_assoc b.state.order (Closed r ∷ []) es

    -- another session's
    lives_other : r ≢ s → Lives b → Lives entered
    unfolding keeps_steady
    lives_other apart h = record { keeps = kept; differ = subst Differ (sym conns_now) h.differ; count = counted; so = so_now }
      where
        ts : List Span
        ts = spans_of silent.state (Closed r)

        quieted : Keeps lane q s in_round silent
        quieted =
            keeps_steady lane q s in_round b silent
            (steady_by q s b silent (conns_same s b.state.conns b.state.conns refl) (λ lives. lives)
            (keeping_same (window_of b.state s) (window_of silent.state s) (gone_elsewhere b.state.windows r s (λ same. apart (sym same)))) refl
            (λ quiet. waits_left q (is_reply_elsewhere (says_to r)) b.state.replies ∙ ap (filter (is_reply_elsewhere (says_to r))) quiet)) h.keeps

        kept : Keeps lane q s in_round entered
        kept = keeps_appends lane q s in_round within (Closed r) silent h.differ (other_live b.state.order r s (λ same. apart (sym same)) h.keeps.lives) quieted

        counted : (window_of entered.state s).taken ≡ lane.up_taken
        counted =
            taken_appends (Closed r) silent s
            ∙ ap (λ (u : Window Down). u.taken) (gone_elsewhere b.state.windows r s (λ same. apart (sym same))) ∙ h.count

        -- the Drops of the Close
        due : List Down
        due = (with_entry (notes_of b.state s) s (Closed r)).due

        same_spans : spans_for s (forgotten r b.state.noted) ≡ spans_for s b.state.noted
        same_spans = spans_forgotten r s b.state.noted (λ same. apart (sym same))

        sent_due : Sent (window_of silent.state s) (window_of entered.state s) due
        sent_due =
            subst (λ (l : List Span). Sent (window_of silent.state s) (window_of entered.state s) (drops_of b.state.order (b.state.order ++ Closed r ∷ []) b.state.synced s l))
            (spans_touched s ts (forgotten r b.state.noted) ∙ ap (filter (is_met ts)) same_spans)
            (drops_sent b.state.order (Closed r) s (touched ts silent.state.noted) (becomes (with_entry_at (Closed r) ts) silent) refl)

        given_more : kept.given ≡ h.keeps.given ++ due
        given_more =
            same_rest (window_of entered.state s).acked lane.down kept.given (h.keeps.given ++ due) (omega (arith, kept.acked, within))
            (sym kept.waiting ∙ sent_due.waiting ∙ ap (λ (ms : List Down). ms ++ due) quieted.waiting
            ∙ sym (drop-append-le (window_of silent.state s).acked (lane.down ++ quieted.given) due (omega (arith, quieted.acked, within, length-append lane.down quieted.given)))
            ∙ ap (drop (window_of silent.state s).acked) (append_assoc lane.down quieted.given due)
            ∙ ap (λ (n : ℕ). drop n (lane.down ++ (quieted.given ++ due))) (sym sent_due.acked))

        notes_now : notes_of entered.state s ≡ record (with_entry (notes_of b.state s) s (Closed r)) { due = [] }
        notes_now =
            notes_same (with_entry_at (Closed r) ts silent.state) entered.state (ap (λ (n : DataState). n.order) appended.state) (ap (λ (n : DataState). n.synced) appended.state)
            (ap (λ (n : DataState). n.noted) appended.state)
            ∙ ap (λ (l : List Span). record { order = b.state.order ++ Closed r ∷ []; synced = b.state.synced; noted = l; due = []; saved = false; closed = false })
            (spans_untouched s ts (forgotten r b.state.noted) ∙ ap (filter (is_unmet ts)) same_spans)

        so_now : GivenSo entered.state kept.given
        so_now es =
            ap (λ (us : List Entry). drops_until s (notes_of old s) (drop (length old.order) us)) (more_order es)
            ∙ h.so (Closed r ∷ es)
            ∙ ap (λ (c : Bool). h.keeps.given ++ (if c then [] else due ++ drops_until s (record (with_entry (notes_of b.state s) s (Closed r)) { due = [] }) es)) (ne_eqb r s apart)
            ∙ sym (append_assoc h.keeps.given due (drops_until s (record (with_entry (notes_of b.state s) s (Closed r)) { due = [] }) es))
            ∙ ap (λ (ms : List Down). ms ++ drops_until s (record (with_entry (notes_of b.state s) s (Closed r)) { due = [] }) es) (sym given_more)
            ∙ ap (λ (t : Notes). kept.given ++ drops_until s t es) (sym notes_now)

    -- as it enters, where none that is told of it has the connection
    beside_close : AllByRecursion (λ (y : Noted). HasOther q b.state.conns y.session) silent.state.noted → Beside q silent entered
    beside_close others =
        beside_appends q (Closed r) silent (all_filtered (λ (y : Noted). HasOther q b.state.conns y.session) (is_touched (spans_of silent.state (Closed r))) silent.state.noted others)

    -- behind it: the round no longer awaits the session, and its requests go
    abbrev behind : Sofar
    behind = cancels_all r (becomes (unawaited r) entered)

    same_behind : SameOf entered behind
    same_behind = go (same_cancels (reverse (filter (is_request_of r) (becomes (unawaited r) entered).state.locks.requests)) (becomes (unawaited r) entered))
      where
        go : SameOf (becomes (unawaited r) entered) behind → SameOf entered behind
        go x = record { conns = x.conns; order = x.order; synced = x.synced; noted = x.noted; windows = x.windows; put = x.put; waits = x.waits }

    conns_behind : behind.state.conns ≡ b.state.conns
    conns_behind = same_behind.conns ∙ conns_now

    -- the session that has a connection then had it before
    had : Differ b.state.conns → (n : ℕ) → conn_of b.state r ≡ Some n → role_of b.state n ≡ Some (Bound r)
    had differ n its = bound_role r b.state.conns n differ its

    -- where another session's connection is to await its Reset

    lives_resets : r ≢ s → Differ b.state.conns → role_of b.state q ≡ Some (Bound s) → Lives behind → (o : Option ℕ) → conn_of b.state r ≡ o
        → Lives (waits_for_reset o r (length b.state.order + 1) behind)
    unfolding keeps_steady
    lives_resets apart differ role h None its = h
    lives_resets apart differ role h (Some n) its = record {
      keeps = keeps_steady lane q s in_round behind c after h.keeps;
      differ = differ_role n (Closing r) behind.state.conns h.differ;
      count = h.count;
      so = h.so;
    }
      where
        c : Sofar
        c = waits_for_reset (Some n) r (length b.state.order + 1) behind

        other : n ≢ q
        other same = apart (one (sym (had differ n its) ∙ ap (role_of b.state) same ∙ role))
          where
            one : Some (Bound r) ≡ Some (Bound s) → r ≡ s
            one is = cc

        has : (i : ℕ) → Some n ≡ Some i → role_at i behind.state.conns ≡ Some (Bound r)
        has i same = subst (λ (j : ℕ). role_at j behind.state.conns ≡ Some (Bound r)) (one same) (ap (role_at n) conns_behind ∙ had differ n its)
          where
            one : Some n ≡ Some i → n ≡ i
            one is = cc

        conns : ConnsFor s behind.state.conns c.state.conns
        conns = parts_conns s (Round 0) (Some n) r behind h.differ has apart

        after : Steady q s behind c
        after =
            steady_by q s behind c conns (λ lives. lives) (keeping_same (window_of behind.state s) (window_of c.state s) refl) refl
            (λ quiet. waits_there q behind.state.replies (record { at = length b.state.order + 1; says = ResetOf n r (length b.state.order + 1) }) (ne_eqb n q other) ∙ quiet)

    shut_resets : Differ b.state.conns → role_of b.state q ≡ Some (Closing s) → Shut behind → (o : Option ℕ) → conn_of b.state r ≡ o
        → Shut (waits_for_reset o r (length b.state.order + 1) behind)
    shut_resets differ role h None its = h
    shut_resets differ role h (Some n) its = record {
      closing = role_other n q (Closing r) behind.state.conns (λ same. other (sym same)) ∙ h.closing;
      differ = differ_role n (Closing r) behind.state.conns h.differ;
      dead = h.dead;
      given = h.given;
      put = h.put;
      normal = h.normal;
      so = h.so;
    }
      where
        other : n ≢ q
        other same = one (sym (had differ n its) ∙ ap (role_of b.state) same ∙ role)
          where
            one : Some (Bound r) ≡ Some (Closing s) → ⊥
            one is = cc

    -- one that was closed
    shut_still : Shut b → Shut (waits_for_reset (conn_of b.state r) r (length b.state.order + 1) behind)
    shut_still h = shut_resets h.differ h.closing (shut_same entered behind same_behind at_entry) (conn_of b.state r) refl
      where
        no_one : (i : ℕ) → HasOther q b.state.conns i
        no_one i its = one (sym (bound_role i b.state.conns q h.differ its) ∙ h.closing)
          where
            one : Some (Bound i) ≡ Some (Closing s) → ⊥
            one is = cc

        beside : Beside q silent entered
        beside = beside_close (all_each (λ (y : Noted). HasOther q b.state.conns y.session) (λ y. no_one y.session) silent.state.noted)

        dead_now : live entered.state.order s ≡ false
        dead_now = ap (λ (es : List Entry). live es s) order_now ∙ live-push b.state.order (Closed r) s ∙ by (r == s)
          where
            by : (same : Bool) → (if same then false else live b.state.order s) ≡ false
            by true = refl
            by false = h.dead

        at_entry : Shut entered
        at_entry = record {
          closing = ap (role_at q) conns_now ∙ h.closing;
          differ = subst Differ (sym conns_now) h.differ;
          dead = dead_now;
          given = h.given;
          put = subst (λ (fs : List DownFrame). PutNext (length lane.down) lane.up_taken fs h.given) (sym beside.put) h.put;
          normal = λ out. ap (list_any is_normal_frame) beside.put ∙ h.normal out;
          so = λ es. ap (λ (us : List Entry). drops_until s (notes_of old s) (drop (length old.order) us)) (more_order es) ∙ h.so (Closed r ∷ es);
        }

  -- a live one's own Close
  own_close : (cause : ShutCause) (b : Sofar) → Lives b → Shut (waits_for_reset (conn_of b.state s) s (length b.state.order + 1) (behind s cause b))
  own_close cause b h = subst (λ (o : Option ℕ). Shut (waits_for_reset o s (length b.state.order + 1) c)) (sym h.keeps.its) at_reset
    where
      z : Sofar
      z = silent s cause b

      w : Sofar
      w = entered s cause b

      c : Sofar
      c = behind s cause b

      not_own : (y : Noted) → is_noted_elsewhere s y ≡ true → HasOther q b.state.conns y.session
      not_own y is = others_apart lane q s in_round within y.session b.state.conns h.differ h.keeps.its (λ same. false≢true (sym (ap not (eq-eqb y.session s same)) ∙ is))

      beside : Beside q z w
      beside =
          beside_close s cause b
          (all_follow (λ (y : Noted). is_noted_elsewhere s y ≡ true) (λ (y : Noted). HasOther q b.state.conns y.session) not_own z.state.noted (all_passed (is_noted_elsewhere s) b.state.noted))

      same : SameOf w c
      same = same_behind s cause b

      conns_c : c.state.conns ≡ b.state.conns
      conns_c = conns_behind s cause b

      put_c : put_on q c.outs.frames ≡ put_on q b.outs.frames
      put_c = same.put ∙ beside.put

      at_reset : Shut (waits_for_reset (Some q) s (length b.state.order + 1) c)
      at_reset = record {
        closing = role_given q (Closing s) c.state.conns (ap (λ (cs : List Conn). is_some (find (is_conn q) cs)) conns_c ∙ conn_there s b.state.conns q h.keeps.its);
        differ = differ_role q (Closing s) c.state.conns (subst Differ (sym conns_c) h.differ);
        dead =
            ap (λ (es : List Entry). live es s) (same.order ∙ order_now s cause b) ∙ live-push b.state.order (Closed s) s
            ∙ ap (λ (t : Bool). if t then false else live b.state.order s) (eq-eqb s s refl);
        given = h.keeps.given;
        put =
            subst (λ (fs : List DownFrame). PutNext (length lane.down) lane.up_taken fs h.keeps.given) (sym put_c)
            (subst (λ (n : ℕ). PutNext (length lane.down) n (put_on q b.outs.frames) h.keeps.given) h.count h.keeps.put);
        normal = λ out. ap (list_any is_normal_frame) put_c ∙ h.keeps.normal out;
        so = λ es.
            ap (λ (us : List Entry). drops_until s (notes_of old s) (drop (length old.order) (us ++ es))) same.order
            ∙ ap (λ (us : List Entry). drops_until s (notes_of old s) (drop (length old.order) us)) (more_order s cause b es) ∙ h.so (Closed s ∷ es)
            ∙ ap
            (λ (t : Bool). h.keeps.given ++ (if t then [] else (with_entry (notes_of b.state s) s (Closed s)).due ++ drops_until s (record (with_entry (notes_of b.state s) s (Closed s)) { due = [] }) es))
            (eq-eqb s s refl) ∙ append-nil h.keeps.given;
      }

  -- it enters, and what it makes of the session's connection follows
  pub closes_at : (r : ℕ) (cause : ShutCause) (b : Sofar) → ((o : Option ℕ) (at : ℕ) (c : Sofar) → turns_away cause o r at c ≡ waits_for_reset o r at c)
      → TickAt b → TickAt (closes r cause b)
  closes_at r cause b turns h = subst TickAt (sym (turns (conn_of b.state r) (length b.state.order + 1) (behind r cause b))) (go h)
    where
      go : TickAt b → TickAt (waits_for_reset (conn_of b.state r) r (length b.state.order + 1) (behind r cause b))
      go (inr shut) = inr (shut_still r cause b shut)
      go (inl lives) = by (same_or r s)
        where
          by : (r ≡ s) ⊎ (r ≢ s) → TickAt (waits_for_reset (conn_of b.state r) r (length b.state.order + 1) (behind r cause b))
          by (inl same) =
              inr (subst (λ (i : ℕ). Shut (waits_for_reset (conn_of b.state i) i (length b.state.order + 1) (behind i cause b))) (sym same) (own_close cause b lives))
          by (inr apart) =
              inl (lives_resets r cause b apart lives.differ (bound_role s b.state.conns q lives.differ lives.keeps.its)
              (lives_same (entered r cause b) (behind r cause b) (same_behind r cause b) (lives_other r cause b apart lives)) (conn_of b.state r) refl)
