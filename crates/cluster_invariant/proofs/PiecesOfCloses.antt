-- A session is closed, as pieces: its Close and its end at once, then its requests go one by one, and its connection awaits the Reset.
use Rattle.std.proofs.Common.{◌≡◌, ◌≢◌, ℕ, ◌+◌, Bool, true, false, if◌then◌else◌, cond, List, [], ◌∷◌, ◌++◌, length, map, filter, reverse, Option, Some, None, is_some, refl, sym, ◌∙◌, ap, subst}
use Rattle.std.specs.Prelude.{◌==◌}
use Rattle.std.specs.List.{AllByRecursion, find}
use Rattle.std.specs.Option.{option_map}
use Rattle.std.proofs.lemmas.Bool.{eqb-true, eq-eqb, ne_eqb}
use Rattle.std.proofs.lemmas.List.{reverse-append, reverse-reverse}
use Rattle.std.proofs.lemmas.List.Elements.{filter-append}
use Rattle.plain_orders.specs.declared.causes.ShutCause.{ShutCause}
use Rattle.plain_orders.specs.declared.causes.ShutCause.TheVariants.{Trouble, Replaced, Round}
use Rattle.plain_orders.specs.declared.act.Act.TheVariants as act
use Rattle.plain_orders.specs.declared.entry.Entry.{Entry}
use Rattle.plain_orders.specs.declared.entry.Entry.TheVariants.{Closed}
use Rattle.plain_orders.specs.Entries.{live, entry_at}
use Rattle.plain_orders.proofs.EntryLemmas.{live-push}
use Rattle.plain_orders.proofs.Places.{entry_last}
use Rattle.lock_table.specs.declared.rows.Request.{Request}
use Rattle.lock_table.specs.LockWords.{Locks, Freed, is_request_of, without_request}
use Rattle.data_rules.specs.DataState.{DataState}
use Rattle.data_rules.specs.declared.data_in.DataIn.TheVariants as data_in
use Rattle.data_rules.specs.declared.rows.Conn.{Conn}
use Rattle.data_rules.specs.declared.rows.Reply.{Reply}
use Rattle.data_rules.specs.declared.rows.Role.{Role}
use Rattle.data_rules.specs.declared.rows.Role.TheVariants.{Closing}
use Rattle.data_rules.specs.declared.rows.Says.TheVariants.{GrantOf, ResetOf}
use Rattle.data_rules.specs.Puts.{Sofar, becomes, writes, conn_of, is_bound_to, number_of, is_reply_elsewhere, says_on}
use Rattle.recovery_round.specs.RoundWords.{without}
use Rattle.data_rules.specs.Entering.{appends}
use Rattle.data_rules.specs.Granting.{grants, grants_one, locks_become, with_locks}
use Rattle.data_rules.specs.Conns.{with_event, with_role_if, is_conn, role_in, drops_conn}
use Rattle.data_rules.specs.Closing.{silenced, cancels_one, cancels, turns_away, waits_for_reset, closes}
use Rattle.cluster_invariant.specs.Served.{has_one_ticket}
use Rattle.cluster_invariant.proofs.AllLists.{all_reversed, all_passed, all_follow, all_both}
use Rattle.cluster_invariant.proofs.Parts.{IsPart, part_all, part_same, part_then, part_left, part_front}
use Rattle.cluster_invariant.proofs.RequestParts.{cancels_part, none_of_session, part_tickets, before_last, is_last, still_last}
use Rattle.cluster_invariant.proofs.PutLaws.{only_locks, only_cancels, appends_state}
use Rattle.cluster_invariant.proofs.PieceKinds.{Closes, Cancels, Locks as CallsLocks, Replies, closing_on, parts_from, event_of, with_close, shuts}
use Rattle.cluster_invariant.proofs.PieceMay.{AskersLive, LivesUnless, Coming, ClosesBy, ClosesMay}
use Rattle.cluster_invariant.proofs.Pieces.{Pieced, no_piece, one_piece, one_then, and_then}

-- a change that leaves the table of locks and the order, and that grants may follow or precede
record PassesGrants (g : Sofar → Sofar) : Type 0 where
  locks : (b : Sofar) → (g b).state.locks ≡ b.state.locks
  order : (b : Sofar) → (g b).state.order ≡ b.state.order
  table : (l : Locks) (b : Sofar) → g (becomes (with_locks l) b) ≡ becomes (with_locks l) (g b)
  grant : (r : Request) (b : Sofar) → g (grants_one r b) ≡ grants_one r (g b)

passes_then : (g h : Sofar → Sofar) → PassesGrants g → PassesGrants h → PassesGrants (λ b. h (g b))
passes_then g h first more = record {
  locks = λ b. more.locks (g b) ∙ first.locks b;
  order = λ b. more.order (g b) ∙ first.order b;
  table = λ l b. ap h (first.table l b) ∙ more.table l (g b);
  grant = λ r b. ap h (first.grant r b) ∙ more.grant r (g b);
}

grants_pass : (g : Sofar → Sofar) → PassesGrants g → (rs : List Request) (b : Sofar) → g (grants rs b) ≡ grants rs (g b)
grants_pass g p [] b = refl
grants_pass g p (r ∷ rs) b = grants_pass g p rs (grants_one r b) ∙ ap (grants rs) (p.grant r b)

locks_pass : (g : Sofar → Sofar) → PassesGrants g → (f : Freed) (b : Sofar) → g (locks_become f b) ≡ locks_become f (g b)
locks_pass g p f b = grants_pass g p f.grants (becomes (with_locks f.locks) b) ∙ ap (grants f.grants) (p.table f.locks b)

cancel_pass : (g : Sofar → Sofar) → PassesGrants g → (r : Request) (b : Sofar) → g (cancels_one r b) ≡ cancels_one r (g b)
cancel_pass g p r b =
    locks_pass g p (without_request b.state.locks r.who.session r.ticket (length b.state.order)) b
    ∙ ap (λ (l : Locks). locks_become (without_request l r.who.session r.ticket (length b.state.order)) (g b)) (sym (p.locks b))
    ∙ ap (λ (es : List Entry). locks_become (without_request (g b).state.locks r.who.session r.ticket (length es)) (g b)) (sym (p.order b))

cancels_pass : (g : Sofar → Sofar) → PassesGrants g → (rs : List Request) (b : Sofar) → g (cancels rs b) ≡ cancels rs (g b)
cancels_pass g p [] b = refl
cancels_pass g p (r ∷ rs) b = cancels_pass g p rs (cancels_one r b) ∙ ap (cancels rs) (cancel_pass g p r b)

event_passes : (app now : ℕ) (cause : ShutCause) → PassesGrants (becomes (with_event app now (event_of cause)))
event_passes app now cause = record { locks = λ b. refl; order = λ b. refl; table = λ l b. refl; grant = λ r b. refl }

closing_passes : (o : Option ℕ) (s : ℕ) → PassesGrants (closing_on o s)
closing_passes None s = record { locks = λ b. refl; order = λ b. refl; table = λ l b. refl; grant = λ r b. refl }
closing_passes (Some conn) s = record { locks = λ b. refl; order = λ b. refl; table = λ l b. refl; grant = λ r b. refl }

-- a Grant is no reply on a connection
drop_passes : (o : Option ℕ) → PassesGrants (drops_conn o)
drop_passes None = record { locks = λ b. refl; order = λ b. refl; table = λ l b. refl; grant = λ r b. refl }
drop_passes (Some conn) = record {
  locks = λ b. refl;
  order = λ b. refl;
  table = λ l b. refl;
  grant = λ r b. ap (λ (rs : List Reply). dropped r rs b) (filter-append (is_reply_elsewhere (says_on conn)) b.state.replies (granted r b ∷ []));
}
  where
    granted : Request → Sofar → Reply
    granted r b = record { at = length b.state.order; says = GrantOf r.who.session r.ticket (length b.state.order) }

    dropped : Request → List Reply → Sofar → Sofar
    dropped r rs b = let c : Sofar = drops_conn (Some conn) (grants_one r b) in record c { state = record c.state { replies = rs } }

parts_pass : (cause : ShutCause) (o : Option ℕ) (s : ℕ) → PassesGrants (parts_from cause o s)
parts_pass (Trouble time) o s = closing_passes o s
parts_pass Replaced o s = drop_passes o
parts_pass (Round time) o s = closing_passes o s

-- as a request goes, those of other sessions are of live ones still
cancelled_live : (s : ℕ) (r : Request) (b : Sofar) → AllByRecursion (LivesUnless s b.state.order) b.state.locks.requests
    → AllByRecursion (LivesUnless s (cancels_one r b).state.order) (cancels_one r b).state.locks.requests
cancelled_live s r b lives =
    subst (λ (es : List Entry). AllByRecursion (LivesUnless s es) (cancels_one r b).state.locks.requests)
    (sym (ap (λ (d : DataState). d.order) (only_locks (without_request b.state.locks r.who.session r.ticket (length b.state.order)) b).state))
    (part_all (LivesUnless s b.state.order) (cancels_one r b).state.locks.requests b.state.locks.requests (cancels_part (r ∷ []) b) lives)

-- requests of a session that was closed go
cancel_pieces : (t : Coming) (s : ℕ) (rs : List Request) (b : Sofar) → AllByRecursion (λ r. r.who.session ≡ s) rs → live b.state.order s ≡ false
    → IsPart (filter (is_request_of s) b.state.locks.requests) (reverse rs)
    → (has_one_ticket t.old.locks.requests ≡ true → has_one_ticket (reverse rs) ≡ true)
    → (AskersLive t.old → AllByRecursion (LivesUnless s b.state.order) b.state.locks.requests)
    → Pieced t b (cancels rs b)
cancel_pieces t s [] b its closed part one others = no_piece t b
cancel_pieces t s (r ∷ rs) b its closed part one others =
    one_then t (CallsLocks (Cancels r)) b _
    (record {
      closed = subst (λ (n : ℕ). live b.state.order n ≡ false) (sym its.0) closed;
      last = λ o. is_last r (reverse rs) b.state.locks.requests (before_last (reverse rs) r (one_now o)) part_now;
      others = λ old. subst (λ (n : ℕ). AllByRecursion (LivesUnless n b.state.order) b.state.locks.requests) (sym its.0) (others old);
    })
    (cancel_pieces t s rs (cancels_one r b) its.1
    (ap (λ (d : DataState). live d.order s) (only_locks (without_request b.state.locks r.who.session r.ticket (length b.state.order)) b).state ∙ closed)
    (subst (λ (n : ℕ). IsPart (filter (is_request_of n) (cancels_one r b).state.locks.requests) (reverse rs)) its.0 (still_last r (reverse rs) b part_now))
    (λ o. part_tickets (reverse rs) (reverse rs ++ r ∷ []) (part_front (reverse rs) (r ∷ [])) (one_now o))
    (λ old. cancelled_live s r b (others old)))
  where
    turned : reverse (r ∷ rs) ≡ reverse rs ++ r ∷ []
    turned = reverse-append (r ∷ []) rs

    one_now : has_one_ticket t.old.locks.requests ≡ true → has_one_ticket (reverse rs ++ r ∷ []) ≡ true
    one_now o = sym (ap has_one_ticket turned) ∙ one o

    part_now : IsPart (filter (is_request_of r.who.session) b.state.locks.requests) (reverse rs ++ r ∷ [])
    part_now =
        subst (λ (n : ℕ). IsPart (filter (is_request_of n) b.state.locks.requests) (reverse rs ++ r ∷ [])) (sym its.0)
        (subst (IsPart (filter (is_request_of s) b.state.locks.requests)) turned part)

-- those of the session, the latest first
requests_of : (s : ℕ) (rs : List Request) → AllByRecursion (λ r. r.who.session ≡ s) (reverse (filter (is_request_of s) rs))
requests_of s rs =
    all_reversed (λ r. r.who.session ≡ s) (filter (is_request_of s) rs)
    (all_follow (λ r. is_request_of s r ≡ true) (λ r. r.who.session ≡ s) (λ r is. eqb-true r.who.session s is) (filter (is_request_of s) rs)
    (all_passed (is_request_of s) rs))

-- after its Close a session isn't live
pub closed_dead : (es : List Entry) (s : ℕ) → live (es ++ Closed s ∷ []) s ≡ false
closed_dead es s = live-push es (Closed s) s ∙ ap (λ (same : Bool). if same then false else live es s) (eq-eqb s s refl)

-- roles

-- the connection of a session is there
pub conn_there : (s : ℕ) (cs : List Conn) (conn : ℕ) → option_map number_of (find (is_bound_to s) cs) ≡ Some conn → is_some (find (is_conn conn) cs) ≡ true
conn_there s [] conn its = absurd cc
conn_there s (c ∷ cs) conn its = go (is_bound_to s c) its (conn_there s cs conn)
  where
    found : (same : Bool) → (same ≡ false → is_some (find (is_conn conn) cs) ≡ true) → is_some (cond same (Some c) (find (is_conn conn) cs)) ≡ true
    found true more = refl
    found false more = more refl

    here : c.number ≡ conn → is_some (cond (c.number == conn) (Some c) (find (is_conn conn) cs)) ≡ true
    here same = ap (λ (b : Bool). is_some (cond b (Some c) (find (is_conn conn) cs))) (eq-eqb c.number conn same)

    go : (bound : Bool) → option_map number_of (cond bound (Some c) (find (is_bound_to s) cs)) ≡ Some conn
        → (option_map number_of (find (is_bound_to s) cs) ≡ Some conn → is_some (find (is_conn conn) cs) ≡ true)
        → is_some (cond (c.number == conn) (Some c) (find (is_conn conn) cs)) ≡ true
    go true is more = here cc
    go false is more = found (c.number == conn) (λ other. more is)

-- a connection that is there is for what it was told
pub role_given : (conn : ℕ) (role : Role) (cs : List Conn) → is_some (find (is_conn conn) cs) ≡ true
    → option_map role_in (find (is_conn conn) (map (with_role_if conn role) cs)) ≡ Some role
role_given conn role [] there = absurd cc
role_given conn role (c ∷ cs) there = go (c.number == conn) refl there (role_given conn role cs)
  where
    go : (same : Bool) → (c.number == conn) ≡ same → is_some (cond same (Some c) (find (is_conn conn) cs)) ≡ true
        → (is_some (find (is_conn conn) cs) ≡ true → option_map role_in (find (is_conn conn) (map (with_role_if conn role) cs)) ≡ Some role)
        → option_map role_in (cond (is_conn conn (if same then record c { role = role } else c)) (Some (if same then record c { role = role } else c))
        (find (is_conn conn) (map (with_role_if conn role) cs)))
        ≡ Some role
    go true same is more =
        ap (λ (b : Bool). option_map role_in (cond b (Some (record c { role = role })) (find (is_conn conn) (map (with_role_if conn role) cs)))) same
    go false other is more =
        ap (λ (b : Bool). option_map role_in (cond b (Some c) (find (is_conn conn) (map (with_role_if conn role) cs)))) other ∙ more is

-- the pieces

-- the order with the Close
pub close_order : (s : ℕ) (cause : ShutCause) (b : Sofar) → (with_close s cause b).state.order ≡ b.state.order ++ Closed s ∷ []
close_order s cause b =
    ap (λ (d : DataState). d.order) (appends_state (Closed s) (becomes (silenced s) (writes (act.Shut b.state.server s cause) b))).state

pub close_conns : (s : ℕ) (cause : ShutCause) (b : Sofar) → (with_close s cause b).state.conns ≡ b.state.conns
close_conns s cause b =
    ap (λ (d : DataState). d.conns) (appends_state (Closed s) (becomes (silenced s) (writes (act.Shut b.state.server s cause) b))).state

close_locks : (s : ℕ) (cause : ShutCause) (b : Sofar) → (with_close s cause b).state.locks ≡ b.state.locks
close_locks s cause b =
    ap (λ (d : DataState). d.locks) (appends_state (Closed s) (becomes (silenced s) (writes (act.Shut b.state.server s cause) b))).state

-- the requests of a session that is closed
abbrev pub requests_at : ℕ → ShutCause → Sofar → List Request
requests_at s cause b = reverse (filter (is_request_of s) (with_close s cause b).state.locks.requests)

-- the Close stands, and the requests are gone
abbrev pub closed_at : ℕ → ShutCause → Sofar → Sofar
closed_at s cause b = cancels (requests_at s cause b) (with_close s cause b)

pub closed_order : (s : ℕ) (cause : ShutCause) (b : Sofar) → (closed_at s cause b).state.order ≡ b.state.order ++ Closed s ∷ []
closed_order s cause b =
    ap (λ (d : DataState). d.order) (only_cancels (requests_at s cause b) (with_close s cause b)).state ∙ close_order s cause b

pub closed_conns : (s : ℕ) (cause : ShutCause) (b : Sofar) → (closed_at s cause b).state.conns ≡ b.state.conns
closed_conns s cause b =
    ap (λ (d : DataState). d.conns) (only_cancels (requests_at s cause b) (with_close s cause b)).state ∙ close_conns s cause b

turned_locks : (cause : ShutCause) (o : Option ℕ) (s at : ℕ) (b : Sofar) → (turns_away cause o s at b).state.locks ≡ b.state.locks
turned_locks (Trouble time) None s at b = refl
turned_locks (Trouble time) (Some conn) s at b = refl
turned_locks Replaced None s at b = refl
turned_locks Replaced (Some conn) s at b = refl
turned_locks (Round time) None s at b = refl
turned_locks (Round time) (Some conn) s at b = refl

-- what is left of the requests where a session is closed
pub closes_part : (s : ℕ) (cause : ShutCause) (b : Sofar) → IsPart (closes s cause b).state.locks.requests b.state.locks.requests
closes_part s cause b =
    subst (λ (l : Locks). IsPart l.requests b.state.locks.requests)
    (sym (turned_locks cause (conn_of b.state s) s (length b.state.order + 1) (closed_at s cause b)))
    (subst (λ (l : Locks). IsPart (closed_at s cause b).state.locks.requests l.requests) (close_locks s cause b)
    (cancels_part (requests_at s cause b) (with_close s cause b)))

-- no request of the session is left
cancelled_all : (s : ℕ) (rs : List Request) (b : Sofar) → AllByRecursion (λ r. r.who.session ≡ s) rs
    → IsPart (filter (is_request_of s) b.state.locks.requests) (reverse rs) → AllByRecursion (λ r. r.who.session ≢ s) (cancels rs b).state.locks.requests
cancelled_all s [] b its part = none_of_session s b.state.locks.requests part
cancelled_all s (r ∷ rs) b its part =
    cancelled_all s rs (cancels_one r b) its.1
    (subst (λ (n : ℕ). IsPart (filter (is_request_of n) (cancels_one r b).state.locks.requests) (reverse rs)) its.0
    (still_last r (reverse rs) b
    (subst (λ (n : ℕ). IsPart (filter (is_request_of n) b.state.locks.requests) (reverse rs ++ r ∷ [])) (sym its.0)
    (subst (IsPart (filter (is_request_of s) b.state.locks.requests)) (reverse-append (r ∷ []) rs) part))))

-- the Close leaves other sessions live
live_beside : (es : List Entry) (s q : ℕ) → q ≢ s → live es q ≡ true → live (es ++ Closed s ∷ []) q ≡ true
live_beside es s q apart is = live-push es (Closed s) q ∙ ap (λ (same : Bool). if same then false else live es q) (ne_eqb s q (λ same. apart (sym same))) ∙ is

-- requests of live sessions are of that session or of live ones as it is closed
closed_live : (s : ℕ) (es : List Entry) (rs : List Request) → AllByRecursion (λ r. live es r.who.session ≡ true) rs → AllByRecursion (LivesUnless s (es ++ Closed s ∷ [])) rs
closed_live s es rs lives =
    all_follow (λ (r : Request). live es r.who.session ≡ true) (LivesUnless s (es ++ Closed s ∷ [])) (λ r is apart. live_beside es s r.who.session apart is) rs lives

module _ (t : Coming) (s app : ℕ) (b : Sofar) where
  -- the connection of the session awaits its Reset
  reset_pieces : t.input ≡ data_in.Tick → (cause : ShutCause) (o : Option ℕ) → conn_of b.state s ≡ o
      → Pieced t (becomes (with_event app t.now (event_of cause)) (closing_on o s (closed_at s cause b)))
      (becomes (with_event app t.now (event_of cause)) (waits_for_reset o s (length b.state.order + 1) (closed_at s cause b)))
  reset_pieces came cause None its = no_piece t _
  reset_pieces came cause (Some conn) its =
      one_piece t (Replies (length b.state.order + 1) (ResetOf conn s (length b.state.order + 1)))
      (becomes (with_event app t.now (event_of cause)) (closing_on (Some conn) s (closed_at s cause b)))
      (record {
        came = came;
        until = refl;
        closing = role_given conn (Closing s) (closed_at s cause b).state.conns
            (ap (λ (cs : List Conn). is_some (find (is_conn conn) cs)) (closed_conns s cause b) ∙ conn_there s b.state.conns conn its);
        closed = ap (λ (es : List Entry). entry_at es (length b.state.order + 1)) (closed_order s cause b)
            ∙ entry_last b.state.order (Closed s) (length b.state.order + 1) refl;
      })

  turned_pieces : (cause : ShutCause) → ClosesBy t s app cause b
      → Pieced t (becomes (with_event app t.now (event_of cause)) (parts_from cause (conn_of b.state s) s (closed_at s cause b)))
      (becomes (with_event app t.now (event_of cause)) (turns_away cause (conn_of b.state s) s (length b.state.order + 1) (closed_at s cause b)))
  turned_pieces (Trouble time) why = reset_pieces why.came (Trouble time) (conn_of b.state s) refl
  turned_pieces Replaced why = no_piece t _
  turned_pieces (Round time) why = reset_pieces why.came (Round time) (conn_of b.state s) refl

  -- A session is closed, and its end is told.
  pub closes_pieces : (cause : ShutCause) → ClosesMay t s app cause b → IsPart b.state.locks.requests t.old.locks.requests
      → (AskersLive t.old → AskersLive b.state) → Pieced t b (becomes (with_event app t.now (event_of cause)) (closes s cause b))
  closes_pieces cause may from askers =
      one_then t (Closes s app cause) b _ may
      (and_then t (shuts s app cause t.now b) (cancels (requests_at s cause b) (shuts s app cause t.now b)) _
      (cancel_pieces t s (requests_at s cause b) (shuts s app cause t.now b) (requests_of s (with_close s cause b).state.locks.requests)
      (ap (λ (es : List Entry). live es s) ((parts_pass cause (conn_of b.state s) s).order (with_close s cause b) ∙ close_order s cause b)
      ∙ closed_dead b.state.order s)
      (subst (IsPart (filter (is_request_of s) (shuts s app cause t.now b).state.locks.requests)) (sym (reverse-reverse asked))
      (subst (λ (l : Locks). IsPart (filter (is_request_of s) l.requests) asked)
      (sym ((parts_pass cause (conn_of b.state s) s).locks (with_close s cause b))) (part_same asked)))
      (λ one. ap has_one_ticket (reverse-reverse asked)
      ∙ part_tickets asked t.old.locks.requests
      (part_then asked (with_close s cause b).state.locks.requests t.old.locks.requests (part_left (is_request_of s) (with_close s cause b).state.locks.requests)
      (subst (λ (l : Locks). IsPart l.requests t.old.locks.requests) (sym (close_locks s cause b)) from)) one)
      (λ old. others (closed_live s b.state.order b.state.locks.requests (askers old))))
      (subst (λ (x : Sofar). Pieced t x (becomes (with_event app t.now (event_of cause)) (closes s cause b)))
      (cancels_pass (λ x. becomes (with_event app t.now (event_of cause)) (parts_from cause (conn_of b.state s) s x))
      (passes_then (parts_from cause (conn_of b.state s) s) (becomes (with_event app t.now (event_of cause))) (parts_pass cause (conn_of b.state s) s)
      (event_passes app t.now cause))
      (requests_at s cause b) (with_close s cause b))
      (turned_pieces cause may.why)))
    where
      asked : List Request
      asked = filter (is_request_of s) (with_close s cause b).state.locks.requests

      -- the table is as it was before the Close
      others : AllByRecursion (LivesUnless s (b.state.order ++ Closed s ∷ [])) b.state.locks.requests
          → AllByRecursion (LivesUnless s (shuts s app cause t.now b).state.order) (shuts s app cause t.now b).state.locks.requests
      others lives =
          subst (λ (es : List Entry). AllByRecursion (LivesUnless s es) (shuts s app cause t.now b).state.locks.requests)
          (sym ((parts_pass cause (conn_of b.state s) s).order (with_close s cause b) ∙ close_order s cause b))
          (subst (λ (l : Locks). AllByRecursion (LivesUnless s (b.state.order ++ Closed s ∷ [])) l.requests)
          (sym ((parts_pass cause (conn_of b.state s) s).locks (with_close s cause b) ∙ close_locks s cause b)) lives)

pub is_some_map : {X Y : Type 0} (f : X → Y) (o : Option X) → is_some (option_map f o) ≡ is_some o
is_some_map f None = refl
is_some_map f (Some x) = refl

-- a round stays
pub closed_round : (s : ℕ) (cause : ShutCause) (b : Sofar) → is_some (closed_at s cause b).state.round ≡ is_some b.state.round
closed_round s cause b =
    ap (λ (d : DataState). is_some d.round) (only_cancels (requests_at s cause b) (with_close s cause b)).state
    ∙ is_some_map (λ r. without r s) (appends (Closed s) (becomes (silenced s) (writes (act.Shut b.state.server s cause) b))).state.round
    ∙ ap (λ (d : DataState). is_some d.round) (appends_state (Closed s) (becomes (silenced s) (writes (act.Shut b.state.server s cause) b))).state

turned_order : (cause : ShutCause) (o : Option ℕ) (s at : ℕ) (b : Sofar) → (turns_away cause o s at b).state.order ≡ b.state.order
turned_order (Trouble time) None s at b = refl
turned_order (Trouble time) (Some conn) s at b = refl
turned_order Replaced None s at b = refl
turned_order Replaced (Some conn) s at b = refl
turned_order (Round time) None s at b = refl
turned_order (Round time) (Some conn) s at b = refl

-- A Close is all that enters where a session is closed.
pub closes_order : (s : ℕ) (cause : ShutCause) (b : Sofar) → (closes s cause b).state.order ≡ b.state.order ++ Closed s ∷ []
closes_order s cause b = turned_order cause (conn_of b.state s) s (length b.state.order + 1) (closed_at s cause b) ∙ closed_order s cause b

-- Where a session is closed its requests go, and those that wait are of live sessions again.
pub closes_askers : (s : ℕ) (cause : ShutCause) (b : Sofar) → AskersLive b.state → AskersLive (closes s cause b).state
closes_askers s cause b lives =
    subst (λ (es : List Entry). AllByRecursion (λ (r : Request). live es r.who.session ≡ true) (closes s cause b).state.locks.requests) (sym (closes_order s cause b))
    (all_follow (λ (r : Request). (r.who.session ≢ s) × LivesUnless s (b.state.order ++ Closed s ∷ []) r)
    (λ (r : Request). live (b.state.order ++ Closed s ∷ []) r.who.session ≡ true) (λ r both. both.1 both.0) (closes s cause b).state.locks.requests
    (all_both (λ (r : Request). r.who.session ≢ s) (LivesUnless s (b.state.order ++ Closed s ∷ [])) (closes s cause b).state.locks.requests gone
    (part_all (LivesUnless s (b.state.order ++ Closed s ∷ [])) (closes s cause b).state.locks.requests b.state.locks.requests (closes_part s cause b)
    (closed_live s b.state.order b.state.locks.requests lives))))
  where
    asked : List Request
    asked = filter (is_request_of s) (with_close s cause b).state.locks.requests

    gone : AllByRecursion (λ (r : Request). r.who.session ≢ s) (closes s cause b).state.locks.requests
    gone =
        subst (λ (l : Locks). AllByRecursion (λ (r : Request). r.who.session ≢ s) l.requests)
        (sym (turned_locks cause (conn_of b.state s) s (length b.state.order + 1) (closed_at s cause b)))
        (cancelled_all s (requests_at s cause b) (with_close s cause b) (requests_of s (with_close s cause b).state.locks.requests)
        (subst (IsPart asked) (sym (reverse-reverse asked)) (part_same asked)))
