-- What is put on one connection of a data server, what waits to be put on it, and which changes of a step leave both.
use Rattle.std.proofs.Common.{◌≡◌, ◌≢◌, ◌+◌, ℕ, Bool, true, false, cond, List, [], ◌∷◌, ◌++◌, length, map, filter, Option, Some, None, is_some, option_map, refl, sym, ◌∙◌, ap, subst}
use Rattle.std.specs.Prelude.{◌==◌, not}
use Rattle.std.specs.List.{AllByRecursion, find}
use Rattle.std.proofs.lemmas.Bool.{eqb-true, eq-eqb, ne_eqb, true≢false, false≢true}
use Rattle.std.proofs.lemmas.List.{append-nil, map-append}
use Rattle.std.proofs.lemmas.List.Elements.{filter-append}
use Rattle.plain_orders.specs.declared.act.Act.TheVariants as act
use Rattle.plain_orders.specs.declared.entry.Entry.{Entry}
use Rattle.ecp_messages.specs.declared.down.Down.{Down}
use Rattle.ecp_messages.specs.declared.down.Down.TheVariants as down
use Rattle.ecp_messages.specs.declared.down.DownFrame.{DownFrame}
use Rattle.end_words.specs.Windows.{resent, sent, with_sent}
use Rattle.lock_table.specs.declared.rows.Request.{Request}
use Rattle.lock_table.specs.LockWords.{Freed, asked, freed, without_grant, without_request, without_session}
use Rattle.block_holders.specs.declared.noted.Noted.{Noted}
use Rattle.block_holders.specs.HolderWords.{touched}
use Rattle.link_states.specs.declared.link_event.LinkEvent.TheVariants as event
use Rattle.data_rules.specs.declared.down_frames.DownOut.{DownOut}
use Rattle.data_rules.specs.declared.rows.Conn.{Conn}
use Rattle.data_rules.specs.declared.rows.LiveEnd.{LiveEnd}
use Rattle.data_rules.specs.declared.rows.Reply.{Reply}
use Rattle.data_rules.specs.declared.rows.Role.{Role}
use Rattle.data_rules.specs.declared.rows.Role.TheVariants.{New}
use Rattle.data_rules.specs.declared.rows.Says.{Says}
use Rattle.data_rules.specs.declared.rows.Says.TheVariants.{NewWelcome, EpochWelcome, ResetOf, GrantOf, AnswerOf}
use Rattle.data_rules.specs.DataState.{DataState}
use Rattle.data_rules.specs.Callers.{goes_on, old_welcome, sends_again}
use Rattle.data_rules.specs.Conns.{breaks_if, drops_conn, end_breaks, is_conn, is_normal, link_of, role_in, role_of, with_conn, with_event, with_role, without_conn}
use Rattle.data_rules.specs.Entering.{appends, drops, drops_one, spans_of, with_entry}
use Rattle.data_rules.specs.Granting.{frees, grants, grants_one, locks_become, with_locks}
use Rattle.data_rules.specs.Leaving.{leaves}
use Rattle.data_rules.specs.Opening.{breaks_unless, live_ends}
use Rattle.data_rules.specs.Puts.{Sofar, becomes, conn_of, is_reply_elsewhere, puts, says_on, tells, tells_on, window_of, with_window, writes}
use Rattle.cluster_runs.specs.Connections.{down_of}
use Rattle.cluster_invariant.proofs.ConnRoles.{other_stays}
use Rattle.cluster_invariant.proofs.PieceKinds.{Ending, There, Here, LockCall, Asks, Unlocks, Withdraws, GivesBack, ForgetsTicket, Claims, Cancels, Releases, calls, cuts_if, ends_back, round_over}
use Rattle.cluster_invariant.proofs.PiecesOfRounds.{back_written}
use Rattle.cluster_invariant.proofs.PutLaws.{only_puts}
use Rattle.data_pieces.proofs.CallersGo.{role_other}
use Rattle.data_pieces.proofs.ConnLists.{conn_for, role_at}

-- frames

-- a frame on this connection
abbrev pub is_on : ℕ → DownOut → Bool
is_on q f = f.conn == q

-- those on it
abbrev pub put_on : ℕ → List DownOut → List DownFrame
put_on q fs = map down_of (filter (is_on q) fs)

pub put_here : (q : ℕ) (fs : List DownOut) (d : DownFrame) → put_on q (fs ++ record { conn = q; down = d } ∷ []) ≡ put_on q fs ++ d ∷ []
put_here q fs d =
    ap (map down_of) (filter-append (is_on q) fs (record { conn = q; down = d } ∷ []) ∙ ap (λ (l : List DownOut). filter (is_on q) fs ++ l) one)
    ∙ map-append down_of (filter (is_on q) fs) (record { conn = q; down = d } ∷ [])
  where
    one : filter (is_on q) (record { conn = q; down = d } ∷ []) ≡ record { conn = q; down = d } ∷ []
    one = ap (λ (b : Bool). cond b (record { conn = q; down = d } ∷ []) []) (eq-eqb q q refl)

pub put_there : (q n : ℕ) (fs : List DownOut) (d : DownFrame) → n ≢ q → put_on q (fs ++ record { conn = n; down = d } ∷ []) ≡ put_on q fs
put_there q n fs d apart =
    ap (map down_of)
    (filter-append (is_on q) fs (record { conn = n; down = d } ∷ []) ∙ ap (λ (l : List DownOut). filter (is_on q) fs ++ l) none ∙ append-nil (filter (is_on q) fs))
  where
    none : filter (is_on q) (record { conn = n; down = d } ∷ []) ≡ []
    none = ap (λ (b : Bool). cond b (record { conn = n; down = d } ∷ []) []) (ne_eqb n q apart)

-- replies

-- a reply on this connection
abbrev pub waits_on : ℕ → Reply → Bool
waits_on q r = says_on q r.says

-- those on it
abbrev pub waiting_on : ℕ → List Reply → List Reply
waiting_on q rs = filter (waits_on q) rs

pub waits_here : (q : ℕ) (rs : List Reply) (r : Reply) → waits_on q r ≡ true → waiting_on q (rs ++ r ∷ []) ≡ waiting_on q rs ++ r ∷ []
waits_here q rs r on = filter-append (waits_on q) rs (r ∷ []) ∙ ap (λ (b : Bool). waiting_on q rs ++ cond b (r ∷ []) []) on

pub waits_there : (q : ℕ) (rs : List Reply) (r : Reply) → waits_on q r ≡ false → waiting_on q (rs ++ r ∷ []) ≡ waiting_on q rs
waits_there q rs r out =
    filter-append (waits_on q) rs (r ∷ []) ∙ ap (λ (b : Bool). waiting_on q rs ++ cond b (r ∷ []) []) out ∙ append-nil (waiting_on q rs)

-- those that stay where others go
pub waits_left : (q : ℕ) (p : Reply → Bool) (rs : List Reply) → waiting_on q (filter p rs) ≡ filter p (waiting_on q rs)
waits_left q p [] = refl
waits_left q p (r ∷ rs) = go (waits_on q r) (p r) refl refl (waits_left q p rs)
  where
    go : (a b : Bool) → waits_on q r ≡ a → p r ≡ b → waiting_on q (filter p rs) ≡ filter p (waiting_on q rs)
        → waiting_on q (cond b (r ∷ filter p rs) (filter p rs)) ≡ filter p (cond a (r ∷ waiting_on q rs) (waiting_on q rs))
    go true true on stays more =
        ap (λ (c : Bool). cond c (r ∷ waiting_on q (filter p rs)) (waiting_on q (filter p rs))) on ∙ ap (λ (l : List Reply). r ∷ l) more
        ∙ sym (ap (λ (c : Bool). cond c (r ∷ filter p (waiting_on q rs)) (filter p (waiting_on q rs))) stays)
    go true false on goes more = more ∙ sym (ap (λ (c : Bool). cond c (r ∷ filter p (waiting_on q rs)) (filter p (waiting_on q rs))) goes)
    go false true out stays more = ap (λ (c : Bool). cond c (r ∷ waiting_on q (filter p rs)) (waiting_on q (filter p rs))) out ∙ more
    go false false out goes more = more

-- a reply on a connection is on no other
pub says_apart : (q n : ℕ) (x : Says) → n ≢ q → says_on q x ≡ true → says_on n x ≡ false
says_apart q n (NewWelcome conn session) apart on = ne_eqb conn n (λ same. apart (sym same ∙ eqb-true conn q on))
says_apart q n (EpochWelcome conn session kept) apart on = ne_eqb conn n (λ same. apart (sym same ∙ eqb-true conn q on))
says_apart q n (ResetOf conn session at) apart on = ne_eqb conn n (λ same. apart (sym same ∙ eqb-true conn q on))
says_apart q n (GrantOf session ticket at) apart on = refl
says_apart q n (AnswerOf session about job number at sum) apart on = refl

all_stay : (p : Reply → Bool) (q : ℕ) (rs : List Reply) → ((r : Reply) → waits_on q r ≡ true → p r ≡ true) → filter p (waiting_on q rs) ≡ waiting_on q rs
all_stay p q [] keeps = refl
all_stay p q (r ∷ rs) keeps = go (waits_on q r) refl (all_stay p q rs keeps)
  where
    go : (b : Bool) → waits_on q r ≡ b → filter p (waiting_on q rs) ≡ waiting_on q rs → filter p (cond b (r ∷ waiting_on q rs) (waiting_on q rs)) ≡ cond b (r ∷ waiting_on q rs) (waiting_on q rs)
    go true on more = ap (λ (c : Bool). cond c (r ∷ filter p (waiting_on q rs)) (filter p (waiting_on q rs))) (keeps r on) ∙ ap (λ (l : List Reply). r ∷ l) more
    go false out more = more

none_stay : (q : ℕ) (rs : List Reply) → waiting_on q (filter (is_reply_elsewhere (says_on q)) rs) ≡ []
none_stay q [] = refl
none_stay q (r ∷ rs) = go (says_on q r.says) refl (none_stay q rs)
  where
    go : (b : Bool) → says_on q r.says ≡ b → waiting_on q (filter (is_reply_elsewhere (says_on q)) rs) ≡ []
        → waiting_on q (cond (not b) (r ∷ filter (is_reply_elsewhere (says_on q)) rs) (filter (is_reply_elsewhere (says_on q)) rs)) ≡ []
    go true on more = more
    go false out more =
        ap (λ (c : Bool). cond c (r ∷ waiting_on q (filter (is_reply_elsewhere (says_on q)) rs)) (waiting_on q (filter (is_reply_elsewhere (says_on q)) rs))) out ∙ more

-- as a connection goes, what waits on it goes, and on others stays
pub waits_gone : (q : ℕ) (d : DataState) → waiting_on q (without_conn q d).replies ≡ []
waits_gone q d = none_stay q d.replies

pub waits_other : (q n : ℕ) (d : DataState) → n ≢ q → waiting_on q (without_conn n d).replies ≡ waiting_on q d.replies
waits_other q n d apart =
    waits_left q (is_reply_elsewhere (says_on n)) d.replies
    ∙ all_stay (is_reply_elsewhere (says_on n)) q d.replies (λ r on. ap not (says_apart q n r.says apart on))

-- what leaves a connection

-- its role, what was put on it, and what waits on it
pub record Beside (q : ℕ) (b c : Sofar) : Type 0 where
  pub role : role_of c.state q ≡ role_of b.state q
  pub put : put_on q c.outs.frames ≡ put_on q b.outs.frames
  pub waits : waiting_on q c.state.replies ≡ waiting_on q b.state.replies

pub beside_same : (q : ℕ) (b : Sofar) → Beside q b b
beside_same q b = record { role = refl; put = refl; waits = refl }

pub beside_then : (q : ℕ) (b c e : Sofar) → Beside q b c → Beside q c e → Beside q b e
beside_then q b c e x y = record { role = y.role ∙ x.role; put = y.put ∙ x.put; waits = y.waits ∙ x.waits }

pub beside_tells : (q s n seq : ℕ) (m : Down) (b : Sofar) → n ≢ q → Beside q b (tells s n seq m b)
beside_tells q s n seq m b apart = record { role = refl; put = put_there q n b.outs.frames _ apart; waits = refl }

-- a session has another connection, or none
abbrev pub HasOther : ℕ → List Conn → ℕ → Type 0
HasOther q cs s = conn_for s cs ≡ Some q → ⊥

pub beside_puts : (q s : ℕ) (m : Down) (b : Sofar) → HasOther q b.state.conns s → Beside q b (puts s m b)
beside_puts q s m b apart = go (conn_of b.state s) refl (sent (window_of b.state s) + 1)
  where
    go : (o : Option ℕ) → conn_of b.state s ≡ o → (n : ℕ) → Beside q b (tells_on s o n m (becomes (λ d. with_window s (with_sent (window_of d s) m) d) b))
    go None its n = record { role = refl; put = refl; waits = refl }
    go (Some conn) its n = record { role = refl; put = put_there q conn b.outs.frames _ (λ same. apart (its ∙ ap Some same)); waits = refl }

pub conns_puts : (s : ℕ) (m : Down) (b : Sofar) → (puts s m b).state.conns ≡ b.state.conns
conns_puts s m b = ap (λ (d : DataState). d.conns) (only_puts s m b).state

pub beside_drops : (q before : ℕ) (xs : List Noted) (cs : List Conn) (b : Sofar) → b.state.conns ≡ cs → AllByRecursion (λ (y : Noted). HasOther q cs y.session) xs → Beside q b (drops before xs b)
beside_drops q before [] cs b same all = beside_same q b
beside_drops q before (x ∷ xs) cs b same all =
    beside_then q b (drops_one before x xs b) (drops before xs (drops_one before x xs b))
    (beside_puts q x.session _ b (λ its. all.0 (ap (conn_for x.session) (sym same) ∙ its)))
    (beside_drops q before xs cs (drops_one before x xs b) (conns_puts x.session _ b ∙ same) all.1)

pub beside_appends : (q : ℕ) (e : Entry) (b : Sofar) → AllByRecursion (λ (y : Noted). HasOther q b.state.conns y.session) (touched (spans_of b.state e) b.state.noted) → Beside q b (appends e b)
beside_appends q e b all = go (beside_drops q (length b.state.order) (touched (spans_of b.state e) b.state.noted) b.state.conns (becomes (with_entry e (spans_of b.state e)) b) refl all)
  where
    go : Beside q (becomes (with_entry e (spans_of b.state e)) b) (appends e b) → Beside q b (appends e b)
    go x = record { role = x.role; put = x.put; waits = x.waits }

-- a session goes on, on another connection
beside_again : (q s n : ℕ) (ms : List (ℕ × Down)) (b : Sofar) → n ≢ q → Beside q b (sends_again s n ms b)
beside_again q s n [] b apart = beside_same q b
beside_again q s n (m ∷ ms) b apart =
    beside_then q b (tells s n m.0 m.1 b) (sends_again s n ms (tells s n m.0 m.1 b)) (beside_tells q s n m.0 m.1 b apart) (beside_again q s n ms (tells s n m.0 m.1 b) apart)

pub beside_goes_on : (q s n taken : ℕ) (b : Sofar) → n ≢ q → Beside q b (goes_on s n taken b)
beside_goes_on q s n taken b apart =
    beside_then q b (tells s n 0 (old_welcome b.state s) b) (goes_on s n taken b) (beside_tells q s n 0 (old_welcome b.state s) b apart)
    (beside_again q s n (resent (window_of b.state s) taken) (tells s n 0 (old_welcome b.state s) b) apart)

-- a reply that leaves elsewhere
pub beside_leaves : (q : ℕ) (says : Says) (b : Sofar) → says_on q says ≡ false → ((s : ℕ) → HasOther q b.state.conns s) → Beside q b (leaves says b)
beside_leaves q (NewWelcome conn s) b out apart = beside_tells q s conn 0 _ b (λ same. true≢false (sym (eq-eqb conn q same) ∙ out))
beside_leaves q (EpochWelcome conn s kept) b out apart = beside_tells q s conn 0 _ b (λ same. true≢false (sym (eq-eqb conn q same) ∙ out))
beside_leaves q (ResetOf conn s at) b out apart = record { role = refl; put = put_there q conn b.outs.frames _ (λ same. true≢false (sym (eq-eqb conn q same) ∙ out)); waits = refl }
beside_leaves q (GrantOf s ticket at) b out apart = beside_puts q s _ b (apart s)
beside_leaves q (AnswerOf s about job number at sum) b out apart = beside_puts q s _ b (apart s)

-- locks
beside_grants : (q : ℕ) (rs : List Request) (b : Sofar) → Beside q b (grants rs b)
beside_grants q [] b = beside_same q b
beside_grants q (r ∷ rs) b =
    beside_then q b (grants_one r b) (grants rs (grants_one r b)) (record { role = refl; put = refl; waits = waits_there q b.state.replies _ refl }) (beside_grants q rs (grants_one r b))

pub beside_locks : (q : ℕ) (f : Freed) (b : Sofar) → Beside q b (locks_become f b)
beside_locks q f b = go (beside_grants q f.grants (becomes (with_locks f.locks) b))
  where
    go : Beside q (becomes (with_locks f.locks) b) (locks_become f b) → Beside q b (locks_become f b)
    go x = record { role = x.role; put = x.put; waits = x.waits }

pub beside_calls : (q : ℕ) (call : LockCall) (b : Sofar) → Beside q b (calls call b)
beside_calls q (Asks r) b = beside_locks q (asked b.state.locks r _) b
beside_calls q (Unlocks who mode key) b = go (beside_locks q (freed b.state.locks who key mode (length b.state.order)) (frees who mode key b))
  where
    go : Beside q (frees who mode key b) (calls (Unlocks who mode key) b) → Beside q b (calls (Unlocks who mode key) b)
    go x = record { role = x.role; put = x.put; waits = x.waits }
beside_calls q (Withdraws r session ticket) b = go (beside_locks q (without_request b.state.locks session ticket (length b.state.order)) (frees r.who r.mode r.name b))
  where
    go : Beside q (frees r.who r.mode r.name b) (calls (Withdraws r session ticket) b) → Beside q b (calls (Withdraws r session ticket) b)
    go x = record { role = x.role; put = x.put; waits = x.waits }
beside_calls q (GivesBack r) b = go (beside_locks q (without_grant b.state.locks r (length b.state.order)) (frees r.who r.mode r.name b))
  where
    go : Beside q (frees r.who r.mode r.name b) (calls (GivesBack r) b) → Beside q b (calls (GivesBack r) b)
    go x = record { role = x.role; put = x.put; waits = x.waits }
beside_calls q (ForgetsTicket r) b = record { role = refl; put = refl; waits = refl }
beside_calls q (Claims who key mode number at) b = record { role = refl; put = refl; waits = refl }
beside_calls q (Cancels r) b = beside_locks q (without_request b.state.locks r.who.session r.ticket _) b
beside_calls q (Releases session) b = go (beside_locks q (without_session b.state.locks session (length b.state.order)) (writes (act.Release b.state.server session) b))
  where
    go : Beside q (writes (act.Release b.state.server session) b) (calls (Releases session) b) → Beside q b (calls (Releases session) b)
    go x = record { role = x.role; put = x.put; waits = x.waits }

-- ends
pub beside_cut : (q : ℕ) (ending : Ending) (n : ℕ) (b : Sofar) → Beside q b (cuts_if ending n b)
beside_cut q There n b = beside_same q b
beside_cut q Here n b = record { role = refl; put = refl; waits = refl }

pub beside_breaks : (q app now : ℕ) (b : Sofar) → Beside q b (end_breaks (Some app) now b)
beside_breaks q app now b = go (is_normal (link_of b.state app))
  where
    go : (normal : Bool) → Beside q b (becomes (with_event app now event.Ended) (breaks_if normal app now b))
    go true = record { role = refl; put = refl; waits = refl }
    go false = record { role = refl; put = refl; waits = refl }

beside_back : (q : ℕ) (xs : List LiveEnd) (now : ℕ) (b : Sofar) → Beside q b (ends_back xs now b)
beside_back q [] now b = beside_same q b
beside_back q (x ∷ xs) now b =
    beside_then q b (breaks_unless (is_some (conn_of b.state x.session)) x.app now (becomes (with_event x.app now (event.RoundOver (is_some (conn_of b.state x.session)))) b))
    (ends_back (x ∷ xs) now b) (one (is_some (conn_of b.state x.session))) (beside_back q xs now _)
  where
    one : (joined : Bool) → Beside q b (breaks_unless joined x.app now (becomes (with_event x.app now (event.RoundOver joined)) b))
    one true = record { role = refl; put = refl; waits = refl }
    one false = record { role = refl; put = refl; waits = refl }

pub beside_round : (q now : ℕ) (b : Sofar) → Beside q b (round_over now b)
beside_round q now b = go (beside_back q (live_ends b.state.order) now (back_written b))
  where
    go : Beside q (back_written b) (round_over now b) → Beside q b (round_over now b)
    go x = record { role = x.role; put = x.put; waits = x.waits }

-- other connections that go, come, or change what they are for

pub beside_gone : (q n : ℕ) (b : Sofar) → n ≢ q → Beside q b (becomes (without_conn n) b)
beside_gone q n b apart = record {
  role = ap (option_map role_in) (other_stays b.state.conns n q (λ same. apart (sym same)));
  put = refl;
  waits = waits_other q n b.state apart;
}

pub beside_dropped : (q : ℕ) (o : Option ℕ) (b : Sofar) → (o ≡ Some q → ⊥) → Beside q b (drops_conn o b)
beside_dropped q None b apart = beside_same q b
beside_dropped q (Some n) b apart = go (beside_gone q n b (λ same. apart (ap Some same)))
  where
    go : Beside q b (becomes (without_conn n) b) → Beside q b (drops_conn (Some n) b)
    go x = record { role = x.role; put = x.put; waits = x.waits }

pub beside_role : (q n : ℕ) (r : Role) (b : Sofar) → n ≢ q → Beside q b (becomes (with_role n r) b)
beside_role q n r b apart = record { role = role_other n q r b.state.conns (λ same. apart (sym same)); put = refl; waits = refl }

pub beside_conn : (q n : ℕ) (b : Sofar) → n ≢ q → Beside q b (becomes (with_conn n) b)
beside_conn q n b apart = record { role = more b.state.conns; put = refl; waits = refl }
  where
    more : (cs : List Conn) → role_at q (cs ++ record { number = n; role = New } ∷ []) ≡ role_at q cs
    more [] = ap (λ (b : Bool). option_map role_in (cond b (Some (record { number = n; role = New })) None)) (ne_eqb n q apart)
    more (c ∷ cs) = go (c.number == q) (more cs)
      where
        go : (same : Bool) → role_at q (cs ++ record { number = n; role = New } ∷ []) ≡ role_at q cs
            → option_map role_in (cond same (Some c) (find (is_conn q) (cs ++ record { number = n; role = New } ∷ []))) ≡ option_map role_in (cond same (Some c) (find (is_conn q) cs))
        go true rest = refl
        go false rest = rest
