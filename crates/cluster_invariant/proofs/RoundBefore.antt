-- While a round is on no session opens: what is live then was live as the step began.
use Rattle.std.proofs.Common.{◌≡◌, ℕ, Bool, true, false, List, [], ◌∷◌, ◌++◌, length, Option, Some, None, is_some, refl, sym, ◌∙◌, ap, subst}
use Rattle.std.proofs.lemmas.Bool.{false≢true}
use Rattle.recovery_round.specs.RoundWords.{Round, without}
use Rattle.plain_orders.specs.declared.causes.ShutCause.{ShutCause}
use Rattle.plain_orders.specs.declared.causes.ShutCause.TheVariants.{Trouble, Replaced, Round as RoundCause}
use Rattle.plain_orders.specs.declared.act.Act.TheVariants as act
use Rattle.plain_orders.specs.declared.entry.Entry.{Entry}
use Rattle.plain_orders.specs.declared.entry.Entry.TheVariants.{Closed, Update as UpdateEntry, Commit as CommitEntry, Rollback as RollbackEntry}
use Rattle.plain_orders.specs.declared.op.Op.TheVariants as ops
use Rattle.plain_orders.specs.Entries.{live_session}
use Rattle.plain_orders.proofs.EntryLemmas.{live_session-push}
use Rattle.plain_orders.proofs.PastLemmas.{kept_open}
use Rattle.ecp_messages.specs.declared.up.Up.{Up}
use Rattle.ecp_messages.specs.declared.up.Up.TheVariants.{Hello, Recover, Update, Add, Fetch, Ask, Unlock, Cancel, Commit, Rollback, Sync, Done, Claim, Bare}
use Rattle.ecp_messages.specs.declared.down.Down.{Down}
use Rattle.ecp_messages.specs.declared.down.Down.TheVariants as down
use Rattle.end_words.specs.Windows.{resent}
use Rattle.lock_table.specs.LockWords.{Freed, asked, freed, without_request, without_grant, without_session}
use Rattle.data_rules.specs.DataState.{DataState}
use Rattle.data_rules.specs.Puts.{Sofar, becomes, writes, puts, tells, head_of, conn_of, window_of}
use Rattle.data_rules.specs.Entering.{appends}
use Rattle.data_rules.specs.Granting.{frees, locks_become}
use Rattle.data_rules.specs.Conns.{is_normal, link_of, without_conn, breaks_if, end_breaks, drops_conn}
use Rattle.data_rules.specs.Closing.{silenced}
use Rattle.data_rules.specs.Opening.{live_ends}
use Rattle.data_rules.specs.Callers.{waiting_conn, sends_again, old_welcome}
use Rattle.cluster_invariant.proofs.ConnRoles.{dropped_order, dropped_round}
use Rattle.cluster_invariant.proofs.PutLaws.{OnlyWindows, only_puts, only_leaves, only_locks, appends_state}
use Rattle.cluster_invariant.proofs.PiecesOfRounds.{ends_aside, opens_round}
use Rattle.cluster_invariant.proofs.PiecesOfCloses.{close_order, is_some_map}
use Rattle.cluster_invariant.proofs.PieceKinds.{Ending, There, Here, LockCall, Asks, Unlocks, Withdraws, GivesBack, ForgetsTicket, Claims, Cancels, Releases, Piece, Accepts, Forgets, Breaks, Dials, Waits, Opens, OpensNext, Resumes, GoesOn, ComesAgain, AwaitsReset, Closes, Acknowledges, Takes, TakesDone, Enters, Fetches, PutsNormal, PutsAck, Replies, Leaves, Bares, Locks, RoundEnds, Ticks, cuts_if, calls, parts_from, with_close, next_caller, with_replies, makes}
use Rattle.cluster_invariant.proofs.PieceMay.{Coming, RoundWas, item_of}
use Rattle.cluster_invariant.proofs.Pieces.{MayMake, Pieced, kept_by_pieces}

-- the round and the order are as they were
record SameRound (b c : Sofar) : Type 0 where
  round : is_some c.state.round ≡ is_some b.state.round
  order : c.state.order ≡ b.state.order

pub round_same : (t : Coming) (d : DataState) → is_some d.round ≡ is_some t.old.round → d.order ≡ t.old.order → RoundWas t d
round_same t d round order = record {
  in_round = λ is. sym round ∙ is;
  has = λ is app s has. subst (λ (es : List Entry). live_session es app ≡ Some s) order has;
}

by_same : (t : Coming) (b c : Sofar) → SameRound b c → RoundWas t b.state → RoundWas t c.state
by_same t b c same h = record {
  in_round = λ is. h.in_round (sym same.round ∙ is);
  has = λ is app s has. h.has (sym same.round ∙ is) app s (subst (λ (es : List Entry). live_session es app ≡ Some s) same.order has);
}

by_windows : (t : Coming) (b c : Sofar) → OnlyWindows b c → RoundWas t b.state → RoundWas t c.state
by_windows t b c only h =
    by_same t b c (record { round = ap (λ (d : DataState). is_some d.round) only.state; order = ap (λ (d : DataState). d.order) only.state }) h

-- no round is on
by_none : (t : Coming) (d : DataState) → is_some d.round ≡ false → RoundWas t d
by_none t d none = record { in_round = λ is. absurd (false≢true (sym none ∙ is)); has = λ is. absurd (false≢true (sym none ∙ is)) }

-- a Close ends one, and an item none
by_close : (t : Coming) (s : ℕ) (b c : Sofar) → is_some c.state.round ≡ is_some b.state.round → c.state.order ≡ b.state.order ++ Closed s ∷ [] → RoundWas t b.state
    → RoundWas t c.state
by_close t s b c round order h = record {
  in_round = λ is. h.in_round (sym round ∙ is);
  has =
      λ is app q has.
      h.has (sym round ∙ is) app q
      (kept_open s q (live_session b.state.order app)
      (sym (live_session-push b.state.order (Closed s) app) ∙ subst (λ (es : List Entry). live_session es app ≡ Some q) order has));
}

some_same : (x y : Entry) → Some x ≡ Some y → x ≡ y
some_same x y same = cc

abbrev IsStill : Entry → Type 0
IsStill e = (es : List Entry) (app : ℕ) → live_session (es ++ e ∷ []) app ≡ live_session es app

item_still : (s : ℕ) (m : Up) (e : Entry) → item_of s m ≡ Some e → IsStill e
item_still s (Hello app dial) e its = absurd cc
item_still s (Recover app q epoch taken dial) e its = absurd cc
item_still s (Update w job txn op) e its =
    subst IsStill (some_same (UpdateEntry s w job txn op) e its) (λ es app. live_session-push es (UpdateEntry s w job txn op) app)
item_still s (Add w job key amount) e its =
    subst IsStill (some_same (UpdateEntry s w job 0 (ops.Add key amount)) e its) (λ es app. live_session-push es (UpdateEntry s w job 0 (ops.Add key amount)) app)
item_still s (Fetch key) e its = absurd cc
item_still s (Ask ticket job mode key) e its = absurd cc
item_still s (Unlock job mode key) e its = absurd cc
item_still s (Cancel ticket) e its = absurd cc
item_still s (Commit w job txn wanted) e its = subst IsStill (some_same (CommitEntry s w job txn) e its) (λ es app. live_session-push es (CommitEntry s w job txn) app)
item_still s (Rollback w job txn) e its = subst IsStill (some_same (RollbackEntry s w job txn) e its) (λ es app. live_session-push es (RollbackEntry s w job txn) app)
item_still s (Sync ticket) e its = absurd cc
item_still s Done e its = absurd cc
item_still s (Claim job mode number at key) e its = absurd cc
item_still s Bare e its = absurd cc

cuts_same : (ending : Ending) (conn : ℕ) (b : Sofar) → SameRound b (cuts_if ending conn b)
cuts_same There conn b = record { round = refl; order = refl }
cuts_same Here conn b = record { round = refl; order = refl }

breaks_same : (normal : Bool) (app now : ℕ) (b : Sofar) → SameRound b (breaks_if normal app now b)
breaks_same true app now b = record { round = refl; order = refl }
breaks_same false app now b = record { round = refl; order = refl }

then_same : (b c e : Sofar) → SameRound b c → SameRound c e → SameRound b e
then_same b c e x y = record { round = y.round ∙ x.round; order = y.order ∙ x.order }

drops_same : (o : Option ℕ) (b : Sofar) → SameRound b (drops_conn o b)
drops_same o b = record { round = ap is_some (dropped_round o b); order = dropped_order o b }

locks_same : (f : Freed) (b : Sofar) → SameRound b (locks_become f b)
locks_same f b = record {
  round = ap (λ (d : DataState). is_some d.round) (only_locks f b).state;
  order = ap (λ (d : DataState). d.order) (only_locks f b).state;
}

again_same : (s conn : ℕ) (ms : List (ℕ × Down)) (b : Sofar) → SameRound b (sends_again s conn ms b)
again_same s conn [] b = record { round = refl; order = refl }
again_same s conn (m ∷ ms) b = let more : SameRound (tells s conn m.0 m.1 b) (sends_again s conn ms (tells s conn m.0 m.1 b)) = again_same s conn ms (tells s conn m.0 m.1 b) in record { round = more.round; order = more.order }

calls_same : (call : LockCall) (b : Sofar) → SameRound b (calls call b)
calls_same (Asks r) b = locks_same (asked b.state.locks r (length b.state.order)) b
calls_same (Unlocks who mode key) b =
    let s : SameRound (frees who mode key b) (calls (Unlocks who mode key) b) = locks_same (freed b.state.locks who key mode (length b.state.order)) (frees who mode key b) in
    record { round = s.round; order = s.order }
calls_same (Withdraws r session ticket) b =
    let s : SameRound (frees r.who r.mode r.name b) (calls (Withdraws r session ticket) b) =
    locks_same (without_request b.state.locks session ticket (length b.state.order)) (frees r.who r.mode r.name b) in
    record { round = s.round; order = s.order }
calls_same (GivesBack r) b =
    let s : SameRound (frees r.who r.mode r.name b) (calls (GivesBack r) b) =
    locks_same (without_grant b.state.locks r (length b.state.order)) (frees r.who r.mode r.name b) in
    record { round = s.round; order = s.order }
calls_same (ForgetsTicket r) b = record { round = refl; order = refl }
calls_same (Claims who key mode number at) b = record { round = refl; order = refl }
calls_same (Cancels r) b = locks_same (without_request b.state.locks r.who.session r.ticket (length b.state.order)) b
calls_same (Releases session) b =
    let s : SameRound (writes (act.Release b.state.server session) b) (calls (Releases session) b) =
    locks_same (without_session b.state.locks session (length b.state.order)) (writes (act.Release b.state.server session) b) in
    record { round = s.round; order = s.order }

parts_same : (cause : ShutCause) (o : Option ℕ) (s : ℕ) (b : Sofar) → SameRound b (parts_from cause o s b)
parts_same (Trouble time) None s b = record { round = refl; order = refl }
parts_same (Trouble time) (Some conn) s b = record { round = refl; order = refl }
parts_same Replaced o s b = drops_same o b
parts_same (RoundCause time) None s b = record { round = refl; order = refl }
parts_same (RoundCause time) (Some conn) s b = record { round = refl; order = refl }

close_round : (s : ℕ) (cause : ShutCause) (b : Sofar) → is_some (with_close s cause b).state.round ≡ is_some b.state.round
close_round s cause b =
    is_some_map (λ (r : Round). without r s) (appends (Closed s) (becomes (silenced s) (writes (act.Shut b.state.server s cause) b))).state.round
    ∙ ap (λ (d : DataState). is_some d.round) (appends_state (Closed s) (becomes (silenced s) (writes (act.Shut b.state.server s cause) b))).state

-- what each piece makes of it

round_kept : (t : Coming) (p : Piece) (b : Sofar) → MayMake t p b → RoundWas t b.state → RoundWas t (makes t.now p b).state
round_kept t (Accepts conn) b may h = by_same t b (makes t.now (Accepts conn) b) (record { round = refl; order = refl }) h
round_kept t (Forgets ending conn) b may h =
    by_same t (becomes (without_conn conn) b) (makes t.now (Forgets ending conn) b) (cuts_same ending conn (becomes (without_conn conn) b))
    (by_same t b (becomes (without_conn conn) b) (record { round = refl; order = refl }) h)
round_kept t (Breaks ending conn session app) b may h =
    by_same t broken (makes t.now (Breaks ending conn session app) b) (cuts_same ending conn broken)
    (by_same t b broken
    (let s : SameRound (becomes (without_conn conn) b) (breaks_if (is_normal (link_of b.state app)) app t.now (becomes (without_conn conn) b)) =
    breaks_same (is_normal (link_of b.state app)) app t.now (becomes (without_conn conn) b) in
    record { round = s.round; order = s.order }) h)
  where
    broken : Sofar
    broken = end_breaks (Some app) t.now (becomes (without_conn conn) b)
round_kept t (Dials app dial) b may h = by_same t b (makes t.now (Dials app dial) b) (record { round = refl; order = refl }) h
round_kept t (Waits app conn) b may h =
    by_same t b (makes t.now (Waits app conn) b)
    (let s : SameRound b (drops_conn (waiting_conn b.state app) b) = drops_same (waiting_conn b.state app) b in record { round = s.round; order = s.order }) h
round_kept t (Opens app conn) b may h = by_none t (makes t.now (Opens app conn) b).state (ap is_some (opens_round app conn t.now b) ∙ may.round)
round_kept t (OpensNext app conn) b may h =
    by_none t (makes t.now (OpensNext app conn) b).state (ap is_some (opens_round app conn t.now (becomes next_caller b) ∙ may.over))
round_kept t (Resumes app session conn) b may h =
    by_same t b (makes t.now (Resumes app session conn) b)
    (let s : SameRound b (drops_conn (conn_of b.state session) b) = drops_same (conn_of b.state session) b in record { round = s.round; order = s.order }) h
round_kept t (GoesOn session conn taken) b may h =
    by_same t b (makes t.now (GoesOn session conn taken) b)
    (let s : SameRound (tells session conn 0 (old_welcome b.state session) b) (makes t.now (GoesOn session conn taken) b) =
    again_same session conn (resent (window_of b.state session) taken) (tells session conn 0 (old_welcome b.state session) b) in
    record { round = s.round; order = s.order }) h
round_kept t (ComesAgain session conn kept) b may h = by_same t b (makes t.now (ComesAgain session conn kept) b) (record { round = refl; order = refl }) h
round_kept t (AwaitsReset session conn at) b may h = by_same t b (makes t.now (AwaitsReset session conn at) b) (record { round = refl; order = refl }) h
round_kept t (Closes session app cause) b may h =
    by_close t session b (makes t.now (Closes session app cause) b)
    ((parts_same cause (conn_of b.state session) session (with_close session cause b)).round ∙ close_round session cause b)
    ((parts_same cause (conn_of b.state session) session (with_close session cause b)).order ∙ close_order session cause b) h
round_kept t (Acknowledges conn session up) b may h = by_same t b (makes t.now (Acknowledges conn session up) b) (record { round = refl; order = refl }) h
round_kept t (Takes conn session up) b may h = by_same t b (makes t.now (Takes conn session up) b) (record { round = refl; order = refl }) h
round_kept t (TakesDone conn session up) b may h =
    by_same t b (makes t.now (TakesDone conn session up) b) (record { round = is_some_map (λ (r : Round). without r session) b.state.round; order = refl }) h
round_kept t (Enters e) b may h = record {
  in_round = λ is. h.in_round (sym round ∙ is);
  has =
      λ is app q has.
      h.has (sym round ∙ is) app q
      (sym (item_still may.session may.its.up.message e may.item b.state.order app) ∙ subst (λ (es : List Entry). live_session es app ≡ Some q) order has);
}
  where
    round : is_some (makes t.now (Enters e) b).state.round ≡ is_some b.state.round
    round = ap (λ (d : DataState). is_some d.round) (appends_state e (writes (act.Enter b.state.server e) b)).state

    order : (makes t.now (Enters e) b).state.order ≡ b.state.order ++ e ∷ []
    order = ap (λ (d : DataState). d.order) (appends_state e (writes (act.Enter b.state.server e) b)).state
round_kept t (Fetches session run block) b may h =
    by_same t (puts session (down.Block (head_of b.state session) block) b) (makes t.now (Fetches session run block) b) (record { round = refl; order = refl })
    (by_windows t b (puts session (down.Block (head_of b.state session) block) b) (only_puts session (down.Block (head_of b.state session) block) b) h)
round_kept t (PutsNormal app session) b may h =
    by_windows t b (makes t.now (PutsNormal app session) b) (only_puts session (down.Normal (head_of b.state session)) b) h
round_kept t (PutsAck session) b may h = by_windows t b (makes t.now (PutsAck session) b) (only_puts session (down.Ack (head_of b.state session)) b) h
round_kept t (Replies at says) b may h = by_same t b (makes t.now (Replies at says) b) (record { round = refl; order = refl }) h
round_kept t (Leaves before r behind) b may h =
    by_windows t (becomes (with_replies (before ++ behind)) b) (makes t.now (Leaves before r behind) b)
    (only_leaves r.says (becomes (with_replies (before ++ behind)) b))
    (by_same t b (becomes (with_replies (before ++ behind)) b) (record { round = refl; order = refl }) h)
round_kept t (Bares session conn) b may h = by_same t b (makes t.now (Bares session conn) b) (record { round = refl; order = refl }) h
round_kept t (Locks call) b may h = by_same t b (makes t.now (Locks call) b) (calls_same call b) h
round_kept t RoundEnds b may h =
    by_none t (makes t.now RoundEnds b).state
    (ap is_some ((ends_aside (live_ends b.state.order) t.now).round (writes (act.Back b.state.server) (becomes (λ d. record d { round = None }) b))))
round_kept t (Ticks app session) b may h = by_same t b (makes t.now (Ticks app session) b) (record { round = refl; order = refl }) h

-- So it is where a step has come to by pieces.
pub round_before : (t : Coming) (b c : Sofar) → Pieced t b c → RoundWas t b.state → RoundWas t c.state
round_before t b c by h = kept_by_pieces t (λ x. RoundWas t x.state) (round_kept t) b c by h
