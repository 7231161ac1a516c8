-- What the small changes of a data server's step write and enter: deeds, behind the act of a save.
use Rattle.std.proofs.Common.{◌≡◌, ℕ, ◌+◌, Bool, true, false, List, [], ◌∷◌, ◌++◌, length, Option, Some, None, is_some, refl, ap, subst}
use Rattle.plain_orders.specs.declared.act.Act.TheVariants as act
use Rattle.plain_orders.specs.declared.causes.ShutCause.{ShutCause}
use Rattle.plain_orders.specs.declared.causes.ShutCause.TheVariants.{Trouble, Replaced, Round}
use Rattle.plain_orders.specs.declared.entry.Entry.{Entry}
use Rattle.plain_orders.specs.declared.entry.Entry.TheVariants.{Opened, Closed}
use Rattle.plain_orders.specs.declared.mode.Mode.{Mode}
use Rattle.link_states.specs.declared.link_event.LinkEvent.TheVariants.{Ended, RoundOver}
use Rattle.ecp_messages.specs.declared.down.Down.{Down}
use Rattle.ecp_messages.specs.declared.down.Down.TheVariants as down
use Rattle.ecp_messages.specs.declared.up.Up.{Up}
use Rattle.ecp_messages.specs.declared.up.Up.TheVariants.{Hello, Recover, Update as UpdateUp, Add, Fetch, Ask, Unlock, Cancel, Commit as CommitUp, Rollback as RollbackUp, Sync, Done, Claim, Bare}
use Rattle.end_words.specs.Windows.{resent}
use Rattle.lock_table.specs.declared.rows.Who.{Who}
use Rattle.lock_table.specs.LockWords.{asked, freed, without_request, without_grant, without_session}
use Rattle.data_rules.specs.DataState.{DataState}
use Rattle.data_rules.specs.declared.data_in.DataIn.{DataIn}
use Rattle.data_rules.specs.declared.data_outs.DataOuts.{DataOuts}
use Rattle.data_rules.specs.declared.rows.LiveEnd.{LiveEnd}
use Rattle.data_rules.specs.Puts.{Sofar, becomes, writes, tells, puts, conn_of, window_of, head_of}
use Rattle.data_rules.specs.Entering.{appends, enters}
use Rattle.data_rules.specs.Granting.{frees}
use Rattle.data_rules.specs.Conns.{link_of, is_normal, with_event, without_conn, breaks_if, end_breaks, drops_conn}
use Rattle.data_rules.specs.Closing.{silenced}
use Rattle.data_rules.specs.Opening.{opens, breaks_unless, live_ends}
use Rattle.data_rules.specs.Callers.{is_let_in, waiting_conn, sends_again, old_welcome, goes_on}
use Rattle.data_rules.specs.Step.{DataMay, DataStep, made}
use Rattle.cluster_invariant.proofs.PutLaws.{OnlyWindows, Appended, only_puts, only_leaves, appends_state}
use Rattle.cluster_invariant.proofs.Deeds.{Still, Does, Closes as ClosesDeed, Releases as ReleasesDeed, ComesBack, Frees, Breaks as BreaksDeed, IsEntered, still_same, still_then, does_still, does_then, still_does, does_then_still, does_one, does_enters, does_locks}
use Rattle.cluster_invariant.proofs.PieceKinds.{Ending, There, Here, LockCall, Asks, Unlocks, Withdraws, GivesBack, ForgetsTicket, Claims, Cancels, Releases, Piece, Accepts, Forgets, Breaks, Dials, Waits, Opens, OpensNext, Resumes, GoesOn, ComesAgain, AwaitsReset, Closes, Acknowledges, Takes, TakesDone, Enters, Fetches, PutsNormal, PutsAck, Replies, Leaves, Bares, Locks, RoundEnds, Ticks, cuts_if, calls, parts_from, with_close, shuts, next_caller, end_back, ends_back, round_over, with_replies, makes}
use Rattle.cluster_invariant.proofs.PieceMay.{Coming, begins, item_of}
use Rattle.cluster_invariant.proofs.Pieces.{MayMake, kept_by_pieces}
use Rattle.cluster_invariant.proofs.PiecesOfSteps.{StepFrom, step_pieces}

-- nothing but the windows is changed
still_windows : (b c : Sofar) → OnlyWindows b c → Still b c
still_windows b c o = record {
  acts = o.acts;
  order = ap (λ (d : DataState). d.order) o.state;
  synced = ap (λ (d : DataState). d.synced) o.state;
  server = ap (λ (d : DataState). d.server) o.state;
  times = ap (λ (d : DataState). d.times) o.state;
}

still_cuts : (ending : Ending) (conn : ℕ) (b : Sofar) → Still b (cuts_if ending conn b)
still_cuts There conn b = still_same b
still_cuts Here conn b = record { acts = refl; order = refl; synced = refl; server = refl; times = refl }

still_drops_conn : (o : Option ℕ) (b : Sofar) → Still b (drops_conn o b)
still_drops_conn None b = still_same b
still_drops_conn (Some conn) b = record { acts = refl; order = refl; synced = refl; server = refl; times = refl }

does_breaks_if : (normal : Bool) (app now : ℕ) (b : Sofar) → Does b (breaks_if normal app now b)
does_breaks_if true app now b = does_one b (breaks_if true app now b) (BreaksDeed app now) tt refl refl refl refl refl
does_breaks_if false app now b = does_still b b (still_same b)

does_breaks : (ending : Ending) (conn app now : ℕ) (b : Sofar) → Does b (cuts_if ending conn (end_breaks (Some app) now (becomes (without_conn conn) b)))
does_breaks ending conn app now b =
    does_then_still b (end_breaks (Some app) now (becomes (without_conn conn) b))
    (cuts_if ending conn (end_breaks (Some app) now (becomes (without_conn conn) b)))
    (go (breaks_if (is_normal (link_of b.state app)) app now (becomes (without_conn conn) b))
    (still_does b (becomes (without_conn conn) b) (breaks_if (is_normal (link_of b.state app)) app now (becomes (without_conn conn) b))
    (record { acts = refl; order = refl; synced = refl; server = refl; times = refl })
    (does_breaks_if (is_normal (link_of b.state app)) app now (becomes (without_conn conn) b))))
    (still_cuts ending conn (end_breaks (Some app) now (becomes (without_conn conn) b)))
  where
    go : (c : Sofar) → Does b c → Does b (becomes (with_event app now Ended) c)
    go c first =
        does_then_still b c (becomes (with_event app now Ended) c) first
        (record { acts = refl; order = refl; synced = refl; server = refl; times = refl })

does_opens : (app conn now : ℕ) (b : Sofar) → Does b (opens app conn now b)
does_opens app conn now b =
    does_then_still b (enters (Opened (length b.state.order + 1) app) b) (opens app conn now b)
    (does_enters (Opened (length b.state.order + 1) app) b tt) (record { acts = refl; order = refl; synced = refl; server = refl; times = refl })

still_sends_again : (s conn : ℕ) (ms : List (ℕ × Down)) (b : Sofar) → Still b (sends_again s conn ms b)
still_sends_again s conn [] b = still_same b
still_sends_again s conn (m ∷ ms) b =
    still_then b (tells s conn m.0 m.1 b) (sends_again s conn (m ∷ ms) b)
    (record { acts = refl; order = refl; synced = refl; server = refl; times = refl }) (still_sends_again s conn ms (tells s conn m.0 m.1 b))

still_goes_on : (s conn taken : ℕ) (b : Sofar) → Still b (goes_on s conn taken b)
still_goes_on s conn taken b =
    still_then b (tells s conn 0 (old_welcome b.state s) b) (goes_on s conn taken b)
    (record { acts = refl; order = refl; synced = refl; server = refl; times = refl })
    (still_sends_again s conn (resent (window_of b.state s) taken) (tells s conn 0 (old_welcome b.state s) b))

still_parts : (cause : ShutCause) (o : Option ℕ) (s : ℕ) (b : Sofar) → Still b (parts_from cause o s b)
still_parts (Trouble time) None s b = still_same b
still_parts (Trouble time) (Some conn) s b = record { acts = refl; order = refl; synced = refl; server = refl; times = refl }
still_parts Replaced o s b = still_drops_conn o b
still_parts (Round time) None s b = still_same b
still_parts (Round time) (Some conn) s b = record { acts = refl; order = refl; synced = refl; server = refl; times = refl }

does_close : (s : ℕ) (cause : ShutCause) (b : Sofar) → Does b (with_close s cause b)
does_close s cause b = go (appends_state (Closed s) (becomes (silenced s) (writes (act.Shut b.state.server s cause) b)))
  where
    go : Appended (Closed s) (becomes (silenced s) (writes (act.Shut b.state.server s cause) b))
        (appends (Closed s) (becomes (silenced s) (writes (act.Shut b.state.server s cause) b)))
        → Does b (with_close s cause b)
    go a =
        does_one b (with_close s cause b) (ClosesDeed s cause) tt a.acts (ap (λ (d : DataState). d.order) a.state) (ap (λ (d : DataState). d.synced) a.state)
        (ap (λ (d : DataState). d.server) a.state) (ap (λ (d : DataState). d.times) a.state)

does_shuts : (s app : ℕ) (cause : ShutCause) (now : ℕ) (b : Sofar) → Does b (shuts s app cause now b)
does_shuts s app cause now b =
    does_then_still b (with_close s cause b) (shuts s app cause now b) (does_close s cause b)
    (still_then (with_close s cause b) (parts_from cause (conn_of b.state s) s (with_close s cause b)) (shuts s app cause now b)
    (still_parts cause (conn_of b.state s) s (with_close s cause b)) (record { acts = refl; order = refl; synced = refl; server = refl; times = refl }))

does_frees : (w : Who) (m : Mode) (key : List ℕ) (b : Sofar) → Does b (frees w m key b)
does_frees w m key b = does_one b (frees w m key b) (Frees w.session w.job m key) tt refl refl refl refl refl

does_calls : (call : LockCall) (b : Sofar) → Does b (calls call b)
does_calls (Asks r) b = does_locks (asked b.state.locks r (length b.state.order)) b
does_calls (Unlocks w mode key) b =
    does_then b (frees w mode key b) (calls (Unlocks w mode key) b) (does_frees w mode key b)
    (does_locks (freed b.state.locks w key mode (length b.state.order)) (frees w mode key b))
does_calls (Withdraws r s ticket) b =
    does_then b (frees r.who r.mode r.name b) (calls (Withdraws r s ticket) b) (does_frees r.who r.mode r.name b)
    (does_locks (without_request b.state.locks s ticket (length b.state.order)) (frees r.who r.mode r.name b))
does_calls (GivesBack r) b =
    does_then b (frees r.who r.mode r.name b) (calls (GivesBack r) b) (does_frees r.who r.mode r.name b)
    (does_locks (without_grant b.state.locks r (length b.state.order)) (frees r.who r.mode r.name b))
does_calls (ForgetsTicket r) b = does_still b (calls (ForgetsTicket r) b) (record { acts = refl; order = refl; synced = refl; server = refl; times = refl })
does_calls (Claims w key mode number at) b =
    does_still b (calls (Claims w key mode number at) b) (record { acts = refl; order = refl; synced = refl; server = refl; times = refl })
does_calls (Cancels r) b = does_locks (without_request b.state.locks r.who.session r.ticket (length b.state.order)) b
does_calls (Releases s) b =
    does_then b (writes (act.Release b.state.server s) b) (calls (Releases s) b)
    (does_one b (writes (act.Release b.state.server s) b) (ReleasesDeed s) tt refl refl refl refl refl)
    (does_locks (without_session b.state.locks s (length b.state.order)) (writes (act.Release b.state.server s) b))

does_end_back : (app s now : ℕ) (b : Sofar) → Does b (end_back app s now b)
does_end_back app s now b = go (is_some (conn_of b.state s))
  where
    go : (joined : Bool) → Does b (breaks_unless joined app now (becomes (with_event app now (RoundOver joined)) b))
    go true = does_still b (becomes (with_event app now (RoundOver true)) b) (record { acts = refl; order = refl; synced = refl; server = refl; times = refl })
    go false = does_one b (breaks_unless false app now (becomes (with_event app now (RoundOver false)) b)) (BreaksDeed app now) tt refl refl refl refl refl

does_ends_back : (xs : List LiveEnd) (now : ℕ) (b : Sofar) → Does b (ends_back xs now b)
does_ends_back [] now b = does_still b b (still_same b)
does_ends_back (x ∷ xs) now b =
    does_then b (end_back x.app x.session now b) (ends_back (x ∷ xs) now b) (does_end_back x.app x.session now b)
    (does_ends_back xs now (end_back x.app x.session now b))

-- the round is over, and no end is told of it yet
abbrev back_written : Sofar → Sofar
back_written b = writes (act.Back b.state.server) (becomes (λ d. record d { round = None }) b)

does_round : (now : ℕ) (b : Sofar) → Does b (round_over now b)
does_round now b =
    does_then b (back_written b) (round_over now b) (does_one b (back_written b) ComesBack tt refl refl refl refl refl)
    (does_ends_back (live_ends b.state.order) now (back_written b))

some_same : (x y : Entry) → Some x ≡ Some y → x ≡ y
some_same x y same = cc

-- an item enters by itself
entered : (s : ℕ) (m : Up) (e : Entry) → item_of s m ≡ Some e → IsEntered e
entered s (Hello app dial) e its = absurd cc
entered s (Recover app q epoch taken dial) e its = absurd cc
entered s (UpdateUp w job txn op) e its = subst IsEntered (some_same _ e its) tt
entered s (Add w job key amount) e its = subst IsEntered (some_same _ e its) tt
entered s (Fetch key) e its = absurd cc
entered s (Ask ticket job mode key) e its = absurd cc
entered s (Unlock job mode key) e its = absurd cc
entered s (Cancel ticket) e its = absurd cc
entered s (CommitUp w job txn wanted) e its = subst IsEntered (some_same _ e its) tt
entered s (RollbackUp w job txn) e its = subst IsEntered (some_same _ e its) tt
entered s (Sync ticket) e its = absurd cc
entered s Done e its = absurd cc
entered s (Claim job mode number at key) e its = absurd cc
entered s Bare e its = absurd cc

-- What each piece does.
pub does_piece : (t : Coming) (p : Piece) (b : Sofar) → MayMake t p b → Does b (makes t.now p b)
does_piece t (Accepts conn) b may =
    does_still b (makes t.now (Accepts conn) b) (record { acts = refl; order = refl; synced = refl; server = refl; times = refl })
does_piece t (Forgets ending conn) b may =
    does_still b (makes t.now (Forgets ending conn) b)
    (still_then b (becomes (without_conn conn) b) (makes t.now (Forgets ending conn) b)
    (record { acts = refl; order = refl; synced = refl; server = refl; times = refl }) (still_cuts ending conn (becomes (without_conn conn) b)))
does_piece t (Breaks ending conn session app) b may = does_breaks ending conn app t.now b
does_piece t (Dials app dial) b may =
    does_still b (makes t.now (Dials app dial) b) (record { acts = refl; order = refl; synced = refl; server = refl; times = refl })
does_piece t (Waits app conn) b may =
    does_still b (is_let_in true app conn t.now b)
    (still_then b (drops_conn (waiting_conn b.state app) b) (is_let_in true app conn t.now b) (still_drops_conn (waiting_conn b.state app) b)
    (record { acts = refl; order = refl; synced = refl; server = refl; times = refl }))
does_piece t (Opens app conn) b may = does_opens app conn t.now b
does_piece t (OpensNext app conn) b may =
    still_does b (becomes next_caller b) (opens app conn t.now (becomes next_caller b))
    (record { acts = refl; order = refl; synced = refl; server = refl; times = refl }) (does_opens app conn t.now (becomes next_caller b))
does_piece t (Resumes app session conn) b may =
    does_still b (makes t.now (Resumes app session conn) b)
    (still_then b (drops_conn (conn_of b.state session) b) (makes t.now (Resumes app session conn) b) (still_drops_conn (conn_of b.state session) b)
    (record { acts = refl; order = refl; synced = refl; server = refl; times = refl }))
does_piece t (GoesOn session conn taken) b may = does_still b (goes_on session conn taken b) (still_goes_on session conn taken b)
does_piece t (ComesAgain session conn kept) b may =
    does_still b (makes t.now (ComesAgain session conn kept) b) (record { acts = refl; order = refl; synced = refl; server = refl; times = refl })
does_piece t (AwaitsReset session conn at) b may =
    does_still b (makes t.now (AwaitsReset session conn at) b) (record { acts = refl; order = refl; synced = refl; server = refl; times = refl })
does_piece t (Closes session app cause) b may = does_shuts session app cause t.now b
does_piece t (Acknowledges conn session up) b may =
    does_still b (makes t.now (Acknowledges conn session up) b) (record { acts = refl; order = refl; synced = refl; server = refl; times = refl })
does_piece t (Takes conn session up) b may =
    does_still b (makes t.now (Takes conn session up) b) (record { acts = refl; order = refl; synced = refl; server = refl; times = refl })
does_piece t (TakesDone conn session up) b may =
    does_still b (makes t.now (TakesDone conn session up) b) (record { acts = refl; order = refl; synced = refl; server = refl; times = refl })
does_piece t (Enters e) b may = does_enters e b (entered may.session may.its.up.message e may.item)
does_piece t (Fetches session run block) b may =
    does_still b (makes t.now (Fetches session run block) b)
    (still_then b (puts session (down.Block (head_of b.state session) block) b) (makes t.now (Fetches session run block) b)
    (still_windows b (puts session (down.Block (head_of b.state session) block) b) (only_puts session (down.Block (head_of b.state session) block) b))
    (record { acts = refl; order = refl; synced = refl; server = refl; times = refl }))
does_piece t (PutsNormal app session) b may =
    does_still b (makes t.now (PutsNormal app session) b) (still_windows b (makes t.now (PutsNormal app session) b) (only_puts session _ b))
does_piece t (PutsAck session) b may =
    does_still b (makes t.now (PutsAck session) b) (still_windows b (makes t.now (PutsAck session) b) (only_puts session _ b))
does_piece t (Replies at says) b may =
    does_still b (makes t.now (Replies at says) b) (record { acts = refl; order = refl; synced = refl; server = refl; times = refl })
does_piece t (Leaves before r behind) b may =
    does_still b (makes t.now (Leaves before r behind) b)
    (still_then b (becomes (with_replies (before ++ behind)) b) (makes t.now (Leaves before r behind) b)
    (record { acts = refl; order = refl; synced = refl; server = refl; times = refl })
    (still_windows (becomes (with_replies (before ++ behind)) b) (makes t.now (Leaves before r behind) b)
    (only_leaves r.says (becomes (with_replies (before ++ behind)) b))))
does_piece t (Bares session conn) b may =
    does_still b (makes t.now (Bares session conn) b) (record { acts = refl; order = refl; synced = refl; server = refl; times = refl })
does_piece t (Locks call) b may = does_calls call b
does_piece t RoundEnds b may = does_round t.now b
does_piece t (Ticks app session) b may =
    does_still b (makes t.now (Ticks app session) b) (record { acts = refl; order = refl; synced = refl; server = refl; times = refl })

-- What each step does, behind the act of a save.
pub does_step : (old : DataState) (now : ℕ) (input : DataIn) (outs : DataOuts) (new : DataState)
    → StepFrom old → DataMay old input → DataStep old now input outs new
    → Does (begins (record { old = old; now = now; input = input })) (made new outs)
does_step old now input outs new from may steps =
    kept_by_pieces (record { old = old; now = now; input = input }) (λ (c : Sofar). Does (begins (record { old = old; now = now; input = input })) c)
    (λ p b known does. does_then (begins (record { old = old; now = now; input = input })) b (makes now p b) does
    (does_piece (record { old = old; now = now; input = input }) p b known))
    (begins (record { old = old; now = now; input = input })) (made new outs) (step_pieces old now input outs new from may steps)
    (does_still (begins (record { old = old; now = now; input = input })) (begins (record { old = old; now = now; input = input }))
    (still_same (begins (record { old = old; now = now; input = input }))))
