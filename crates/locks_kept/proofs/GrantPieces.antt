-- Grants that wait as replies say the length at which they were granted, over each small change of a data server's step.
use Rattle.std.proofs.Common.{◌≡◌, ◌≤◌, ◌+◌, ℕ, Bool, true, false, List, [], ◌∷◌, ◌++◌, filter, length, length-append, Option, Some, None, is_some, refl, sym, ◌∙◌, ap, subst, arith}
use Rattle.std.specs.List.{AllByRecursion}
use Rattle.plain_orders.specs.declared.act.Act.TheVariants as act
use Rattle.plain_orders.specs.declared.causes.ShutCause.{ShutCause}
use Rattle.plain_orders.specs.declared.causes.ShutCause.TheVariants.{Trouble, Replaced, Round}
use Rattle.plain_orders.specs.declared.entry.Entry.{Entry}
use Rattle.plain_orders.specs.declared.entry.Entry.TheVariants.{Closed, Opened}
use Rattle.link_states.specs.declared.link_event.LinkEvent.TheVariants as event
use Rattle.ecp_messages.specs.declared.down.Down.{Down}
use Rattle.ecp_messages.specs.declared.down.Down.TheVariants as down
use Rattle.end_words.specs.Windows.{resent}
use Rattle.lock_table.specs.declared.rows.Request.{Request}
use Rattle.lock_table.specs.LockWords.{Freed, asked, freed, without_grant, without_request, without_session}
use Rattle.data_rules.specs.DataState.{DataState}
use Rattle.data_rules.specs.declared.rows.LiveEnd.{LiveEnd}
use Rattle.data_rules.specs.declared.rows.Reply.{Reply}
use Rattle.data_rules.specs.declared.rows.Says.{Says}
use Rattle.data_rules.specs.declared.rows.Says.TheVariants.{AnswerOf, EpochWelcome, GrantOf, NewWelcome, ResetOf}
use Rattle.data_rules.specs.Callers.{old_welcome, sends_again, waiting_conn}
use Rattle.data_rules.specs.Closing.{silenced}
use Rattle.data_rules.specs.Conns.{breaks_if, drops_conn, end_breaks, is_normal, link_of, with_event, without_conn}
use Rattle.data_rules.specs.Entering.{appends, enters}
use Rattle.data_rules.specs.Granting.{frees, grants, grants_one, locks_become, with_locks}
use Rattle.data_rules.specs.Opening.{breaks_unless, live_ends, opens}
use Rattle.data_rules.specs.Puts.{Sofar, becomes, conn_of, head_of, is_reply_elsewhere, puts, says_on, says_to, tells, window_of, writes}
use Rattle.cluster_invariant.specs.Words.{IsFront}
use Rattle.cluster_invariant.proofs.AllLists.{all_filtered, all_follow, all_joined}
use Rattle.cluster_invariant.proofs.Deeds.{Does, deeds_grow, order_by}
use Rattle.cluster_invariant.proofs.PieceDeeds.{does_piece}
use Rattle.cluster_invariant.proofs.PieceKinds.{Ending, There, Here, LockCall, Asks, Unlocks, Withdraws, GivesBack, ForgetsTicket, Claims, Cancels, Releases, Piece, Accepts, Forgets, Breaks, Dials, Waits, Opens, OpensNext, Resumes, GoesOn, ComesAgain, AwaitsReset, Closes, Acknowledges, Takes, TakesDone, Enters, Fetches, PutsNormal, PutsAck, Replies, Leaves, Bares, Locks as CallsLocks, RoundEnds, Ticks, calls, cuts_if, end_back, ends_back, makes, next_caller, parts_from, shuts, with_close, with_replies}
use Rattle.cluster_invariant.proofs.PieceMay.{Coming, RepliesMay}
use Rattle.cluster_invariant.proofs.Pieces.{MayMake}
use Rattle.cluster_invariant.proofs.PutLaws.{OnlyWindows, appends_state, only_leaves, only_puts}
use Rattle.cluster_promises.specs.Locks.{GrantWaits}

-- each Grant among the replies does, by the length so far
abbrev pub AllWaits : ℕ → List Reply → Type 0
AllWaits k rs = AllByRecursion (λ (r : Reply). GrantWaits k r.at r.says) rs

waits_up : (m n at : ℕ) (says : Says) → m ≤ n → GrantWaits m at says → GrantWaits n at says
waits_up m n at (NewWelcome conn session) more is = tt
waits_up m n at (EpochWelcome conn session kept) more is = tt
waits_up m n at (ResetOf conn session place) more is = tt
waits_up m n at (GrantOf session ticket number) more is = (is.0, omega (arith, is.1, more))
waits_up m n at (AnswerOf session about job number place sum) more is = tt

-- and so by a greater one
all_up : (m n : ℕ) (rs : List Reply) → m ≤ n → AllWaits m rs → AllWaits n rs
all_up m n rs more all =
    all_follow (λ (r : Reply). GrantWaits m r.at r.says) (λ (r : Reply). GrantWaits n r.at r.says) (λ r is. waits_up m n r.at r.says more is) rs all

module _ (k : ℕ) where
  abbrev W : List Reply → Type 0
  W rs = AllWaits k rs

  -- from one state to another
  abbrev Less : DataState → DataState → Type 0
  Less d e = W d.replies → W e.replies

  less_same : (d e : DataState) → e.replies ≡ d.replies → Less d e
  less_same d e same w = subst W (sym same) w

  left : (q : Reply → Bool) (rs : List Reply) → W rs → W (filter q rs)
  left q rs w = all_filtered (λ (r : Reply). GrantWaits k r.at r.says) q rs w

  pushed : (rs : List Reply) (r : Reply) → GrantWaits k r.at r.says → W rs → W (rs ++ r ∷ [])
  pushed rs r is w = all_joined (λ (q : Reply). GrantWaits k q.at q.says) rs (r ∷ []) w (is, tt)

  less_windows : (b c : Sofar) → OnlyWindows b c → Less b.state c.state
  less_windows b c o = less_same b.state c.state (ap (λ (d : DataState). d.replies) o.state)

  less_appends : (e : Entry) (b : Sofar) → Less b.state (appends e b).state
  less_appends e b = less_same b.state (appends e b).state (ap (λ (d : DataState). d.replies) (appends_state e b).state)

  less_again : (q conn : ℕ) (ms : List (ℕ × Down)) (b : Sofar) → Less b.state (sends_again q conn ms b).state
  less_again q conn [] b w = w
  less_again q conn (m ∷ ms) b w = less_again q conn ms (tells q conn m.0 m.1 b) w

  less_gone : (conn : ℕ) (d : DataState) → Less d (without_conn conn d)
  less_gone conn d w = left (is_reply_elsewhere (says_on conn)) d.replies w

  less_drop : (o : Option ℕ) (b : Sofar) → Less b.state (drops_conn o b).state
  less_drop None b w = w
  less_drop (Some conn) b w = less_gone conn b.state w

  less_cut : (ending : Ending) (conn : ℕ) (b : Sofar) → Less b.state (cuts_if ending conn b).state
  less_cut There conn b w = w
  less_cut Here conn b w = w

  less_breaks : (app now : ℕ) (b : Sofar) → Less b.state (end_breaks (Some app) now b).state
  less_breaks app now b w = go (is_normal (link_of b.state app))
    where
      go : (normal : Bool) → W (becomes (with_event app now event.Ended) (breaks_if normal app now b)).state.replies
      go true = w
      go false = w

  less_back : (joined : Bool) (app now : ℕ) (b : Sofar) → Less b.state (breaks_unless joined app now
      (becomes (with_event app now (event.RoundOver joined)) b)).state
  less_back true app now b w = w
  less_back false app now b w = w

  less_backs : (xs : List LiveEnd) (now : ℕ) (b : Sofar) → Less b.state (ends_back xs now b).state
  less_backs [] now b w = w
  less_backs (x ∷ xs) now b w =
      less_backs xs now (end_back x.app x.session now b) (less_back (is_some (conn_of b.state x.session)) x.app now b w)

  less_opens : (app conn now : ℕ) (b : Sofar) → Less b.state (opens app conn now b).state
  less_opens app conn now b w =
      pushed (enters (Opened s app) b).state.replies (record { at = s; says = NewWelcome conn s }) tt
      (less_appends (Opened s app) (writes (act.Enter b.state.server (Opened s app)) b) w)
    where
      s : ℕ
      s = length b.state.order + 1

  less_parts : (cause : ShutCause) (o : Option ℕ) (s : ℕ) (b : Sofar) → Less b.state (parts_from cause o s b).state
  less_parts (Trouble time) None s b w = w
  less_parts (Trouble time) (Some conn) s b w = w
  less_parts Replaced o s b w = less_drop o b w
  less_parts (Round time) None s b w = w
  less_parts (Round time) (Some conn) s b w = w

  less_shuts : (s app : ℕ) (cause : ShutCause) (now : ℕ) (b : Sofar) → Less b.state (shuts s app cause now b).state
  less_shuts s app cause now b w =
      less_parts cause (conn_of b.state s) s (with_close s cause b)
      (less_appends (Closed s) (becomes (silenced s) (writes (act.Shut b.state.server s cause) b)) (left (is_reply_elsewhere (says_to s)) b.state.replies w))

  -- what a call of the table grants
  less_grants : (rs : List Request) (b : Sofar) → length b.state.order ≤ k → Less b.state (grants rs b).state
  less_grants [] b low w = w
  less_grants (r ∷ rs) b low w =
      less_grants rs (grants_one r b) low
      (pushed b.state.replies (record { at = length b.state.order; says = GrantOf r.who.session r.ticket (length b.state.order) }) (refl, low) w)

  less_locks : (f : Freed) (b : Sofar) → length b.state.order ≤ k → Less b.state (locks_become f b).state
  less_locks f b low w = less_grants f.grants (becomes (with_locks f.locks) b) low w

  less_calls : (call : LockCall) (b : Sofar) → length b.state.order ≤ k → Less b.state (calls call b).state
  less_calls (Asks r) b low w = less_locks (asked b.state.locks r (length b.state.order)) b low w
  less_calls (Unlocks who mode key) b low w = less_locks (freed b.state.locks who key mode (length b.state.order)) (frees who mode key b) low w
  less_calls (Withdraws r session ticket) b low w =
      less_locks (without_request b.state.locks session ticket (length b.state.order)) (frees r.who r.mode r.name b) low w
  less_calls (GivesBack r) b low w = less_locks (without_grant b.state.locks r (length b.state.order)) (frees r.who r.mode r.name b) low w
  less_calls (ForgetsTicket r) b low w = w
  less_calls (Claims who key mode number at) b low w = w
  less_calls (Cancels r) b low w = less_locks (without_request b.state.locks r.who.session r.ticket (length b.state.order)) b low w
  less_calls (Releases session) b low w =
      less_locks (without_session b.state.locks session (length b.state.order)) (writes (act.Release b.state.server session) b) low w

  -- a reply that is made by itself is no Grant
  made_waits : (t : Coming) (at : ℕ) (says : Says) (b : Sofar) → RepliesMay t at says b → GrantWaits k at says
  made_waits t at (NewWelcome conn session) b may = tt
  made_waits t at (EpochWelcome conn session kept) b may = tt
  made_waits t at (ResetOf conn session place) b may = tt
  made_waits t at (GrantOf session ticket number) b may = absurd may
  made_waits t at (AnswerOf session about job number place sum) b may = tt

  without_one : (before behind : List Reply) (r : Reply) → W (before ++ r ∷ behind) → W (before ++ behind)
  without_one [] behind r w = w.1
  without_one (x ∷ before) behind r w = (w.0, without_one before behind r w.1)

  less_piece : (t : Coming) (p : Piece) (b : Sofar) → MayMake t p b → length b.state.order ≤ k → Less b.state (makes t.now p b).state
  less_piece t (Accepts conn) b may low w = w
  less_piece t (Forgets ending conn) b may low w = less_cut ending conn (becomes (without_conn conn) b) (less_gone conn b.state w)
  less_piece t (Breaks ending conn session app) b may low w =
      less_cut ending conn (end_breaks (Some app) t.now (becomes (without_conn conn) b)) (less_breaks app t.now (becomes (without_conn conn) b)
      (less_gone conn b.state w))
  less_piece t (Dials app dial) b may low w = w
  less_piece t (Waits app conn) b may low w = less_drop (waiting_conn b.state app) b w
  less_piece t (Opens app conn) b may low w = less_opens app conn t.now b w
  less_piece t (OpensNext app conn) b may low w = less_opens app conn t.now (becomes next_caller b) w
  less_piece t (Resumes app session conn) b may low w = less_drop (conn_of b.state session) b w
  less_piece t (GoesOn session conn taken) b may low w =
      less_again session conn (resent (window_of b.state session) taken) (tells session conn 0 (old_welcome b.state session) b) w
  less_piece t (ComesAgain session conn kept) b may low w = pushed b.state.replies _ tt w
  less_piece t (AwaitsReset session conn at) b may low w = pushed b.state.replies _ tt w
  less_piece t (Closes session app cause) b may low w = less_shuts session app cause t.now b w
  less_piece t (Acknowledges conn session f) b may low w = w
  less_piece t (Takes conn session f) b may low w = w
  less_piece t (TakesDone conn session f) b may low w = w
  less_piece t (Enters e) b may low w = less_appends e (writes (act.Enter b.state.server e) b) w
  less_piece t (Fetches session run block) b may low w =
      less_windows b (puts session (down.Block (head_of b.state session) block) b) (only_puts session (down.Block (head_of b.state session) block) b) w
  less_piece t (PutsNormal app session) b may low w =
      less_windows b (puts session (down.Normal (head_of b.state session)) b) (only_puts session (down.Normal (head_of b.state session)) b) w
  less_piece t (PutsAck session) b may low w =
      less_windows b (puts session (down.Ack (head_of b.state session)) b) (only_puts session (down.Ack (head_of b.state session)) b) w
  less_piece t (Replies at says) b may low w = pushed b.state.replies (record { at = at; says = says }) (made_waits t at says b may) w
  less_piece t (Leaves before r behind) b may low w =
      less_windows (becomes (with_replies (before ++ behind)) b) (makes t.now (Leaves before r behind) b) (only_leaves r.says
      (becomes (with_replies (before ++ behind)) b))
      (without_one before behind r (subst W may.its w))
  less_piece t (Bares session conn) b may low w = w
  less_piece t (CallsLocks call) b may low w = less_calls call b low w
  less_piece t RoundEnds b may low w =
      less_backs (live_ends b.state.order) t.now (writes (act.Back b.state.server) (becomes (λ d. record d { round = None }) b)) w
  less_piece t (Ticks app session) b may low w = w

-- Each small change.
pub waits_piece : (t : Coming) (p : Piece) (b : Sofar) → MayMake t p b → AllWaits (length b.state.order) b.state.replies
    → AllWaits (length (makes t.now p b).state.order) (makes t.now p b).state.replies
waits_piece t p b may w =
    less_piece (length (makes t.now p b).state.order) t p b may longer
    (all_up (length b.state.order) (length (makes t.now p b).state.order) b.state.replies longer w)
  where
    by : Does b (makes t.now p b) → length b.state.order ≤ length (makes t.now p b).state.order
    by does = go (deeds_grow does.deeds b.state.order)
      where
        go : IsFront b.state.order (order_by does.deeds b.state.order) → length b.state.order ≤ length (makes t.now p b).state.order
        go f = omega (arith, ap length (does.order ∙ f.1), length-append b.state.order f.0)

    longer : length b.state.order ≤ length (makes t.now p b).state.order
    longer = by (does_piece t p b may)
