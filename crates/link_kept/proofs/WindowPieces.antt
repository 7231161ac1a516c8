-- Each small change of a data server's step keeps its windows, if the sessions that it puts to are served.
use Rattle.std.proofs.Common.{◌≡◌, ◌≤◌, ℕ, ◌+◌, Bool, true, false, List, [], ◌∷◌, ◌++◌, length, Option, Some, None, refl, sym, ◌∙◌, ap, subst}
use Rattle.std.specs.Prelude.{⊤, ◌==◌, not}
use Rattle.std.proofs.lemmas.Bool.{eq-eqb, true≢false}
use Rattle.plain_orders.specs.declared.causes.ShutCause.{ShutCause}
use Rattle.plain_orders.specs.declared.causes.ShutCause.TheVariants.{Trouble, Replaced, Round}
use Rattle.plain_orders.specs.declared.act.Act.TheVariants as act
use Rattle.plain_orders.specs.declared.entry.Entry.{Entry}
use Rattle.plain_orders.specs.declared.entry.Entry.TheVariants.{Opened, Closed, Update as UpdateEntry, Commit as CommitEntry, Rollback as RollbackEntry}
use Rattle.plain_orders.specs.declared.op.Op.TheVariants as ops
use Rattle.plain_orders.specs.Entries.{live}
use Rattle.ecp_messages.specs.declared.down.Down.{Down}
use Rattle.ecp_messages.specs.declared.down.Down.TheVariants as down
use Rattle.ecp_messages.specs.declared.up.Up.{Up}
use Rattle.ecp_messages.specs.declared.up.Up.TheVariants.{Hello, Recover, Update, Add, Fetch, Ask, Unlock, Cancel, Commit, Rollback, Sync, Done, Claim, Bare}
use Rattle.end_words.specs.Windows.{fresh, resent, with_ack, with_taken}
use Rattle.lock_table.specs.LockWords.{Freed, asked, freed, without_request, without_grant, without_session}
use Rattle.block_holders.specs.declared.noted.Noted.{Noted}
use Rattle.block_holders.specs.HolderWords.{is_noted_elsewhere, forgotten}
use Rattle.data_rules.specs.DataState.{DataState, SessionWindow}
use Rattle.data_rules.specs.declared.rows.LiveEnd.{LiveEnd}
use Rattle.data_rules.specs.declared.rows.Says.{Says}
use Rattle.data_rules.specs.declared.rows.Says.TheVariants.{NewWelcome, EpochWelcome, ResetOf, GrantOf, AnswerOf}
use Rattle.data_rules.specs.Puts.{Sofar, head_of, set_window, becomes, writes, tells, conn_of, window_in, window_of}
use Rattle.data_rules.specs.Leaving.{leaves, new_welcome, epoch_welcome}
use Rattle.data_rules.specs.Entering.{enters}
use Rattle.data_rules.specs.Granting.{frees, locks_become}
use Rattle.data_rules.specs.Conns.{link_of, is_normal, without_conn, breaks_if, end_breaks, drops_conn}
use Rattle.data_rules.specs.Closing.{silenced}
use Rattle.data_rules.specs.Opening.{opens, live_ends}
use Rattle.data_rules.specs.Callers.{is_let_in, waiting_conn, sends_again, old_welcome}
use Rattle.cluster_runs.specs.Sent.{Lane}
use Rattle.cluster_invariant.specs.Link.{LaneCounts}
use Rattle.cluster_invariant.proofs.AllLists.{all_filtered, all_follow, all_both, all_passed}
use Rattle.cluster_invariant.proofs.PutLaws.{only_locks, appends_state}
use Rattle.cluster_invariant.proofs.PiecesOfRounds.{ends_aside}
use Rattle.cluster_invariant.proofs.PieceKinds.{Ending, There, Here, LockCall, Asks, Unlocks, Withdraws, GivesBack, ForgetsTicket, Claims, Cancels, Releases, Piece, Accepts, Forgets, Breaks, Dials, Waits, Opens, OpensNext, Resumes, GoesOn, ComesAgain, AwaitsReset, Closes, Acknowledges, Takes, TakesDone, Enters, Fetches, PutsNormal, PutsAck, Replies, Leaves, Bares, Locks, RoundEnds, Ticks, cuts_if, calls, parts_from, with_close, shuts, next_caller, ends_back, round_over, with_replies, makes}
use Rattle.cluster_invariant.proofs.PieceMay.{Coming, item_of}
use Rattle.cluster_invariant.proofs.Pieces.{MayMake}
use Rattle.link_kept.proofs.WindowsGo.{WindowsGo, WindowsGoOn, Served, AllServed, IsStill, grown_fresh, grown_ack, grown_taken, set_go, tells_go, puts_go, appends_go, still_live, open_live, opened_live, other_live, still_windows, open_windows, close_windows}

-- What is known of the sessions of a reply that leaves.
abbrev pub SaysServed : (ℕ → Lane) → List Entry → Says → Type 0
SaysServed lane_of es (NewWelcome conn session) = live es session ≡ true
SaysServed lane_of es (EpochWelcome conn session kept) = live es session ≡ true
SaysServed lane_of es (ResetOf conn session place) = ⊤
SaysServed lane_of es (GrantOf session ticket number) = Served lane_of es session
SaysServed lane_of es (AnswerOf session about job number place sum) = Served lane_of es session

-- a session may open: nothing was put or taken of it in this order
pub record OpensWell (lane_of : ℕ → Lane) (b : Sofar) : Type 0 where
  pub noted : AllServed lane_of b.state.order b.state.noted
  pub unlearnt : (lane_of (length b.state.order + 1)).began ≡ None
  pub closed : live b.state.order (length b.state.order + 1) ≡ false

-- what came on the connection of a live session acknowledges what its application server took
pub record ComesWell (lane_of : ℕ → Lane) (session ack : ℕ) (b : Sofar) : Type 0 where
  pub lives : live b.state.order session ≡ true
  pub came : ack ≤ (lane_of session).down_taken

-- and the next message was put
pub record TakesWell (lane_of : ℕ → Lane) (session ack : ℕ) (b : Sofar) : Type 0 where
  pub comes : ComesWell lane_of session ack b
  pub room : (window_of b.state session).taken + 1 ≤ length (lane_of session).up

-- What is known of the sessions that a small change puts to or takes from.
abbrev pub PutsWell : (ℕ → Lane) → Piece → Sofar → Type 0
PutsWell lane_of (Accepts conn) b = ⊤
PutsWell lane_of (Forgets ending conn) b = ⊤
PutsWell lane_of (Breaks ending conn session app) b = ⊤
PutsWell lane_of (Dials app dial) b = ⊤
PutsWell lane_of (Waits app conn) b = ⊤
PutsWell lane_of (Opens app conn) b = OpensWell lane_of b
PutsWell lane_of (OpensNext app conn) b = OpensWell lane_of b
PutsWell lane_of (Resumes app session conn) b = ⊤
PutsWell lane_of (GoesOn session conn taken) b = ⊤
PutsWell lane_of (ComesAgain session conn kept) b = (lane_of session).began ≡ None
PutsWell lane_of (AwaitsReset session conn at) b = ⊤
PutsWell lane_of (Closes session app cause) b = AllServed lane_of b.state.order b.state.noted
PutsWell lane_of (Acknowledges conn session up) b = ComesWell lane_of session up.ack b
PutsWell lane_of (Takes conn session up) b = TakesWell lane_of session up.ack b
PutsWell lane_of (TakesDone conn session up) b = TakesWell lane_of session up.ack b
PutsWell lane_of (Enters e) b = AllServed lane_of b.state.order b.state.noted
PutsWell lane_of (Fetches session run block) b = Served lane_of b.state.order session
PutsWell lane_of (PutsNormal app session) b = Served lane_of b.state.order session
PutsWell lane_of (PutsAck session) b = Served lane_of b.state.order session
PutsWell lane_of (Replies at says) b = ⊤
PutsWell lane_of (Leaves before r behind) b = SaysServed lane_of b.state.order r.says
PutsWell lane_of (Bares session conn) b = live b.state.order session ≡ true
PutsWell lane_of (Locks call) b = ⊤
PutsWell lane_of RoundEnds b = ⊤
PutsWell lane_of (Ticks app session) b = ⊤

-- what leaves the windows and the order

pub record SameWindows (b c : Sofar) : Type 0 where
  pub windows : c.state.windows ≡ b.state.windows
  pub order : c.state.order ≡ b.state.order

pub go_same : (was : ℕ → Bool) (lane_of : ℕ → Lane) (b c : Sofar) → SameWindows b c → WindowsGoOn was lane_of b → WindowsGoOn was lane_of c
go_same was lane_of b c same h =
    subst (λ (ws : List SessionWindow). WindowsGo was lane_of ws c.state.order) (sym same.windows)
    (subst (λ (es : List Entry). WindowsGo was lane_of b.state.windows es) (sym same.order) h)

pub same_cuts : (ending : Ending) (conn : ℕ) (b : Sofar) → SameWindows b (cuts_if ending conn b)
same_cuts There conn b = record { windows = refl; order = refl }
same_cuts Here conn b = record { windows = refl; order = refl }

pub same_drops : (o : Option ℕ) (b : Sofar) → SameWindows b (drops_conn o b)
same_drops None b = record { windows = refl; order = refl }
same_drops (Some conn) b = record { windows = refl; order = refl }

pub same_breaks : (normal : Bool) (app now : ℕ) (b : Sofar) → SameWindows b (breaks_if normal app now b)
same_breaks true app now b = record { windows = refl; order = refl }
same_breaks false app now b = record { windows = refl; order = refl }

pub same_parts : (cause : ShutCause) (o : Option ℕ) (s : ℕ) (b : Sofar) → SameWindows b (parts_from cause o s b)
same_parts (Trouble time) None s b = record { windows = refl; order = refl }
same_parts (Trouble time) (Some conn) s b = record { windows = refl; order = refl }
same_parts Replaced o s b = same_drops o b
same_parts (Round time) None s b = record { windows = refl; order = refl }
same_parts (Round time) (Some conn) s b = record { windows = refl; order = refl }

same_locks : (f : Freed) (b : Sofar) → SameWindows b (locks_become f b)
same_locks f b = record {
  windows = ap (λ (d : DataState). d.windows) (only_locks f b).state;
  order = ap (λ (d : DataState). d.order) (only_locks f b).state;
}

pub same_calls : (call : LockCall) (b : Sofar) → SameWindows b (calls call b)
same_calls (Asks r) b = same_locks (asked b.state.locks r (length b.state.order)) b
same_calls (Unlocks who mode key) b =
    let s : SameWindows (frees who mode key b) (calls (Unlocks who mode key) b) = same_locks (freed b.state.locks who key mode (length b.state.order)) (frees who mode key b) in
    record { windows = s.windows; order = s.order }
same_calls (Withdraws r session ticket) b =
    let s : SameWindows (frees r.who r.mode r.name b) (calls (Withdraws r session ticket) b) =
    same_locks (without_request b.state.locks session ticket (length b.state.order)) (frees r.who r.mode r.name b) in
    record { windows = s.windows; order = s.order }
same_calls (GivesBack r) b =
    let s : SameWindows (frees r.who r.mode r.name b) (calls (GivesBack r) b) =
    same_locks (without_grant b.state.locks r (length b.state.order)) (frees r.who r.mode r.name b) in
    record { windows = s.windows; order = s.order }
same_calls (ForgetsTicket r) b = record { windows = refl; order = refl }
same_calls (Claims who key mode number at) b = record { windows = refl; order = refl }
same_calls (Cancels r) b = same_locks (without_request b.state.locks r.who.session r.ticket (length b.state.order)) b
same_calls (Releases session) b =
    let s : SameWindows (writes (act.Release b.state.server session) b) (calls (Releases session) b) =
    same_locks (without_session b.state.locks session (length b.state.order)) (writes (act.Release b.state.server session) b) in
    record { windows = s.windows; order = s.order }

-- the round is over, and no end is told of it yet
abbrev pub back_written : Sofar → Sofar
back_written b = writes (act.Back b.state.server) (becomes (λ d. record d { round = None }) b)

pub same_round : (xs : List LiveEnd) (now : ℕ) (b : Sofar) → SameWindows b (ends_back xs now (back_written b))
same_round xs now b = record { windows = (ends_aside xs now).windows (back_written b); order = (ends_aside xs now).order (back_written b) }

some_same : (x y : Entry) → Some x ≡ Some y → x ≡ y
some_same x y same = cc

-- an item opens and closes nothing
pub item_still : (s : ℕ) (m : Up) (e : Entry) → item_of s m ≡ Some e → IsStill e
item_still s (Hello app dial) e its = absurd cc
item_still s (Recover app q epoch taken dial) e its = absurd cc
item_still s (Update w job txn op) e its = subst IsStill (some_same (UpdateEntry s w job txn op) e its) tt
item_still s (Add w job key amount) e its = subst IsStill (some_same (UpdateEntry s w job 0 (ops.Add key amount)) e its) tt
item_still s (Fetch key) e its = absurd cc
item_still s (Ask ticket job mode key) e its = absurd cc
item_still s (Unlock job mode key) e its = absurd cc
item_still s (Cancel ticket) e its = absurd cc
item_still s (Commit w job txn wanted) e its = subst IsStill (some_same (CommitEntry s w job txn) e its) tt
item_still s (Rollback w job txn) e its = subst IsStill (some_same (RollbackEntry s w job txn) e its) tt
item_still s (Sync ticket) e its = absurd cc
item_still s Done e its = absurd cc
item_still s (Claim job mode number at key) e its = absurd cc
item_still s Bare e its = absurd cc

module _ (was : ℕ → Bool) (lane_of : ℕ → Lane) (counts : (s : ℕ) → LaneCounts (lane_of s)) where
  noted_still : (es : List Entry) (e : Entry) (xs : List Noted) → IsStill e → AllServed lane_of es xs → AllServed lane_of (es ++ e ∷ []) xs
  noted_still es e xs is served =
      all_follow (λ (y : Noted). Served lane_of es y.session) (λ (y : Noted). Served lane_of (es ++ e ∷ []) y.session)
      (λ (y : Noted) s. (still_live es e y.session is ∙ s.0, s.1)) xs served

  noted_open : (es : List Entry) (s app : ℕ) (xs : List Noted) → AllServed lane_of es xs → AllServed lane_of (es ++ Opened s app ∷ []) xs
  noted_open es s app xs served =
      all_follow (λ (y : Noted). Served lane_of es y.session) (λ (y : Noted). Served lane_of (es ++ Opened s app ∷ []) y.session)
      (λ (y : Noted) at. (open_live es s app y.session at.0, at.1)) xs served

  not_same : (b : Bool) → not b ≡ true → b ≡ false
  not_same true is = sym is
  not_same false is = refl

  noted_close : (es : List Entry) (s : ℕ) (xs : List Noted) → AllServed lane_of es xs → AllServed lane_of (es ++ Closed s ∷ []) (forgotten s xs)
  noted_close es s xs served =
      all_follow (λ (y : Noted). Served lane_of es y.session × (is_noted_elsewhere s y ≡ true)) (λ (y : Noted). Served lane_of (es ++ Closed s ∷ []) y.session)
      (λ (y : Noted) at. (other_live es s y.session (λ same. true≢false (sym (eq-eqb y.session s same) ∙ not_same (y.session == s) at.1)) at.0.0, at.0.1)) (forgotten s xs)
      (all_both (λ (y : Noted). Served lane_of es y.session) (λ (y : Noted). is_noted_elsewhere s y ≡ true) (forgotten s xs)
      (all_filtered (λ (y : Noted). Served lane_of es y.session) (is_noted_elsewhere s) xs served) (all_passed (is_noted_elsewhere s) xs))

  opens_go : (app conn now : ℕ) (b : Sofar) → OpensWell lane_of b → WindowsGoOn was lane_of b → WindowsGoOn was lane_of (opens app conn now b)
  opens_go app conn now b well h = go (enters (Opened s app) b) entered order
    where
      s : ℕ
      s = length b.state.order + 1

      entered : WindowsGoOn was lane_of (enters (Opened s app) b)
      entered =
          appends_go was lane_of counts (Opened s app) (writes (act.Enter b.state.server (Opened s app)) b) (noted_open b.state.order s app b.state.noted well.noted)
          (open_windows was lane_of b.state.windows b.state.order s app (counts s) well.unlearnt well.closed h)

      order : (enters (Opened s app) b).state.order ≡ b.state.order ++ Opened s app ∷ []
      order = ap (λ (d : DataState). d.order) (appends_state (Opened s app) (writes (act.Enter b.state.server (Opened s app)) b)).state

      go : (c : Sofar) → WindowsGoOn was lane_of c → c.state.order ≡ b.state.order ++ Opened s app ∷ [] → WindowsGo was lane_of (set_window c.state.windows s fresh) c.state.order
      go c w its = set_go was lane_of c.state.windows c.state.order s fresh (ap (λ (es : List Entry). live es s) its ∙ opened_live b.state.order s app) (grown_fresh (lane_of s) (counts s) well.unlearnt) w

  again_go : (s conn : ℕ) (ms : List (ℕ × Down)) (b : Sofar) → live b.state.order s ≡ true → WindowsGoOn was lane_of b → WindowsGoOn was lane_of (sends_again s conn ms b)
  again_go s conn [] b is h = h
  again_go s conn (m ∷ ms) b is h = again_go s conn ms (tells s conn m.0 m.1 b) is (tells_go was lane_of s conn m.0 m.1 b is h)

  leaves_go : (says : Says) (b : Sofar) → SaysServed lane_of b.state.order says → WindowsGoOn was lane_of b → WindowsGoOn was lane_of (leaves says b)
  leaves_go (NewWelcome conn s) b is h = tells_go was lane_of s conn 0 (new_welcome b.state s) b is h
  leaves_go (EpochWelcome conn s kept) b is h = tells_go was lane_of s conn 0 (epoch_welcome b.state s kept) b is h
  leaves_go (ResetOf conn s place) b is h = h
  leaves_go (GrantOf s ticket number) b is h = puts_go was lane_of counts s (down.Grant (head_of b.state s) ticket number) b is refl h
  leaves_go (AnswerOf s about job number place sum) b is h = puts_go was lane_of counts s (down.Answer (head_of b.state s) about job number place sum) b is refl h

  closes_go : (s app : ℕ) (cause : ShutCause) (now : ℕ) (b : Sofar) → AllServed lane_of b.state.order b.state.noted → WindowsGoOn was lane_of b
      → WindowsGoOn was lane_of (shuts s app cause now b)
  closes_go s app cause now b noted h = parts (same_parts cause (conn_of b.state s) s (with_close s cause b))
    where
      closed : WindowsGoOn was lane_of (with_close s cause b)
      closed =
          appends_go was lane_of counts (Closed s) (becomes (silenced s) (writes (act.Shut b.state.server s cause) b)) (noted_close b.state.order s b.state.noted noted)
          (close_windows was lane_of b.state.windows b.state.order s h)

      parts : SameWindows (with_close s cause b) (parts_from cause (conn_of b.state s) s (with_close s cause b)) → WindowsGoOn was lane_of (shuts s app cause now b)
      parts same =
          go_same was lane_of (with_close s cause b) (shuts s app cause now b) (record { windows = same.windows; order = same.order }) closed

  took_go : (s ack : ℕ) (b : Sofar) → TakesWell lane_of s ack b → WindowsGoOn was lane_of b
      → WindowsGo was lane_of (set_window b.state.windows s (with_taken (window_in b.state.windows s) ack)) b.state.order
  took_go s ack b well h =
      set_go was lane_of b.state.windows b.state.order s (with_taken (window_in b.state.windows s) ack) well.comes.lives
      (grown_taken (lane_of s) (window_in b.state.windows s) ack well.comes.came well.room (h.each s well.comes.lives)) h

  -- What each small change makes of the windows.
  pub windows_piece : (t : Coming) (p : Piece) (b : Sofar) → MayMake t p b → PutsWell lane_of p b → WindowsGoOn was lane_of b → WindowsGoOn was lane_of (makes t.now p b)
  windows_piece t (Accepts conn) b may well h = h
  windows_piece t (Forgets ending conn) b may well h =
      go_same was lane_of (becomes (without_conn conn) b) (makes t.now (Forgets ending conn) b) (same_cuts ending conn (becomes (without_conn conn) b)) h
  windows_piece t (Breaks ending conn session app) b may well h =
      go_same was lane_of (end_breaks (Some app) t.now (becomes (without_conn conn) b)) (makes t.now (Breaks ending conn session app) b)
      (same_cuts ending conn (end_breaks (Some app) t.now (becomes (without_conn conn) b)))
      (broken (same_breaks (is_normal (link_of b.state app)) app t.now (becomes (without_conn conn) b)))
    where
      broken : SameWindows (becomes (without_conn conn) b) (breaks_if (is_normal (link_of b.state app)) app t.now (becomes (without_conn conn) b))
          → WindowsGoOn was lane_of (end_breaks (Some app) t.now (becomes (without_conn conn) b))
      broken same =
          go_same was lane_of b (end_breaks (Some app) t.now (becomes (without_conn conn) b)) (record { windows = same.windows; order = same.order }) h
  windows_piece t (Dials app dial) b may well h = h
  windows_piece t (Waits app conn) b may well h = go (same_drops (waiting_conn b.state app) b)
    where
      go : SameWindows b (drops_conn (waiting_conn b.state app) b) → WindowsGoOn was lane_of (is_let_in true app conn t.now b)
      go same = go_same was lane_of b (is_let_in true app conn t.now b) (record { windows = same.windows; order = same.order }) h
  windows_piece t (Opens app conn) b may well h = opens_go app conn t.now b well h
  windows_piece t (OpensNext app conn) b may well h =
      opens_go app conn t.now (becomes next_caller b) (record { noted = well.noted; unlearnt = well.unlearnt; closed = well.closed }) h
  windows_piece t (Resumes app session conn) b may well h = go (same_drops (conn_of b.state session) b)
    where
      go : SameWindows b (drops_conn (conn_of b.state session) b) → WindowsGoOn was lane_of (makes t.now (Resumes app session conn) b)
      go same = go_same was lane_of b (makes t.now (Resumes app session conn) b) (record { windows = same.windows; order = same.order }) h
  windows_piece t (GoesOn session conn taken) b may well h =
      again_go session conn (resent (window_of b.state session) taken) (tells session conn 0 (old_welcome b.state session) b) may.is_live
      (tells_go was lane_of session conn 0 (old_welcome b.state session) b may.is_live h)
  windows_piece t (ComesAgain session conn kept) b may well h =
      set_go was lane_of b.state.windows b.state.order session fresh may.is_live (grown_fresh (lane_of session) (counts session) well) h
  windows_piece t (AwaitsReset session conn at) b may well h = h
  windows_piece t (Closes session app cause) b may well h = closes_go session app cause t.now b well h
  windows_piece t (Acknowledges conn session up) b may well h =
      set_go was lane_of b.state.windows b.state.order session (with_ack (window_in b.state.windows session) up.ack) well.lives
      (grown_ack (lane_of session) (window_in b.state.windows session) up.ack well.came (h.each session well.lives)) h
  windows_piece t (Takes conn session up) b may well h = took_go session up.ack b well h
  windows_piece t (TakesDone conn session up) b may well h = took_go session up.ack b well h
  windows_piece t (Enters e) b may well h =
      appends_go was lane_of counts e (writes (act.Enter b.state.server e) b) (noted_still b.state.order e b.state.noted still well)
      (still_windows was lane_of b.state.windows b.state.order e still h)
    where
      still : IsStill e
      still = item_still may.session may.its.up.message e may.item
  windows_piece t (Fetches session run block) b may well h = puts_go was lane_of counts session (down.Block (head_of b.state session) block) b well refl h
  windows_piece t (PutsNormal app session) b may well h = puts_go was lane_of counts session (down.Normal (head_of b.state session)) b well refl h
  windows_piece t (PutsAck session) b may well h = puts_go was lane_of counts session (down.Ack (head_of b.state session)) b well refl h
  windows_piece t (Replies at says) b may well h = h
  windows_piece t (Leaves before r behind) b may well h = leaves_go r.says (becomes (with_replies (before ++ behind)) b) well h
  windows_piece t (Bares session conn) b may well h = tells_go was lane_of session conn 0 down.Bare b well h
  windows_piece t (Locks call) b may well h = go_same was lane_of b (calls call b) (same_calls call b) h
  windows_piece t RoundEnds b may well h = go_same was lane_of b (round_over t.now b) (same_round (live_ends b.state.order) t.now b) h
  windows_piece t (Ticks app session) b may well h = h
