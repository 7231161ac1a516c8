-- Each small change of a data server's step leaves what it has to sessions that are served, if what it puts to and takes from them fits.
use Rattle.std.proofs.Common.{◌≡◌, ◌≤◌, ◌⊎◌, inl, inr, ℕ, ◌+◌, Bool, true, false, List, [], ◌∷◌, ◌++◌, length, Option, Some, None, is_some, refl, sym, ◌∙◌, ap, subst, arith, cond}
use Rattle.plain_orders.specs.declared.causes.ShutCause.{ShutCause}
use Rattle.plain_orders.specs.declared.causes.ShutCause.TheVariants.{Trouble, Replaced, Round}
use Rattle.plain_orders.specs.declared.act.Act.TheVariants as act
use Rattle.plain_orders.specs.declared.entry.Entry.{Entry}
use Rattle.plain_orders.specs.declared.entry.Entry.TheVariants.{Opened, Closed}
use Rattle.plain_orders.specs.Entries.{live}
use Rattle.plain_orders.specs.ItemEntries.{is_item_of}
use Rattle.link_states.specs.declared.link_event.LinkEvent.TheVariants.{Ended, RoundOver}
use Rattle.ecp_messages.specs.declared.down.Down.{Down}
use Rattle.ecp_messages.specs.declared.down.Down.TheVariants as down
use Rattle.ecp_messages.specs.declared.up.Up.TheVariants as up
use Rattle.end_words.specs.Windows.{resent, fresh}
use Rattle.lock_table.specs.declared.rows.Request.{Request}
use Rattle.lock_table.specs.LockWords.{Freed, asked, freed, without_request, without_grant, without_session}
use Rattle.block_holders.specs.declared.noted.Noted.{Noted}
use Rattle.block_holders.specs.HolderWords.{with_noted, is_noted}
use Rattle.subscript_keys.specs.declared.span.Span.{Span}
use Rattle.data_rules.specs.DataState.{DataState}
use Rattle.data_rules.specs.declared.rows.LiveEnd.{LiveEnd}
use Rattle.data_rules.specs.declared.rows.Reply.{Reply}
use Rattle.data_rules.specs.declared.rows.Says.TheVariants.{NewWelcome, EpochWelcome, ResetOf}
use Rattle.data_rules.specs.Puts.{Sofar, with_window, becomes, writes, tells, puts, conn_of, head_of, window_of, says_on, is_reply_elsewhere}
use Rattle.data_rules.specs.Leaving.{leaves}
use Rattle.data_rules.specs.Entering.{appends, enters, with_entry, spans_of}
use Rattle.data_rules.specs.Granting.{frees, locks_become}
use Rattle.data_rules.specs.Conns.{link_of, is_normal, with_role, with_event, without_conn, breaks_if, end_breaks, drops_conn}
use Rattle.data_rules.specs.Closing.{silenced, unawaited}
use Rattle.data_rules.specs.Opening.{opens, bound, breaks_unless, live_ends}
use Rattle.data_rules.specs.Callers.{with_caller, resumed, waiting_conn, sends_again, old_welcome}
use Rattle.data_rules.specs.Places.{epoch_place}
use Rattle.data_rules.specs.declared.rows.Role.TheVariants.{Closing}
use Rattle.cluster_runs.specs.Sent.{Lane}
use Rattle.cluster_invariant.proofs.AllLists.{all_follow, all_joined}
use Rattle.cluster_invariant.proofs.PutLaws.{Appended, OnlyWindows, with_windows, only_puts, only_leaves, appends_state}
use Rattle.cluster_invariant.proofs.PieceKinds.{Ending, There, Here, LockCall, Asks, Unlocks, Withdraws, GivesBack, ForgetsTicket, Claims, Cancels, Releases, Piece, Accepts, Forgets, Breaks, Dials, Waits, Opens, OpensNext, Resumes, GoesOn, ComesAgain, AwaitsReset, Closes, Acknowledges, Takes, TakesDone, Enters, Fetches, PutsNormal, PutsAck, Replies, Leaves, Bares, Locks, RoundEnds, Ticks, cuts_if, calls, parts_from, event_of, with_close, shuts, next_caller, end_back, ends_back, with_replies, makes}
use Rattle.cluster_invariant.proofs.PieceMay.{Coming, CallsMay}
use Rattle.cluster_invariant.proofs.Pieces.{MayMake}
use Rattle.link_kept.proofs.LockWaits.{TableWaits, asked_waits, freed_waits, request_waits, grant_waits, session_waits, claimed_waits}
use Rattle.link_kept.proofs.LockSessions.{FreedOf, asked_of, freed_of, request_of, grant_of, session_of, ticket_of, claimed_of}
use Rattle.link_kept.proofs.WindowsGo.{Served, AllServed, IsStill, still_live, open_live, open_or, opened_live}
use Rattle.link_kept.proofs.WindowPieces.{SaysServed, OpensWell, PutsWell, item_still, back_written}
use Rattle.link_kept.proofs.FitsWell.{CallsWell, FitsWell, may_close, closes_may, asked_still}
use Rattle.link_kept.proofs.ServesGo.{Learnt, MayAsk, RepliesServed, ServesGo, SameServed, serves_by, serves_windows, serves_fewer, serves_reply, serves_locks, serves_entry, serves_close}

module _ (lane_of : ℕ → Lane) (t : Coming) where
  abbrev pub Serves : DataState → Type 0
  Serves d = ServesGo lane_of (may_close t.input) d

  -- what leaves is of those that waited
  middle : (before behind : List Reply) (r : Reply) (es : List Entry) → RepliesServed lane_of es (before ++ r ∷ behind) → SaysServed lane_of es r.says
  middle [] behind r es all = all.0
  middle (q ∷ before) behind r es all = middle before behind r es all.1

  others : (before behind : List Reply) (r : Reply) (es : List Entry) → RepliesServed lane_of es (before ++ r ∷ behind) → RepliesServed lane_of es (before ++ behind)
  others [] behind r es all = all.1
  others (q ∷ before) behind r es all = (all.0, others before behind r es all.1)

  none_next : (d : DataState) → Serves d → (b : Bool) → live d.order (length d.order + 1) ≡ b → b ≡ false
  none_next d h true lives = absurd (omega (arith, h.low (length d.order + 1) lives))
  none_next d h false lives = refl

  opens_well : (b : Sofar) → Serves b.state → (lane_of (length b.state.order + 1)).began ≡ None → OpensWell lane_of b
  opens_well b h unlearnt =
      record { noted = h.noted; unlearnt = unlearnt; closed = none_next b.state h (live b.state.order (length b.state.order + 1)) refl }

  -- So the sessions that it puts to are served.
  pub puts_well : (p : Piece) (b : Sofar) → MayMake t p b → FitsWell lane_of p b → Serves b.state → PutsWell lane_of p b
  puts_well (Accepts conn) b may fits h = tt
  puts_well (Forgets ending conn) b may fits h = tt
  puts_well (Breaks ending conn session app) b may fits h = tt
  puts_well (Dials app dial) b may fits h = tt
  puts_well (Waits app conn) b may fits h = tt
  puts_well (Opens app conn) b may fits h = opens_well b h fits
  puts_well (OpensNext app conn) b may fits h = opens_well b h fits
  puts_well (Resumes app session conn) b may fits h = tt
  puts_well (GoesOn session conn taken) b may fits h = tt
  puts_well (ComesAgain session conn kept) b may fits h = fits
  puts_well (AwaitsReset session conn at) b may fits h = tt
  puts_well (Closes session app cause) b may fits h = h.noted
  puts_well (Acknowledges conn session f) b may fits h = fits
  puts_well (Takes conn session f) b may fits h = fits
  puts_well (TakesDone conn session f) b may fits h = fits
  puts_well (Enters e) b may fits h = h.noted
  puts_well (Fetches session run block) b may fits h = fits
  puts_well (PutsNormal app session) b may fits h = fits
  puts_well (PutsAck session) b may fits h = fits
  puts_well (Replies at says) b may fits h = tt
  puts_well (Leaves before r behind) b may fits h =
      middle before behind r b.state.order (subst (λ (rs : List Reply). RepliesServed lane_of b.state.order rs) may.its h.replies)
  puts_well (Bares session conn) b may fits h = fits
  puts_well (Locks call) b may fits h = tt
  puts_well RoundEnds b may fits h = tt
  puts_well (Ticks app session) b may fits h = tt

  -- what changes nothing of it

  beside : (d e : DataState) → SameServed d e → e.replies ≡ d.replies → Serves d → Serves e
  beside d e same rs h =
      serves_by lane_of (may_close t.input) d e same (subst (λ (l : List Reply). RepliesServed lane_of d.order l) (sym rs) h.replies) h

  by_windows : (b c : Sofar) → OnlyWindows b c → Serves b.state → Serves c.state
  by_windows b c o h = subst (λ (d : DataState). Serves d) (sym o.state) (serves_windows lane_of (may_close t.input) o.windows b.state h)

  by_cut : (ending : Ending) (conn : ℕ) (b : Sofar) → Serves b.state → Serves (cuts_if ending conn b).state
  by_cut There conn b h = h
  by_cut Here conn b h = h

  by_gone : (conn : ℕ) (d : DataState) → Serves d → Serves (without_conn conn d)
  by_gone conn d h =
      serves_fewer lane_of (may_close t.input) d (without_conn conn d) (is_reply_elsewhere (says_on conn))
      (record { order = refl; synced = refl; noted = refl; locks = refl }) refl h

  by_drop : (o : Option ℕ) (b : Sofar) → Serves b.state → Serves (drops_conn o b).state
  by_drop None b h = h
  by_drop (Some conn) b h = by_gone conn b.state h

  by_break : (normal : Bool) (app now : ℕ) (b : Sofar) → Serves b.state → Serves (breaks_if normal app now b).state
  by_break true app now b h = h
  by_break false app now b h = h

  by_parts : (cause : ShutCause) (o : Option ℕ) (s : ℕ) (b : Sofar) → Serves b.state → Serves (parts_from cause o s b).state
  by_parts (Trouble time) None s b h = h
  by_parts (Trouble time) (Some conn) s b h = beside b.state _ (record { order = refl; synced = refl; noted = refl; locks = refl }) refl h
  by_parts Replaced o s b h = by_drop o b h
  by_parts (Round time) None s b h = h
  by_parts (Round time) (Some conn) s b h = beside b.state _ (record { order = refl; synced = refl; noted = refl; locks = refl }) refl h

  by_again : (s conn : ℕ) (ms : List (ℕ × Down)) (b : Sofar) → Serves b.state → Serves (sends_again s conn ms b).state
  by_again s conn [] b h = h
  by_again s conn (m ∷ ms) b h =
      by_again s conn ms (tells s conn m.0 m.1 b) (serves_windows lane_of (may_close t.input) (tells s conn m.0 m.1 b).state.windows b.state h)

  by_back : (joined : Bool) (app now : ℕ) (b : Sofar) → Serves b.state → Serves (breaks_unless joined app now (becomes (with_event app now (RoundOver joined)) b)).state
  by_back true app now b h =
      beside b.state (with_event app now (RoundOver true) b.state) (record { order = refl; synced = refl; noted = refl; locks = refl }) refl h
  by_back false app now b h =
      beside b.state (with_event app now (RoundOver false) b.state) (record { order = refl; synced = refl; noted = refl; locks = refl }) refl h

  by_backs : (xs : List LiveEnd) (now : ℕ) (b : Sofar) → Serves b.state → Serves (ends_back xs now b).state
  by_backs [] now b h = h
  by_backs (x ∷ xs) now b h = by_backs xs now (end_back x.app x.session now b) (by_back (is_some (conn_of b.state x.session)) x.app now b h)

  -- entries

  by_appended : (e : Entry) (b : Sofar) → ((spans : List Span) → Serves (with_entry e spans b.state)) → Serves (appends e b).state
  by_appended e b h = go (appends_state e b)
    where
      go : Appended e b (appends e b) → Serves (appends e b).state
      go a =
          subst (λ (d : DataState). Serves d) (sym a.state)
          (serves_windows lane_of (may_close t.input) a.windows (with_entry e (spans_of b.state e) b.state) (h (spans_of b.state e)))

  by_open : (app conn now : ℕ) (b : Sofar) → Serves b.state → Serves (opens app conn now b).state
  by_open app conn now b h = go (enters (Opened s app) b) entered order
    where
      s : ℕ
      s = length b.state.order + 1

      low : (q : ℕ) → (q ≡ s) ⊎ (live b.state.order q ≡ true) → q ≤ length b.state.order + 1
      low q (inl same) = omega (arith, same)
      low q (inr lives) = omega (arith, h.low q lives)

      entered : Serves (enters (Opened s app) b).state
      entered =
          by_appended (Opened s app) (writes (act.Enter b.state.server (Opened s app)) b)
          (λ spans.
          serves_entry lane_of (may_close t.input) b.state (Opened s app) spans (λ q lives. open_live b.state.order s app q lives)
          (λ q lives. low q (open_or b.state.order s app q lives)) (λ q unlearnt. refl) h)

      order : (enters (Opened s app) b).state.order ≡ b.state.order ++ Opened s app ∷ []
      order = ap (λ (d : DataState). d.order) (appends_state (Opened s app) (writes (act.Enter b.state.server (Opened s app)) b)).state

      go : (c : Sofar) → Serves c.state → c.state.order ≡ b.state.order ++ Opened s app ∷ []
          → Serves (record (bound app s conn now c.state) { replies = c.state.replies ++ record { at = s; says = NewWelcome conn s } ∷ [] })
      go c w its =
          serves_reply lane_of (may_close t.input) (bound app s conn now c.state) s (NewWelcome conn s)
          (ap (λ (es : List Entry). live es s) its ∙ opened_live b.state.order s app)
          (beside c.state (bound app s conn now c.state) (record { order = refl; synced = refl; noted = refl; locks = refl }) refl w)

  by_close : (s : ℕ) (cause : ShutCause) (b : Sofar) → may_close t.input ≡ true → Serves b.state → Serves (with_close s cause b).state
  by_close s cause b closes h =
      go (appends (Closed s) (becomes (silenced s) (writes (act.Shut b.state.server s cause) b)))
      (by_appended (Closed s) (becomes (silenced s) (writes (act.Shut b.state.server s cause) b))
      (λ spans. serves_close lane_of (may_close t.input) b.state s spans (silenced s b.state) closes refl refl refl refl refl h))
    where
      go : (c : Sofar) → Serves c.state → Serves (unawaited s c.state)
      go c w = beside c.state (unawaited s c.state) (record { order = refl; synced = refl; noted = refl; locks = refl }) refl w

  by_shut : (s app : ℕ) (cause : ShutCause) (now : ℕ) (b : Sofar) → may_close t.input ≡ true → Serves b.state → Serves (shuts s app cause now b).state
  by_shut s app cause now b closes h =
      go (parts_from cause (conn_of b.state s) s (with_close s cause b)) (by_parts cause (conn_of b.state s) s (with_close s cause b) (by_close s cause b closes h))
    where
      go : (c : Sofar) → Serves c.state → Serves (with_event app now (event_of cause) c.state)
      go c w = beside c.state (with_event app now (event_of cause) c.state) (record { order = refl; synced = refl; noted = refl; locks = refl }) refl w

  -- the table of locks

  learnt : (es : List Entry) (s : ℕ) → MayAsk lane_of (may_close t.input) es s → Learnt lane_of s
  learnt es s is = is.1

  -- where no session may be closed all requests are of live ones
  still_locks : (f : Freed) (b : Sofar) → may_close t.input ≡ false → FreedOf (Learnt lane_of) (MayAsk lane_of (may_close t.input) b.state.order) f
      → TableWaits f.locks → Serves b.state → Serves (locks_become f b).state
  still_locks f b still freed waits h =
      serves_locks lane_of (may_close t.input) f b freed waits
      (all_follow (λ (r : Request). MayAsk lane_of (may_close t.input) b.state.order r.who.session) (λ (r : Request). live b.state.order r.who.session ≡ true)
      (λ (r : Request) is. is.0 still) f.grants freed.grants) h

  by_call : (call : LockCall) (b : Sofar) → CallsMay t call b → CallsWell lane_of call b → Serves b.state → Serves (calls call b).state
  by_call (Asks r) b may well h =
      still_locks (asked b.state.locks r (length b.state.order)) b
      (asked_still t r.who.session (up.Ask r.ticket r.who.job r.mode r.name) b refl may)
      (asked_of (Learnt lane_of) (MayAsk lane_of (may_close t.input) b.state.order) (learnt b.state.order) b.state.locks r (length b.state.order)
      ((λ still. well.0.0), well.0.1) h.table)
      (asked_waits b.state.locks r (length b.state.order) well.1 h.waits) h
  by_call (Unlocks who mode key) b may well h =
      still_locks (freed b.state.locks who key mode (length b.state.order)) (frees who mode key b)
      (asked_still t who.session (up.Unlock who.job mode key) b refl may.asked)
      (freed_of (Learnt lane_of) (MayAsk lane_of (may_close t.input) b.state.order) (learnt b.state.order) b.state.locks who key mode (length b.state.order) h.table)
      (freed_waits b.state.locks who key mode (length b.state.order) h.waits) h
  by_call (Withdraws r session ticket) b may well h =
      still_locks (without_request b.state.locks session ticket (length b.state.order)) (frees r.who r.mode r.name b)
      (asked_still t session (up.Cancel ticket) b refl may.asked)
      (request_of (Learnt lane_of) (MayAsk lane_of (may_close t.input) b.state.order) (learnt b.state.order) b.state.locks session ticket (length b.state.order) h.table)
      (request_waits b.state.locks session ticket (length b.state.order) h.waits) h
  by_call (GivesBack r) b may well h =
      still_locks (without_grant b.state.locks r (length b.state.order)) (frees r.who r.mode r.name b)
      (asked_still t may.session (up.Cancel may.ticket) b refl may.asked)
      (grant_of (Learnt lane_of) (MayAsk lane_of (may_close t.input) b.state.order) (learnt b.state.order) b.state.locks r (length b.state.order) h.table)
      (grant_waits b.state.locks r (length b.state.order) h.waits) h
  by_call (ForgetsTicket r) b may well h = record {
    noted = h.noted;
    table =
        ticket_of (Learnt lane_of) (MayAsk lane_of (may_close t.input) b.state.order) (learnt b.state.order) b.state.locks r.who.session r.ticket h.table;
    waits = record { wait = h.waits.wait; one_each = h.waits.one_each };
    replies = h.replies;
    items = h.items;
    synced = h.synced;
    low = h.low;
  }
  by_call (Claims who key mode number at) b may well h = record {
    noted = h.noted;
    table =
        claimed_of (Learnt lane_of) (MayAsk lane_of (may_close t.input) b.state.order) (learnt b.state.order) b.state.locks who key mode number at well.0.1 h.table;
    waits = claimed_waits b.state.locks who key mode number at well.1 h.waits;
    replies = h.replies;
    items = h.items;
    synced = h.synced;
    low = h.low;
  }
  by_call (Cancels r) b may well h =
      serves_locks lane_of (may_close t.input) (without_request b.state.locks r.who.session r.ticket (length b.state.order)) b
      (request_of (Learnt lane_of) (MayAsk lane_of (may_close t.input) b.state.order) (learnt b.state.order) b.state.locks r.who.session r.ticket (length b.state.order)
      h.table)
      (request_waits b.state.locks r.who.session r.ticket (length b.state.order) h.waits) well h
  by_call (Releases session) b may well h =
      still_locks (without_session b.state.locks session (length b.state.order)) (writes (act.Release b.state.server session) b) (ap may_close may.came)
      (session_of (Learnt lane_of) (MayAsk lane_of (may_close t.input) b.state.order) (learnt b.state.order) b.state.locks session (length b.state.order) h.table)
      (session_waits b.state.locks session (length b.state.order) h.waits) h

  -- notes

  noted_more : (es : List Entry) (session : ℕ) (span : Span) (xs : List Noted) → Served lane_of es session → AllServed lane_of es xs
      → AllServed lane_of es (with_noted session span xs)
  noted_more es session span xs is all = go (is_noted session span xs)
    where
      go : (b : Bool) → AllServed lane_of es (cond b xs (xs ++ record { session = session; span = span } ∷ []))
      go true = all
      go false = all_joined (λ (y : Noted). Served lane_of es y.session) xs (record { session = session; span = span } ∷ []) all (is, tt)

  by_note : (session : ℕ) (span : Span) (d : DataState) → Served lane_of d.order session → Serves d → Serves (record d { noted = with_noted session span d.noted })
  by_note session span d is h = record {
    noted = noted_more d.order session span d.noted is h.noted;
    table = h.table;
    waits = h.waits;
    replies = h.replies;
    items = h.items;
    synced = h.synced;
    low = h.low;
  }

  by_fetch : (session : ℕ) (span : Span) (m : Down) (b : Sofar) → Served lane_of b.state.order session → Serves b.state
      → Serves (record (puts session m b).state { noted = with_noted session span (puts session m b).state.noted })
  by_fetch session span m b is h = go (puts session m b) (only_puts session m b)
    where
      go : (c : Sofar) → OnlyWindows b c → Serves (record c.state { noted = with_noted session span c.state.noted })
      go c o =
          subst (λ (d : DataState). Serves (record d { noted = with_noted session span d.noted })) (sym o.state)
          (by_note session span (with_windows o.windows b.state) is (serves_windows lane_of (may_close t.input) o.windows b.state h))

  by_leaving : (before behind : List Reply) (r : Reply) (b : Sofar) → b.state.replies ≡ before ++ r ∷ behind → Serves b.state
      → Serves (leaves r.says (becomes (with_replies (before ++ behind)) b)).state
  by_leaving before behind r b its h =
      by_windows (becomes (with_replies (before ++ behind)) b) (leaves r.says (becomes (with_replies (before ++ behind)) b))
      (only_leaves r.says (becomes (with_replies (before ++ behind)) b))
      (serves_by lane_of (may_close t.input) b.state (with_replies (before ++ behind) b.state) (record { order = refl; synced = refl; noted = refl; locks = refl })
      (others before behind r b.state.order (subst (λ (rs : List Reply). RepliesServed lane_of b.state.order rs) its h.replies)) h)

  by_item : (e : Entry) (b : Sofar) → IsStill e → ((s : ℕ) → (lane_of s).began ≡ None → is_item_of s e ≡ false) → Serves b.state → Serves (enters e b).state
  by_item e b still none h =
      by_appended e (writes (act.Enter b.state.server e) b)
      (λ spans.
      serves_entry lane_of (may_close t.input) b.state e spans (λ q lives. still_live b.state.order e q still ∙ lives)
      (λ q lives. let low : q ≤ length b.state.order = h.low q (sym (still_live b.state.order e q still) ∙ lives) in omega (arith, low)) none h)

  -- Each small change leaves what the node has to sessions that are served.
  pub serves_piece : (p : Piece) (b : Sofar) → MayMake t p b → FitsWell lane_of p b → Serves b.state → Serves (makes t.now p b).state
  serves_piece (Accepts conn) b may fits h = beside b.state _ (record { order = refl; synced = refl; noted = refl; locks = refl }) refl h
  serves_piece (Forgets ending conn) b may fits h = by_cut ending conn (becomes (without_conn conn) b) (by_gone conn b.state h)
  serves_piece (Breaks ending conn session app) b may fits h =
      by_cut ending conn (end_breaks (Some app) t.now (becomes (without_conn conn) b))
      (go (breaks_if (is_normal (link_of b.state app)) app t.now (becomes (without_conn conn) b))
      (by_break (is_normal (link_of b.state app)) app t.now (becomes (without_conn conn) b) (by_gone conn b.state h)))
    where
      go : (c : Sofar) → Serves c.state → Serves (with_event app t.now Ended c.state)
      go c w = beside c.state (with_event app t.now Ended c.state) (record { order = refl; synced = refl; noted = refl; locks = refl }) refl w
  serves_piece (Dials app dial) b may fits h = beside b.state _ (record { order = refl; synced = refl; noted = refl; locks = refl }) refl h
  serves_piece (Waits app conn) b may fits h = go (drops_conn (waiting_conn b.state app) b) (by_drop (waiting_conn b.state app) b h)
    where
      go : (c : Sofar) → Serves c.state → Serves (with_caller app conn c.state)
      go c w = beside c.state (with_caller app conn c.state) (record { order = refl; synced = refl; noted = refl; locks = refl }) refl w
  serves_piece (Opens app conn) b may fits h = by_open app conn t.now b h
  serves_piece (OpensNext app conn) b may fits h =
      by_open app conn t.now (becomes next_caller b)
      (beside b.state (next_caller b.state) (record { order = refl; synced = refl; noted = refl; locks = refl }) refl h)
  serves_piece (Resumes app session conn) b may fits h = go (drops_conn (conn_of b.state session) b) (by_drop (conn_of b.state session) b h)
    where
      go : (c : Sofar) → Serves c.state → Serves (resumed app session conn t.now c.state)
      go c w = beside c.state (resumed app session conn t.now c.state) (record { order = refl; synced = refl; noted = refl; locks = refl }) refl w
  serves_piece (GoesOn session conn taken) b may fits h =
      by_again session conn (resent (window_of b.state session) taken) (tells session conn 0 (old_welcome b.state session) b)
      (serves_windows lane_of (may_close t.input) (tells session conn 0 (old_welcome b.state session) b).state.windows b.state h)
  serves_piece (ComesAgain session conn kept) b may fits h =
      serves_reply lane_of (may_close t.input) (with_window session fresh b.state) (epoch_place b.state.order) (EpochWelcome conn session kept) may.is_live
      (beside b.state (with_window session fresh b.state) (record { order = refl; synced = refl; noted = refl; locks = refl }) refl h)
  serves_piece (AwaitsReset session conn at) b may fits h =
      serves_reply lane_of (may_close t.input) (with_role conn (Closing session) b.state) at (ResetOf conn session at) tt
      (beside b.state (with_role conn (Closing session) b.state) (record { order = refl; synced = refl; noted = refl; locks = refl }) refl h)
  serves_piece (Closes session app cause) b may fits h = by_shut session app cause t.now b (closes_may t session app cause b may.why) h
  serves_piece (Acknowledges conn session f) b may fits h = beside b.state _ (record { order = refl; synced = refl; noted = refl; locks = refl }) refl h
  serves_piece (Takes conn session f) b may fits h = beside b.state _ (record { order = refl; synced = refl; noted = refl; locks = refl }) refl h
  serves_piece (TakesDone conn session f) b may fits h = beside b.state _ (record { order = refl; synced = refl; noted = refl; locks = refl }) refl h
  serves_piece (Enters e) b may fits h = by_item e b (item_still may.session may.its.up.message e may.item) fits h
  serves_piece (Fetches session run block) b may fits h = by_fetch session run.span (down.Block (head_of b.state session) block) b fits h
  serves_piece (PutsNormal app session) b may fits h =
      by_windows b (puts session (down.Normal (head_of b.state session)) b) (only_puts session (down.Normal (head_of b.state session)) b) h
  serves_piece (PutsAck session) b may fits h =
      by_windows b (puts session (down.Ack (head_of b.state session)) b) (only_puts session (down.Ack (head_of b.state session)) b) h
  serves_piece (Replies at says) b may fits h = serves_reply lane_of (may_close t.input) b.state at says fits h
  serves_piece (Leaves before r behind) b may fits h = by_leaving before behind r b may.its h
  serves_piece (Bares session conn) b may fits h =
      serves_windows lane_of (may_close t.input) (tells session conn 0 down.Bare b).state.windows b.state h
  serves_piece (Locks call) b may fits h = by_call call b may fits h
  serves_piece RoundEnds b may fits h =
      by_backs (live_ends b.state.order) t.now (back_written b)
      (beside b.state (record b.state { round = None }) (record { order = refl; synced = refl; noted = refl; locks = refl }) refl h)
  serves_piece (Ticks app session) b may fits h = beside b.state _ (record { order = refl; synced = refl; noted = refl; locks = refl }) refl h
