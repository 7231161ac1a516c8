-- Which sessions have windows, and to whom Welcomes were put, over each small change of a data server's step.
use Rattle.std.proofs.Common.{◌≡◌, ◌≢◌, ◌⊎◌, inl, inr, ◌+◌, ◌-◌, ℕ, Bool, true, false, List, [], ◌∷◌, ◌++◌, filter, length, Option, Some, None, is_some, refl, sym, ◌∙◌, ap, subst}
use Rattle.std.specs.List.{AllByRecursion, list_any}
use Rattle.std.proofs.lemmas.Bool.{false≢true}
use Rattle.plain_orders.specs.declared.act.Act.TheVariants as act
use Rattle.plain_orders.specs.declared.causes.ShutCause.{ShutCause}
use Rattle.plain_orders.specs.declared.causes.ShutCause.TheVariants.{Trouble, Replaced, Round}
use Rattle.plain_orders.specs.declared.entry.Entry.{Entry}
use Rattle.plain_orders.specs.declared.entry.Entry.TheVariants.{Closed, Opened}
use Rattle.plain_orders.specs.Entries.{live}
use Rattle.link_states.specs.declared.link_event.LinkEvent.TheVariants as event
use Rattle.lock_table.specs.LockWords.{Freed, asked, freed, without_grant, without_request, without_session}
use Rattle.ecp_messages.specs.declared.down.Down.{Down}
use Rattle.ecp_messages.specs.declared.down.Down.TheVariants as down
use Rattle.end_words.specs.Windows.{Window, fresh, resent, with_ack, with_ack_put, with_taken}
use Rattle.data_rules.specs.DataState.{DataState, SessionWindow}
use Rattle.data_rules.specs.declared.down_frames.DownOut.{DownOut}
use Rattle.data_rules.specs.declared.rows.LiveEnd.{LiveEnd}
use Rattle.data_rules.specs.declared.rows.Says.{Says}
use Rattle.data_rules.specs.declared.rows.Says.TheVariants.{AnswerOf, EpochWelcome, GrantOf, NewWelcome, ResetOf}
use Rattle.data_rules.specs.Callers.{old_welcome, sends_again, waiting_conn}
use Rattle.data_rules.specs.Closing.{silenced}
use Rattle.data_rules.specs.Conns.{breaks_if, drops_conn, end_breaks, is_normal, link_of, with_event, without_conn}
use Rattle.data_rules.specs.Entering.{appends, enters}
use Rattle.data_rules.specs.Granting.{frees, locks_become}
use Rattle.data_rules.specs.Leaving.{epoch_welcome, leaves, new_welcome}
use Rattle.data_rules.specs.Opening.{breaks_unless, live_ends, opens}
use Rattle.data_rules.specs.Puts.{Sofar, becomes, conn_of, head_of, is_window_elsewhere, puts, set_window, tells, window_in, window_of, with_window, writes}
use Rattle.cluster_invariant.specs.Link.{is_window_of}
use Rattle.cluster_invariant.proofs.AllLists.{all_follow, all_joined}
use Rattle.cluster_invariant.proofs.PieceKinds.{Ending, Here, There, LockCall, Asks, Unlocks, Withdraws, GivesBack, ForgetsTicket, Claims, Cancels, Releases, Piece, Accepts, Forgets, Breaks, Dials, Waits, Opens, OpensNext, Resumes, GoesOn, ComesAgain, AwaitsReset, Closes, Acknowledges, Takes, TakesDone, Enters, Fetches, PutsNormal, PutsAck, Replies, Leaves, Bares, Locks as CallsLocks, RoundEnds, Ticks, calls, cuts_if, end_back, ends_back, makes, next_caller, parts_from, shuts, with_close, with_replies}
use Rattle.cluster_invariant.proofs.PieceMay.{Coming}
use Rattle.cluster_invariant.proofs.Pieces.{MayMake}
use Rattle.cluster_invariant.proofs.PutLaws.{appends_state, only_locks, only_puts}
use Rattle.link_kept.proofs.WindowLists.{gone_elsewhere, gone_others, gone_there, none_there, set_there}
use Rattle.link_kept.proofs.WindowPieces.{item_still, same_parts}
use Rattle.link_kept.proofs.WindowsGo.{IsStill, close_live, open_or, same_or, still_live}
use Rattle.asks_kept.proofs.FewerGrants.{any_dropped}
use Rattle.windows_kept.proofs.WelcomesGo.{FrameHas, HasWindow, Plainly, WelcomeHas, has_later, is_welcome, plain_appends, plain_puts, plain_resent, plain_same, plain_set, plain_tells, plain_then, set_more, set_waiting, welcome_in}

-- A session that has a window while it is live has one still, no more Welcomes wait, and the Welcomes that were put are to such as have one.
pub record Wins (b c : Sofar) : Type 0 where
  pub has : (s : ℕ) → HasWindow b.state s → HasWindow c.state s
  pub waiting : (s : ℕ) → welcome_in c.state.windows s ≡ true → welcome_in b.state.windows s ≡ true
  pub frames : AllByRecursion (FrameHas b.state) b.outs.frames → AllByRecursion (FrameHas c.state) c.outs.frames

frames_later : (d e : DataState) (fs : List DownOut) → ((s : ℕ) → HasWindow d s → HasWindow e s) → AllByRecursion (FrameHas d) fs → AllByRecursion (FrameHas e) fs
frames_later d e fs more all = all_follow (FrameHas d) (FrameHas e) (λ (f : DownOut) has. has_later d e more f.down.message has) fs all

wins_then : (b c e : Sofar) → Wins b c → Wins c e → Wins b e
wins_then b c e x y = record {
  has = λ s h. y.has s (x.has s h);
  waiting = λ s is. x.waiting s (y.waiting s is);
  frames = λ all. y.frames (x.frames all);
}

-- by what is known of the sessions
wins_by : (b c : Sofar) → Plainly b c → ((s : ℕ) → HasWindow b.state s → HasWindow c.state s) → Wins b c
wins_by b c p has = record {
  has = has;
  waiting = p.waiting;
  frames = λ all. p.frames c.state (frames_later b.state c.state b.outs.frames has all);
}

wins_plain : (b c : Sofar) → ((s : ℕ) → live c.state.order s ≡ true → live b.state.order s ≡ true) → Plainly b c → Wins b c
wins_plain b c lives p = wins_by b c p (λ s h at. p.windows s (h (lives s at)))

-- the order is as it was
wins_here : (b c : Sofar) → c.state.order ≡ b.state.order → Plainly b c → Wins b c
wins_here b c same p = wins_plain b c (λ s at. ap (λ (es : List Entry). live es s) (sym same) ∙ at) p

pub wins_same : (b c : Sofar) → c.state.order ≡ b.state.order → c.state.windows ≡ b.state.windows → c.outs.frames ≡ b.outs.frames → Wins b c
wins_same b c order windows frames = wins_here b c order (plain_same b c windows frames)

puts_here : (q : ℕ) (m : Down) (b : Sofar) → is_welcome m ≡ false → Wins b (puts q m b)
puts_here q m b none = wins_here b (puts q m b) (ap (λ (d : DataState). d.order) (only_puts q m b).state) (plain_puts q m b none)

-- a Welcome goes out to a session
wins_welcome : (q conn n : ℕ) (m : Down) (b : Sofar) → ((d : DataState) → HasWindow d q → WelcomeHas d m) → Wins b (tells q conn n m b)
wins_welcome q conn n m b its = record {
  has = has;
  waiting = λ s is. set_waiting b.state.windows q (with_ack_put (window_in b.state.windows q)) (λ at. at) s is;
  frames =
      λ all.
      all_joined (FrameHas (tells q conn n m b).state) b.outs.frames _ (frames_later b.state (tells q conn n m b).state b.outs.frames has all)
      (its (tells q conn n m b).state (λ lives. set_there b.state.windows q (with_ack_put (window_in b.state.windows q))), tt);
}
  where
    has : (s : ℕ) → HasWindow b.state s → HasWindow (tells q conn n m b).state s
    has s h lives = set_more b.state.windows q (with_ack_put (window_in b.state.windows q)) s (h lives)

-- connections

cut_plain : (ending : Ending) (conn : ℕ) (b : Sofar) → Wins b (cuts_if ending conn b)
cut_plain There conn b = wins_same b b refl refl refl
cut_plain Here conn b = wins_same b _ refl refl refl

drop_plain : (o : Option ℕ) (b : Sofar) → Wins b (drops_conn o b)
drop_plain None b = wins_same b b refl refl refl
drop_plain (Some conn) b = wins_same b _ refl refl refl

break_plain : (app now : ℕ) (b : Sofar) → Wins b (end_breaks (Some app) now b)
break_plain app now b = go (is_normal (link_of b.state app))
  where
    go : (normal : Bool) → Wins b (becomes (with_event app now event.Ended) (breaks_if normal app now b))
    go true = wins_same b _ refl refl refl
    go false = wins_same b _ refl refl refl

back_plain : (joined : Bool) (app now : ℕ) (b : Sofar) → Wins b (breaks_unless joined app now (becomes (with_event app now (event.RoundOver joined)) b))
back_plain true app now b = wins_same b _ refl refl refl
back_plain false app now b = wins_same b _ refl refl refl

backs_plain : (xs : List LiveEnd) (now : ℕ) (b : Sofar) → Wins b (ends_back xs now b)
backs_plain [] now b = wins_same b b refl refl refl
backs_plain (x ∷ xs) now b =
    wins_then b (end_back x.app x.session now b) (ends_back xs now (end_back x.app x.session now b))
    (back_plain (is_some (conn_of b.state x.session)) x.app now b) (backs_plain xs now (end_back x.app x.session now b))

-- sessions

-- one that opens has a window from then on
wins_opens : (app conn now : ℕ) (b : Sofar) → Wins b (opens app conn now b)
wins_opens app conn now b = wins_by b (opens app conn now b) plain has
  where
    s : ℕ
    s = length b.state.order + 1

    c : Sofar
    c = enters (Opened s app) b

    plain : Plainly b (opens app conn now b)
    plain =
        plain_then b c (opens app conn now b)
        (plain_then b (writes (act.Enter b.state.server (Opened s app)) b) c (plain_same b _ refl refl) (plain_appends (Opened s app) (writes (act.Enter b.state.server (Opened s app)) b)))
        (plain_set s fresh c (opens app conn now b) (λ none. absurd (false≢true none)) refl refl)

    order : c.state.order ≡ b.state.order ++ Opened s app ∷ []
    order = ap (λ (d : DataState). d.order) (appends_state (Opened s app) (writes (act.Enter b.state.server (Opened s app)) b)).state

    has : (q : ℕ) → HasWindow b.state q → HasWindow (opens app conn now b).state q
    has q h lives = go (open_or b.state.order s app q (ap (λ (es : List Entry). live es q) (sym order) ∙ lives))
      where
        go : (q ≡ s) ⊎ (live b.state.order q ≡ true) → list_any (is_window_of q) (set_window c.state.windows s fresh) ≡ true
        go (inl same) = subst (λ (n : ℕ). list_any (is_window_of n) (set_window c.state.windows s fresh) ≡ true) (sym same) (set_there c.state.windows s fresh)
        go (inr at) = plain.windows q (h at)

-- in a window that is gone nothing waits
gone_waiting : (ws : List SessionWindow) (q s : ℕ) → welcome_in (filter (is_window_elsewhere q) ws) s ≡ true → welcome_in ws s ≡ true
gone_waiting ws q s is = go (same_or s q)
  where
    none : (b : Bool) → list_any (is_window_of q) (filter (is_window_elsewhere q) ws) ≡ b → window_in (filter (is_window_elsewhere q) ws) q ≡ fresh
    none true there = absurd ((gone_there ws q q there).0 refl)
    none false there = none_there (filter (is_window_elsewhere q) ws) q there

    go : (s ≡ q) ⊎ (s ≢ q) → welcome_in ws s ≡ true
    go (inl same) =
        absurd (false≢true (sym (ap (λ (v : Window Down). list_any is_welcome v.waiting) (none (list_any (is_window_of q) (filter (is_window_elsewhere q) ws)) refl))
        ∙ subst (λ (n : ℕ). welcome_in (filter (is_window_elsewhere q) ws) n ≡ true) same is))
    go (inr other) = sym (ap (λ (v : Window Down). list_any is_welcome v.waiting) (gone_elsewhere ws q s other)) ∙ is

parts_plain : (cause : ShutCause) (o : Option ℕ) (s : ℕ) (b : Sofar) → Plainly b (parts_from cause o s b)
parts_plain (Trouble time) None s b = plain_same b b refl refl
parts_plain (Trouble time) (Some conn) s b = plain_same b _ refl refl
parts_plain Replaced None s b = plain_same b b refl refl
parts_plain Replaced (Some conn) s b = plain_same b _ refl refl
parts_plain (Round time) None s b = plain_same b b refl refl
parts_plain (Round time) (Some conn) s b = plain_same b _ refl refl

-- one that is closed isn't live any more
wins_closes : (s app : ℕ) (cause : ShutCause) (now : ℕ) (b : Sofar) → Wins b (shuts s app cause now b)
wins_closes s app cause now b = record {
  has = has;
  waiting = λ q is. gone_waiting b.state.windows s q (plain.waiting q is);
  frames = λ all. plain.frames last.state (frames_later b.state last.state b.outs.frames has all);
}
  where
    silent : Sofar
    silent = becomes (silenced s) (writes (act.Shut b.state.server s cause) b)

    closed : Sofar
    closed = with_close s cause b

    last : Sofar
    last = shuts s app cause now b

    order : last.state.order ≡ b.state.order ++ Closed s ∷ []
    order = (same_parts cause (conn_of b.state s) s closed).order ∙ ap (λ (d : DataState). d.order) (appends_state (Closed s) silent).state

    plain : Plainly silent last
    plain =
        plain_then silent closed last
        (plain_then silent (appends (Closed s) silent) closed (plain_appends (Closed s) silent) (plain_same (appends (Closed s) silent) closed refl refl))
        (plain_then closed (parts_from cause (conn_of b.state s) s closed) last (parts_plain cause (conn_of b.state s) s closed) (plain_same _ last refl refl))

    has : (q : ℕ) → HasWindow b.state q → HasWindow last.state q
    has q h lives =
        let at : (q ≢ s) × (live b.state.order q ≡ true) = close_live b.state.order s q (ap (λ (es : List Entry). live es q) (sym order) ∙ lives) in
        plain.windows q (gone_others b.state.windows s q at.0 ∙ h at.1)

-- an item enters
wins_enters : (e : Entry) (b : Sofar) → IsStill e → Wins b (enters e b)
wins_enters e b still =
    wins_plain b (enters e b) (λ s at. sym (still_live b.state.order e s still) ∙ (ap (λ (es : List Entry). live es s) (sym order) ∙ at))
    (plain_then b (writes (act.Enter b.state.server e) b) (enters e b) (plain_same b _ refl refl) (plain_appends e (writes (act.Enter b.state.server e) b)))
  where
    order : (enters e b).state.order ≡ b.state.order ++ e ∷ []
    order = ap (λ (d : DataState). d.order) (appends_state e (writes (act.Enter b.state.server e) b)).state

-- windows that acknowledge
wins_acked : (q ack : ℕ) (b : Sofar) → Wins b (becomes (λ d. with_window q (with_ack (window_of d q) ack) d) b)
wins_acked q ack b =
    wins_here b _ refl
    (plain_set q (with_ack (window_in b.state.windows q) ack) b _
    (λ is. any_dropped is_welcome (ack - (window_in b.state.windows q).acked) (window_in b.state.windows q).waiting is) refl refl)

wins_taken : (q ack : ℕ) (b : Sofar) → Wins b (becomes (λ d. with_window q (with_taken (window_of d q) ack) d) b)
wins_taken q ack b =
    wins_here b _ refl
    (plain_set q (with_taken (window_in b.state.windows q) ack) b _
    (λ is. any_dropped is_welcome (ack - (window_in b.state.windows q).acked) (window_in b.state.windows q).waiting is) refl refl)

-- calls of the table of locks
wins_locks : (f : Freed) (b : Sofar) → Wins b (locks_become f b)
wins_locks f b =
    wins_same b (locks_become f b) (ap (λ (d : DataState). d.order) (only_locks f b).state) (ap (λ (d : DataState). d.windows) (only_locks f b).state) (only_locks f b).frames

wins_calls : (call : LockCall) (b : Sofar) → Wins b (calls call b)
wins_calls (Asks r) b = wins_locks (asked b.state.locks r (length b.state.order)) b
wins_calls (Unlocks who mode key) b =
    wins_then b (frees who mode key b) _ (wins_same b _ refl refl refl) (wins_locks (freed b.state.locks who key mode (length b.state.order)) (frees who mode key b))
wins_calls (Withdraws r session ticket) b =
    wins_then b (frees r.who r.mode r.name b) _ (wins_same b _ refl refl refl)
    (wins_locks (without_request b.state.locks session ticket (length b.state.order)) (frees r.who r.mode r.name b))
wins_calls (GivesBack r) b =
    wins_then b (frees r.who r.mode r.name b) _ (wins_same b _ refl refl refl)
    (wins_locks (without_grant b.state.locks r (length b.state.order)) (frees r.who r.mode r.name b))
wins_calls (ForgetsTicket r) b = wins_same b _ refl refl refl
wins_calls (Claims who key mode number at) b = wins_same b _ refl refl refl
wins_calls (Cancels r) b = wins_locks (without_request b.state.locks r.who.session r.ticket (length b.state.order)) b
wins_calls (Releases session) b =
    wins_then b (writes (act.Release b.state.server session) b) _ (wins_same b _ refl refl refl)
    (wins_locks (without_session b.state.locks session (length b.state.order)) (writes (act.Release b.state.server session) b))

-- a reply leaves
wins_leaves : (says : Says) (b : Sofar) → Wins b (leaves says b)
wins_leaves (NewWelcome conn session) b = wins_welcome session conn 0 (new_welcome b.state session) b (λ d h. h)
wins_leaves (EpochWelcome conn session kept) b = wins_welcome session conn 0 (epoch_welcome b.state session kept) b (λ d h. h)
wins_leaves (ResetOf conn session place) b =
    wins_here b (leaves (ResetOf conn session place) b) refl
    (record {
      windows = λ s is. is;
      waiting = λ s is. is;
      frames = λ d all. all_joined (FrameHas d) b.outs.frames _ all (tt, tt);
    })
wins_leaves (GrantOf session ticket number) b = puts_here session (down.Grant (head_of b.state session) ticket number) b refl
wins_leaves (AnswerOf session about job number place sum) b = puts_here session (down.Answer (head_of b.state session) about job number place sum) b refl

-- Each of them, where no Welcome waits in a window.
pub wins_piece : (t : Coming) (p : Piece) (b : Sofar) → ((s : ℕ) → welcome_in b.state.windows s ≡ false) → MayMake t p b → Wins b (makes t.now p b)
wins_piece t (Accepts conn) b none may = wins_same b _ refl refl refl
wins_piece t (Forgets ending conn) b none may =
    wins_then b (becomes (without_conn conn) b) _ (wins_same b _ refl refl refl) (cut_plain ending conn (becomes (without_conn conn) b))
wins_piece t (Breaks ending conn session app) b none may =
    wins_then b (end_breaks (Some app) t.now (becomes (without_conn conn) b)) _
    (wins_then b (becomes (without_conn conn) b) _ (wins_same b _ refl refl refl) (break_plain app t.now (becomes (without_conn conn) b)))
    (cut_plain ending conn (end_breaks (Some app) t.now (becomes (without_conn conn) b)))
wins_piece t (Dials app dial) b none may = wins_same b _ refl refl refl
wins_piece t (Waits app conn) b none may =
    wins_then b (drops_conn (waiting_conn b.state app) b) _ (drop_plain (waiting_conn b.state app) b) (wins_same (drops_conn (waiting_conn b.state app) b) _ refl refl refl)
wins_piece t (Opens app conn) b none may = wins_opens app conn t.now b
wins_piece t (OpensNext app conn) b none may =
    wins_then b (becomes next_caller b) _ (wins_same b _ refl refl refl) (wins_opens app conn t.now (becomes next_caller b))
wins_piece t (Resumes app session conn) b none may =
    wins_then b (drops_conn (conn_of b.state session) b) _ (drop_plain (conn_of b.state session) b) (wins_same (drops_conn (conn_of b.state session) b) _ refl refl refl)
wins_piece t (GoesOn session conn taken) b none may =
    wins_then b c _ (wins_welcome session conn 0 (old_welcome b.state session) b (λ d h. h))
    (wins_here c (sends_again session conn (resent (window_of b.state session) taken) c) (order (resent (window_of b.state session) taken) c)
    (plain_resent session conn taken (window_of b.state session) c (none session)))
  where
    c : Sofar
    c = tells session conn 0 (old_welcome b.state session) b

    order : (ms : List (ℕ × Down)) (e : Sofar) → (sends_again session conn ms e).state.order ≡ e.state.order
    order [] e = refl
    order (m ∷ ms) e = order ms (tells session conn m.0 m.1 e)
wins_piece t (ComesAgain session conn kept) b none may =
    wins_here b _ refl (plain_set session fresh b _ (λ is. absurd (false≢true is)) refl refl)
wins_piece t (AwaitsReset session conn at) b none may = wins_same b _ refl refl refl
wins_piece t (Closes session app cause) b none may = wins_closes session app cause t.now b
wins_piece t (Acknowledges conn session f) b none may = wins_acked session f.ack b
wins_piece t (Takes conn session f) b none may = wins_taken session f.ack b
wins_piece t (TakesDone conn session f) b none may = wins_then b _ _ (wins_taken session f.ack b) (wins_same _ _ refl refl refl)
wins_piece t (Enters e) b none may = wins_enters e b (item_still may.session may.its.up.message e may.item)
wins_piece t (Fetches session run block) b none may =
    wins_then b (puts session (down.Block (head_of b.state session) block) b) _ (puts_here session (down.Block (head_of b.state session) block) b refl)
    (wins_same _ _ refl refl refl)
wins_piece t (PutsNormal app session) b none may = puts_here session (down.Normal (head_of b.state session)) b refl
wins_piece t (PutsAck session) b none may = puts_here session (down.Ack (head_of b.state session)) b refl
wins_piece t (Replies at says) b none may = wins_same b _ refl refl refl
wins_piece t (Leaves before r behind) b none may =
    wins_then b (becomes (with_replies (before ++ behind)) b) _ (wins_same b _ refl refl refl) (wins_leaves r.says (becomes (with_replies (before ++ behind)) b))
wins_piece t (Bares session conn) b none may = wins_here b _ refl (plain_tells session conn 0 down.Bare b refl)
wins_piece t (CallsLocks call) b none may = wins_calls call b
wins_piece t RoundEnds b none may =
    wins_then b _ _ (wins_same b _ refl refl refl)
    (backs_plain (live_ends b.state.order) t.now (writes (act.Back b.state.server) (becomes (λ d. record d { round = None }) b)))
wins_piece t (Ticks app session) b none may = wins_same b _ refl refl refl
