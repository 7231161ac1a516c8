-- What each small change of a data server's step makes of the order.
use Rattle.std.proofs.Common.{◌≡◌, ◌≢◌, ◌≤◌, ◌<◌, ◌⊎◌, inl, inr, ◌+◌, max, ℕ, Bool, true, false, if◌then◌else◌, List, [], ◌∷◌, ◌++◌, length, Option, Some, None, is_some, refl, sym, ◌∙◌, ap, subst, arith}
use Rattle.std.specs.Prelude.{◌==◌}
use Rattle.std.proofs.lemmas.Bool.{ne_eqb}
use Rattle.plain_orders.specs.declared.act.Act.TheVariants as act
use Rattle.plain_orders.specs.declared.causes.ShutCause.{ShutCause}
use Rattle.plain_orders.specs.declared.entry.Entry.{Entry}
use Rattle.plain_orders.specs.declared.entry.Entry.TheVariants.{Opened, Closed, Update as UpdateEntry, Commit as CommitEntry, Rollback as RollbackEntry}
use Rattle.plain_orders.specs.declared.op.Op.TheVariants as ops
use Rattle.plain_orders.specs.Entries.{count, live, w_in}
use Rattle.plain_orders.proofs.EntryLemmas.{count-push}
use Rattle.ecp_messages.specs.declared.down.Down.{Down}
use Rattle.ecp_messages.specs.declared.down.Down.TheVariants as down
use Rattle.ecp_messages.specs.declared.up.Up.{Up}
use Rattle.ecp_messages.specs.declared.up.Up.TheVariants as up
use Rattle.end_words.specs.Windows.{Window, fresh, with_ack, with_taken}
use Rattle.data_rules.specs.DataState.{DataState, SessionWindow}
use Rattle.data_rules.specs.Callers.{waiting_conn}
use Rattle.data_rules.specs.Closing.{silenced}
use Rattle.data_rules.specs.Conns.{breaks_if, drops_conn, end_breaks, is_normal, link_of, without_conn}
use Rattle.data_rules.specs.Entering.{appends, enters}
use Rattle.data_rules.specs.declared.rows.Kind.TheVariants.{Opening}
use Rattle.data_rules.specs.Frames.{kind_of}
use Rattle.data_rules.specs.Opening.{live_ends, opens}
use Rattle.data_rules.specs.Puts.{Sofar, becomes, conn_of, head_of, puts, set_window, window_in, window_of, writes}
use Rattle.cluster_runs.specs.Sent.{Lane}
use Rattle.cluster_invariant.proofs.PieceKinds.{Piece, Accepts, Forgets, Breaks, Dials, Waits, Opens, OpensNext, Resumes, GoesOn, ComesAgain, AwaitsReset, Closes, Acknowledges, Takes, TakesDone, Enters, Fetches, PutsNormal, PutsAck, Replies, Leaves, Bares, Locks, RoundEnds, Ticks, calls, cuts_if, makes, next_caller, parts_from, round_over, with_close, with_replies}
use Rattle.cluster_invariant.proofs.PieceMay.{ComesAgainMay, Coming, EntersMay, item_of}
use Rattle.cluster_invariant.proofs.Pieces.{MayMake}
use Rattle.cluster_invariant.proofs.PiecesOfCloses.{close_order}
use Rattle.cluster_invariant.proofs.PutLaws.{appends_state, only_leaves, only_puts}
use Rattle.data_pieces.proofs.QuietPieces.{quiet_goes_on}
use Rattle.data_puts.proofs.TakenSame.{SameTaken, set_taken, taken_appends, taken_bare, taken_goes_on, taken_leaves, taken_puts}
use Rattle.link_kept.proofs.WindowLists.{gone_elsewhere, set_elsewhere, set_here}
use Rattle.link_kept.proofs.WindowPieces.{SameWindows, item_still, same_breaks, same_calls, same_cuts, same_drops, same_parts, same_round}
use Rattle.link_kept.proofs.WindowsGo.{close_live, open_or, same_or, still_live}

-- the order

-- an entry that enters: an item, an Open or a Close
abbrev pub EntryBy : Coming → Sofar → Entry → Type 0
EntryBy t b e = EntersMay t e b ⊎ ((app : ℕ) × (e ≡ Opened (length b.state.order + 1) app)) ⊎ ((s : ℕ) × (e ≡ Closed s))

-- it is as it was, or has one more
abbrev pub OrderStep : Coming → Sofar → List Entry → Type 0
OrderStep t b es = (es ≡ b.state.order) ⊎ ((e : Entry) × (es ≡ b.state.order ++ e ∷ []) × EntryBy t b e)

opens_order : (app conn now : ℕ) (b : Sofar) → (opens app conn now b).state.order ≡ b.state.order ++ Opened (length b.state.order + 1) app ∷ []
opens_order app conn now b =
    ap (λ (d : DataState). d.order) (appends_state (Opened (length b.state.order + 1) app) (writes (act.Enter b.state.server (Opened (length b.state.order + 1) app)) b)).state

pub order_piece : (t : Coming) (x : Piece) (b : Sofar) → MayMake t x b → OrderStep t b (makes t.now x b).state.order
order_piece t (Accepts conn) b may = inl refl
order_piece t (Forgets ending conn) b may = inl (same_cuts ending conn (becomes (without_conn conn) b)).order
order_piece t (Breaks ending conn session app) b may =
    inl ((same_cuts ending conn (end_breaks (Some app) t.now (becomes (without_conn conn) b))).order ∙ (same_breaks (is_normal (link_of (without_conn conn b.state) app)) app t.now (becomes (without_conn conn) b)).order)
order_piece t (Dials app dial) b may = inl refl
order_piece t (Waits app conn) b may = inl (same_drops (waiting_conn b.state app) b).order
order_piece t (Opens app conn) b may = inr (Opened (length b.state.order + 1) app, opens_order app conn t.now b, inr (inl (app, refl)))
order_piece t (OpensNext app conn) b may = inr (Opened (length b.state.order + 1) app, opens_order app conn t.now (becomes next_caller b), inr (inl (app, refl)))
order_piece t (Resumes app session conn) b may = inl (same_drops (conn_of b.state session) b).order
order_piece t (GoesOn session conn taken) b may = inl (quiet_goes_on session conn taken b).core.order
order_piece t (ComesAgain session conn kept) b may = inl refl
order_piece t (AwaitsReset session conn at) b may = inl refl
order_piece t (Closes session app cause) b may =
    inr (Closed session, (same_parts cause (conn_of b.state session) session (with_close session cause b)).order ∙ close_order session cause b, inr (inr (session, refl)))
order_piece t (Acknowledges conn session f) b may = inl refl
order_piece t (Takes conn session f) b may = inl refl
order_piece t (TakesDone conn session f) b may = inl refl
order_piece t (Enters e) b may = inr (e, ap (λ (d : DataState). d.order) (appends_state e (writes (act.Enter b.state.server e) b)).state, inl may)
order_piece t (Fetches session run block) b may = inl (ap (λ (d : DataState). d.order) (only_puts session (down.Block (head_of b.state session) block) b).state)
order_piece t (PutsNormal app session) b may = inl (ap (λ (d : DataState). d.order) (only_puts session (down.Normal (head_of b.state session)) b).state)
order_piece t (PutsAck session) b may = inl (ap (λ (d : DataState). d.order) (only_puts session (down.Ack (head_of b.state session)) b).state)
order_piece t (Replies at says) b may = inl refl
order_piece t (Leaves before r behind) b may = inl (ap (λ (d : DataState). d.order) (only_leaves r.says (becomes (with_replies (before ++ behind)) b)).state)
order_piece t (Bares session conn) b may = inl refl
order_piece t (Locks call) b may = inl (same_calls call b).order
order_piece t RoundEnds b may = inl (same_round (live_ends b.state.order) t.now b).order
order_piece t (Ticks app session) b may = inl refl

-- counts

some_entry : (x y : Entry) → Some x ≡ Some y → x ≡ y
some_entry x y same = cc

-- an item counts for its session alone
item_counts : (r s : ℕ) (m : Up) (e : Entry) → item_of r m ≡ Some e → r ≢ s → w_in s e ≡ 0
item_counts r s (up.Hello app dial) e its apart = absurd cc
item_counts r s (up.Recover app q epoch taken dial) e its apart = absurd cc
item_counts r s (up.Update w job txn op) e its apart =
    ap (w_in s) (sym (some_entry (UpdateEntry r w job txn op) e its)) ∙ ap (λ (b : Bool). if b then w else 0) (ne_eqb r s apart)
item_counts r s (up.Add w job key amount) e its apart =
    ap (w_in s) (sym (some_entry (UpdateEntry r w job 0 (ops.Add key amount)) e its)) ∙ ap (λ (b : Bool). if b then w else 0) (ne_eqb r s apart)
item_counts r s (up.Fetch key) e its apart = absurd cc
item_counts r s (up.Ask ticket job mode key) e its apart = absurd cc
item_counts r s (up.Unlock job mode key) e its apart = absurd cc
item_counts r s (up.Cancel ticket) e its apart = absurd cc
item_counts r s (up.Commit w job txn wanted) e its apart =
    ap (w_in s) (sym (some_entry (CommitEntry r w job txn) e its)) ∙ ap (λ (b : Bool). if b then w else 0) (ne_eqb r s apart)
item_counts r s (up.Rollback w job txn) e its apart =
    ap (w_in s) (sym (some_entry (RollbackEntry r w job txn) e its)) ∙ ap (λ (b : Bool). if b then w else 0) (ne_eqb r s apart)
item_counts r s (up.Sync ticket) e its apart = absurd cc
item_counts r s up.Done e its apart = absurd cc
item_counts r s (up.Claim job mode number at key) e its apart = absurd cc
item_counts r s up.Bare e its apart = absurd cc

-- of a session of which no item enters nothing more counts
pub count_step : (t : Coming) (b : Sofar) (es : List Entry) (s : ℕ) → ((e : Entry) (m : EntersMay t e b) → m.session ≢ s) → OrderStep t b es → count es s ≡ count b.state.order s
count_step t b es s others (inl same) = ap (λ (l : List Entry). count l s) same
count_step t b es s others (inr more) = ap (λ (l : List Entry). count l s) more.1 ∙ count-push b.state.order more.0 s ∙ nothing (w_in s more.0) (by more.0 more.2)
  where
    nothing : (n : ℕ) → n ≡ 0 → max (count b.state.order s) n ≡ count b.state.order s
    nothing n is = omega (arith, is)

    by : (e : Entry) → EntryBy t b e → w_in s e ≡ 0
    by e (inl m) = item_counts m.session s m.its.up.message e m.item (others e m)
    by e (inr (inl o)) = ap (w_in s) o.1
    by e (inr (inr c)) = ap (w_in s) c.1

-- an item comes in a numbered message
pub item_comes : (r : ℕ) (m : Up) (e : Entry) → item_of r m ≡ Some e → kind_of m ≡ Opening → ⊥
item_comes r (up.Hello app dial) e its is = absurd cc
item_comes r (up.Recover app q epoch taken dial) e its is = absurd cc
item_comes r (up.Update w job txn op) e its is = absurd cc
item_comes r (up.Add w job key amount) e its is = absurd cc
item_comes r (up.Fetch key) e its is = absurd cc
item_comes r (up.Ask ticket job mode key) e its is = absurd cc
item_comes r (up.Unlock job mode key) e its is = absurd cc
item_comes r (up.Cancel ticket) e its is = absurd cc
item_comes r (up.Commit w job txn wanted) e its is = absurd cc
item_comes r (up.Rollback w job txn) e its is = absurd cc
item_comes r (up.Sync ticket) e its is = absurd cc
item_comes r up.Done e its is = absurd cc
item_comes r (up.Claim job mode number at key) e its is = absurd cc
item_comes r up.Bare e its is = absurd cc
