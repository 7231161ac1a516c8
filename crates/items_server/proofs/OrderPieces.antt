-- What each small change of a data server's step makes of the order.
use Rattle.std.proofs.Common.{◌≡◌, ◌⊎◌, inl, inr, ◌+◌, ℕ, List, [], ◌∷◌, ◌++◌, length, Some, refl, ◌∙◌, ap}
use Rattle.plain_orders.specs.declared.act.Act.TheVariants as act
use Rattle.plain_orders.specs.declared.entry.Entry.{Entry}
use Rattle.plain_orders.specs.declared.entry.Entry.TheVariants.{Opened, Closed}
use Rattle.ecp_messages.specs.declared.down.Down.TheVariants as down
use Rattle.data_rules.specs.DataState.{DataState}
use Rattle.data_rules.specs.Callers.{waiting_conn}
use Rattle.data_rules.specs.Conns.{end_breaks, is_normal, link_of, without_conn}
use Rattle.data_rules.specs.Opening.{live_ends, opens}
use Rattle.data_rules.specs.Puts.{Sofar, becomes, conn_of, head_of, writes}
use Rattle.cluster_invariant.proofs.PieceKinds.{Piece, Accepts, Forgets, Breaks, Dials, Waits, Opens, OpensNext, Resumes, GoesOn, ComesAgain, AwaitsReset, Closes, Acknowledges, Takes, TakesDone, Enters, Fetches, PutsNormal, PutsAck, Replies, Leaves, Bares, Locks, RoundEnds, Ticks, makes, next_caller, with_close, with_replies}
use Rattle.cluster_invariant.proofs.PieceMay.{Coming, EntersMay}
use Rattle.cluster_invariant.proofs.Pieces.{MayMake}
use Rattle.cluster_invariant.proofs.PiecesOfCloses.{close_order}
use Rattle.cluster_invariant.proofs.PutLaws.{appends_state, only_leaves, only_puts}
use Rattle.data_pieces.proofs.QuietPieces.{quiet_goes_on}
use Rattle.link_kept.proofs.WindowPieces.{same_breaks, same_calls, same_cuts, same_drops, same_parts, same_round}

-- the order

-- an entry that enters: an item, an Open or a Close
abbrev pub EntryBy : Coming → Sofar → Entry → Type 0
EntryBy t b e = EntersMay t e b ⊎ ((app : ℕ) × (e ≡ Opened (length b.state.order + 1) app)) ⊎ ((s : ℕ) × (e ≡ Closed s))

-- it is as it was, or has one more
abbrev pub OrderStep : Coming → Sofar → List Entry → Type 0
OrderStep t b es = (es ≡ b.state.order) ⊎ ((e : Entry) × (es ≡ b.state.order ++ e ∷ []) × EntryBy t b e)

opens_order : (app conn now : ℕ) (b : Sofar) → (opens app conn now b).state.order ≡ b.state.order ++ Opened (length b.state.order + 1) app ∷ []
opens_order app conn now b =
    ap (λ (d : DataState). d.order) (appends_state (Opened (length b.state.order + 1) app) (writes (act.Enter b.state.server (Opened (length b.state.order + 1) app)) b)).state

pub order_piece : (t : Coming) (x : Piece) (b : Sofar) → MayMake t x b → OrderStep t b (makes t.now x b).state.order
order_piece t (Accepts conn) b may = inl refl
order_piece t (Forgets ending conn) b may = inl (same_cuts ending conn (becomes (without_conn conn) b)).order
order_piece t (Breaks ending conn session app) b may =
    inl ((same_cuts ending conn (end_breaks (Some app) t.now (becomes (without_conn conn) b))).order ∙ (same_breaks (is_normal (link_of (without_conn conn b.state) app)) app t.now (becomes (without_conn conn) b)).order)
order_piece t (Dials app dial) b may = inl refl
order_piece t (Waits app conn) b may = inl (same_drops (waiting_conn b.state app) b).order
order_piece t (Opens app conn) b may = inr (Opened (length b.state.order + 1) app, opens_order app conn t.now b, inr (inl (app, refl)))
order_piece t (OpensNext app conn) b may = inr (Opened (length b.state.order + 1) app, opens_order app conn t.now (becomes next_caller b), inr (inl (app, refl)))
order_piece t (Resumes app session conn) b may = inl (same_drops (conn_of b.state session) b).order
order_piece t (GoesOn session conn taken) b may = inl (quiet_goes_on session conn taken b).core.order
order_piece t (ComesAgain session conn kept) b may = inl refl
order_piece t (AwaitsReset session conn at) b may = inl refl
order_piece t (Closes session app cause) b may =
    inr (Closed session, (same_parts cause (conn_of b.state session) session (with_close session cause b)).order ∙ close_order session cause b, inr (inr (session, refl)))
order_piece t (Acknowledges conn session f) b may = inl refl
order_piece t (Takes conn session f) b may = inl refl
order_piece t (TakesDone conn session f) b may = inl refl
order_piece t (Enters e) b may = inr (e, ap (λ (d : DataState). d.order) (appends_state e (writes (act.Enter b.state.server e) b)).state, inl may)
order_piece t (Fetches session run block) b may = inl (ap (λ (d : DataState). d.order) (only_puts session (down.Block (head_of b.state session) block) b).state)
order_piece t (PutsNormal app session) b may = inl (ap (λ (d : DataState). d.order) (only_puts session (down.Normal (head_of b.state session)) b).state)
order_piece t (PutsAck session) b may = inl (ap (λ (d : DataState). d.order) (only_puts session (down.Ack (head_of b.state session)) b).state)
order_piece t (Replies at says) b may = inl refl
order_piece t (Leaves before r behind) b may = inl (ap (λ (d : DataState). d.order) (only_leaves r.says (becomes (with_replies (before ++ behind)) b)).state)
order_piece t (Bares session conn) b may = inl refl
order_piece t (Locks call) b may = inl (same_calls call b).order
order_piece t RoundEnds b may = inl (same_round (live_ends b.state.order) t.now b).order
order_piece t (Ticks app session) b may = inl refl
