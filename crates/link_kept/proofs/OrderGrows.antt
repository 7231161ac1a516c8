-- Each small change of a data server's step lets its order go on.
use Rattle.std.proofs.Common.{◌≡◌, ℕ, ◌+◌, List, [], ◌∷◌, ◌++◌, length, Some, refl, sym, ◌∙◌, ap}
use Rattle.std.proofs.lemmas.List.{append-nil}
use Rattle.plain_orders.specs.declared.act.Act.TheVariants as act
use Rattle.plain_orders.specs.declared.entry.Entry.{Entry}
use Rattle.plain_orders.specs.declared.entry.Entry.TheVariants.{Opened, Closed}
use Rattle.ecp_messages.specs.declared.down.Down.{Down}
use Rattle.ecp_messages.specs.declared.down.Down.TheVariants as down
use Rattle.end_words.specs.Windows.{resent}
use Rattle.data_rules.specs.DataState.{DataState}
use Rattle.data_rules.specs.Puts.{Sofar, becomes, writes, tells, puts, conn_of, head_of, window_of}
use Rattle.data_rules.specs.Conns.{link_of, is_normal, without_conn, end_breaks}
use Rattle.data_rules.specs.Opening.{live_ends}
use Rattle.data_rules.specs.Callers.{waiting_conn, sends_again, old_welcome}
use Rattle.cluster_invariant.specs.Words.{IsFront}
use Rattle.cluster_invariant.proofs.PutLaws.{only_puts, only_leaves, appends_state}
use Rattle.cluster_invariant.proofs.PiecesOfCloses.{close_order}
use Rattle.cluster_invariant.proofs.PieceKinds.{Piece, Accepts, Forgets, Breaks, Dials, Waits, Opens, OpensNext, Resumes, GoesOn, ComesAgain, AwaitsReset, Closes, Acknowledges, Takes, TakesDone, Enters, Fetches, PutsNormal, PutsAck, Replies, Leaves, Bares, Locks, RoundEnds, Ticks, with_close, next_caller, with_replies, makes}
use Rattle.link_kept.proofs.Later.{front_same}
use Rattle.link_kept.proofs.WindowPieces.{same_cuts, same_drops, same_breaks, same_parts, same_calls, same_round}

-- the order is as it was, or has an entry more
by_same : (es fs : List Entry) → fs ≡ es → IsFront es fs
by_same es fs same = ([], same ∙ sym (append-nil es))

by_entry : (es fs : List Entry) (e : Entry) → fs ≡ es ++ e ∷ [] → IsFront es fs
by_entry es fs e same = (e ∷ [], same)

again_order : (s conn : ℕ) (ms : List (ℕ × Down)) (b : Sofar) → (sends_again s conn ms b).state.order ≡ b.state.order
again_order s conn [] b = refl
again_order s conn (m ∷ ms) b = again_order s conn ms (tells s conn m.0 m.1 b)

puts_order : (s : ℕ) (m : Down) (b : Sofar) → (puts s m b).state.order ≡ b.state.order
puts_order s m b = ap (λ (d : DataState). d.order) (only_puts s m b).state

pub order_grows : (now : ℕ) (p : Piece) (b : Sofar) → IsFront b.state.order (makes now p b).state.order
order_grows now (Accepts conn) b = front_same b.state.order
order_grows now (Forgets ending conn) b = by_same b.state.order _ (same_cuts ending conn (becomes (without_conn conn) b)).order
order_grows now (Breaks ending conn session app) b =
    by_same b.state.order _
    ((same_cuts ending conn (end_breaks (Some app) now (becomes (without_conn conn) b))).order
    ∙ (same_breaks (is_normal (link_of b.state app)) app now (becomes (without_conn conn) b)).order)
order_grows now (Dials app dial) b = front_same b.state.order
order_grows now (Waits app conn) b = by_same b.state.order _ (same_drops (waiting_conn b.state app) b).order
order_grows now (Opens app conn) b =
    by_entry b.state.order _ (Opened (length b.state.order + 1) app)
    (ap (λ (d : DataState). d.order)
    (appends_state (Opened (length b.state.order + 1) app) (writes (act.Enter b.state.server (Opened (length b.state.order + 1) app)) b)).state)
order_grows now (OpensNext app conn) b =
    by_entry b.state.order _ (Opened (length b.state.order + 1) app)
    (ap (λ (d : DataState). d.order)
    (appends_state (Opened (length b.state.order + 1) app)
    (writes (act.Enter b.state.server (Opened (length b.state.order + 1) app)) (becomes next_caller b))).state)
order_grows now (Resumes app session conn) b = by_same b.state.order _ (same_drops (conn_of b.state session) b).order
order_grows now (GoesOn session conn taken) b =
    by_same b.state.order _ (again_order session conn (resent (window_of b.state session) taken) (tells session conn 0 (old_welcome b.state session) b))
order_grows now (ComesAgain session conn kept) b = front_same b.state.order
order_grows now (AwaitsReset session conn at) b = front_same b.state.order
order_grows now (Closes session app cause) b =
    by_entry b.state.order _ (Closed session)
    ((same_parts cause (conn_of b.state session) session (with_close session cause b)).order ∙ close_order session cause b)
order_grows now (Acknowledges conn session f) b = front_same b.state.order
order_grows now (Takes conn session f) b = front_same b.state.order
order_grows now (TakesDone conn session f) b = front_same b.state.order
order_grows now (Enters e) b =
    by_entry b.state.order _ e (ap (λ (d : DataState). d.order) (appends_state e (writes (act.Enter b.state.server e) b)).state)
order_grows now (Fetches session run block) b = by_same b.state.order _ (puts_order session (down.Block (head_of b.state session) block) b)
order_grows now (PutsNormal app session) b = by_same b.state.order _ (puts_order session (down.Normal (head_of b.state session)) b)
order_grows now (PutsAck session) b = by_same b.state.order _ (puts_order session (down.Ack (head_of b.state session)) b)
order_grows now (Replies at says) b = front_same b.state.order
order_grows now (Leaves before r behind) b =
    by_same b.state.order _ (ap (λ (d : DataState). d.order) (only_leaves r.says (becomes (with_replies (before ++ behind)) b)).state)
order_grows now (Bares session conn) b = front_same b.state.order
order_grows now (Locks call) b = by_same b.state.order _ (same_calls call b).order
order_grows now RoundEnds b = by_same b.state.order _ (same_round (live_ends b.state.order) now b).order
order_grows now (Ticks app session) b = front_same b.state.order
