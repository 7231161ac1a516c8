-- The end of a recovery round, as pieces: all ends go on at once, their sessions are told, and then the Hellos that waited open.
use Rattle.std.proofs.Common.{◌≡◌, ℕ, ◌+◌, Bool, true, false, List, [], ◌∷◌, length, drop, Option, Some, None, is_some, refl, sym, ◌∙◌, ap, subst}
use Rattle.std.specs.List.{AllByRecursion}
use Rattle.plain_orders.specs.declared.act.Act.TheVariants as act
use Rattle.plain_orders.specs.declared.entry.Entry.{Entry}
use Rattle.plain_orders.specs.declared.entry.Entry.TheVariants.{Opened as OpenEntry}
use Rattle.plain_orders.specs.Entries.{live_session}
use Rattle.link_states.specs.declared.link_event.LinkEvent.TheVariants.{RoundOver}
use Rattle.ecp_messages.specs.declared.down.Down.TheVariants.{Normal}
use Rattle.ecp_messages.specs.declared.front.Front.{Front}
use Rattle.data_rules.specs.DataState.{DataState}
use Rattle.recovery_round.specs.RoundWords.{Round}
use Rattle.data_rules.specs.declared.rows.Caller.{Caller}
use Rattle.data_rules.specs.declared.rows.LiveEnd.{LiveEnd}
use Rattle.data_rules.specs.declared.rows.Says.TheVariants.{NewWelcome}
use Rattle.data_rules.specs.Puts.{Sofar, becomes, writes, replies, puts, head_of, conn_of}
use Rattle.data_rules.specs.Conns.{with_event}
use Rattle.data_rules.specs.Opening.{bound, opens, opens_all, breaks_unless, comes_back, come_back, with_end, ends_among, live_ends, all_apps, without_round, round_ends, is_round_over, round_ends_if, rounds}
use Rattle.cluster_invariant.proofs.Aside.{IsAside, aside_then, aside_none, puts_aside, head_same, appends_aside}
use Rattle.cluster_invariant.proofs.PutLaws.{OnlyWindows, only_none, only_then, only_puts, appends_state}
use Rattle.cluster_invariant.proofs.PieceKinds.{PutsNormal, OpensNext, RoundEnds, next_caller, end_back, ends_back, round_over}
use Rattle.cluster_invariant.proofs.PieceMay.{Coming, RoundWas}
use Rattle.cluster_invariant.proofs.Pieces.{Pieced, no_piece, one_then, and_then, by_after}

-- the ends

-- one that goes on, by whether it has a connection
abbrev back_by : Bool → ℕ → ℕ → Sofar → Sofar
back_by joined app now b = breaks_unless joined app now (becomes (with_event app now (RoundOver joined)) b)

back_aside : (joined : Bool) (app now : ℕ) → IsAside (back_by joined app now)
back_aside true app now = record {
  order = λ b. refl;
  synced = λ b. refl;
  server = λ b. refl;
  windows = λ b. refl;
  conns = λ b. refl;
  noted = λ b. refl;
  round = λ b. refl;
  frame = λ f b. refl;
  window = λ s w b. refl;
  entry = λ e spans b. refl;
}
back_aside false app now = record {
  order = λ b. refl;
  synced = λ b. refl;
  server = λ b. refl;
  windows = λ b. refl;
  conns = λ b. refl;
  noted = λ b. refl;
  round = λ b. refl;
  frame = λ f b. refl;
  window = λ s w b. refl;
  entry = λ e spans b. refl;
}

end_aside : (app s now : ℕ) → IsAside (end_back app s now)
end_aside app s now = record {
  order = λ b. (back_aside (is_some (conn_of b.state s)) app now).order b;
  synced = λ b. (back_aside (is_some (conn_of b.state s)) app now).synced b;
  server = λ b. (back_aside (is_some (conn_of b.state s)) app now).server b;
  windows = λ b. (back_aside (is_some (conn_of b.state s)) app now).windows b;
  conns = λ b. (back_aside (is_some (conn_of b.state s)) app now).conns b;
  noted = λ b. (back_aside (is_some (conn_of b.state s)) app now).noted b;
  round = λ b. (back_aside (is_some (conn_of b.state s)) app now).round b;
  frame = λ f b. (back_aside (is_some (conn_of b.state s)) app now).frame f b;
  window = λ q w b. (back_aside (is_some (conn_of b.state s)) app now).window q w b;
  entry = λ e spans b. (back_aside (is_some (conn_of b.state s)) app now).entry e spans b;
}

pub ends_aside : (xs : List LiveEnd) (now : ℕ) → IsAside (ends_back xs now)
ends_aside [] now = aside_none
ends_aside (x ∷ xs) now = aside_then (end_back x.app x.session now) (ends_back xs now) (end_aside x.app x.session now) (ends_aside xs now)

-- the sessions are told, one after the other
abbrev pub normals : List LiveEnd → Sofar → Sofar
normals [] b = b
normals (x ∷ xs) b = normals xs (puts x.session (Normal (head_of b.state x.session)) b)

-- It is the same whether each end goes on just before its session is told, or all do before.
come_back_is : (xs : List LiveEnd) (now : ℕ) (b : Sofar) → come_back xs now b ≡ normals xs (ends_back xs now b)
come_back_is [] now b = refl
come_back_is (x ∷ xs) now b =
    come_back_is xs now (comes_back x.app x.session now b)
    ∙ ap (normals xs) (puts_aside (ends_back xs now) (ends_aside xs now) x.session (Normal (head_of b.state x.session)) (end_back x.app x.session now b)
    ∙ ap (λ (f : Front). puts x.session (Normal f) (ends_back xs now (end_back x.app x.session now b)))
    (sym (head_same b.state (ends_back xs now (end_back x.app x.session now b)).state x.session
    ((ends_aside (x ∷ xs) now).order b) ((ends_aside (x ∷ xs) now).synced b))))

-- the Hellos that wait

abbrev pub calls_with : List Caller → Sofar → Sofar
calls_with cs b = becomes (λ d. record d { callers = cs }) b

callers_aside : (cs : List Caller) → IsAside (calls_with cs)
callers_aside cs = record {
  order = λ b. refl;
  synced = λ b. refl;
  server = λ b. refl;
  windows = λ b. refl;
  conns = λ b. refl;
  noted = λ b. refl;
  round = λ b. refl;
  frame = λ f b. refl;
  window = λ s w b. refl;
  entry = λ e spans b. refl;
}

ends_callers : (cs : List Caller) (xs : List LiveEnd) (now : ℕ) (b : Sofar) → ends_back xs now (calls_with cs b) ≡ calls_with cs (ends_back xs now b)
ends_callers cs [] now b = refl
ends_callers cs (x ∷ xs) now b =
    ap (ends_back xs now) (go (is_some (conn_of b.state x.session))) ∙ ends_callers cs xs now (end_back x.app x.session now b)
  where
    go : (joined : Bool) → back_by joined x.app now (calls_with cs b) ≡ calls_with cs (back_by joined x.app now b)
    go true = refl
    go false = refl

normals_callers : (cs : List Caller) (xs : List LiveEnd) (b : Sofar) → normals xs (calls_with cs b) ≡ calls_with cs (normals xs b)
normals_callers cs [] b = refl
normals_callers cs (x ∷ xs) b =
    ap (normals xs) (sym (puts_aside (calls_with cs) (callers_aside cs) x.session (Normal (head_of b.state x.session)) b))
    ∙ normals_callers cs xs (puts x.session (Normal (head_of b.state x.session)) b)

-- what follows the Open
abbrev welcomes : ℕ → ℕ → ℕ → ℕ → Sofar → Sofar
welcomes app conn now session b = replies session (NewWelcome conn session) (becomes (bound app session conn now) b)

pub opens_callers : (cs : List Caller) (app conn now : ℕ) (b : Sofar) → opens app conn now (calls_with cs b) ≡ calls_with cs (opens app conn now b)
opens_callers cs app conn now b =
    ap (welcomes app conn now (length b.state.order + 1))
    (sym (appends_aside (calls_with cs) (callers_aside cs) (OpenEntry (length b.state.order + 1) app)
    (writes (act.Enter b.state.server (OpenEntry (length b.state.order + 1) app)) b)))

pub opens_round : (app conn now : ℕ) (b : Sofar) → (opens app conn now b).state.round ≡ b.state.round
opens_round app conn now b =
    ap (λ (d : DataState). d.round)
    (appends_state (OpenEntry (length b.state.order + 1) app) (writes (act.Enter b.state.server (OpenEntry (length b.state.order + 1) app)) b)).state

-- the pieces

normal_pieces : (t : Coming) (xs : List LiveEnd) (b : Sofar) → b.state.round ≡ None → is_some t.old.round ≡ true
    → ((app session : ℕ) → live_session b.state.order app ≡ Some session → live_session t.old.order app ≡ Some session)
    → AllByRecursion (λ x. live_session b.state.order x.app ≡ Some x.session) xs → Pieced t b (normals xs b)
normal_pieces t [] b over in_round was has = no_piece t b
normal_pieces t (x ∷ xs) b over in_round was has =
    one_then t (PutsNormal x.app x.session) b _ (record { over = over; has = has.0; in_round = in_round; was = was x.app x.session has.0 })
    (normal_pieces t xs (puts x.session (Normal (head_of b.state x.session)) b)
    (ap (λ (d : DataState). d.round) (only_puts x.session (Normal (head_of b.state x.session)) b).state ∙ over) in_round
    (subst (λ (es : List Entry). (app session : ℕ) → live_session es app ≡ Some session → live_session t.old.order app ≡ Some session)
    (sym (ap (λ (d : DataState). d.order) (only_puts x.session (Normal (head_of b.state x.session)) b).state)) was)
    (subst (λ (es : List Entry). AllByRecursion (λ y. live_session es y.app ≡ Some y.session) xs)
    (sym (ap (λ (d : DataState). d.order) (only_puts x.session (Normal (head_of b.state x.session)) b).state)) has.1))

open_pieces : (t : Coming) (cs : List Caller) (b : Sofar) → b.state.callers ≡ cs → b.state.round ≡ None
    → Pieced t b (opens_all cs t.now (calls_with [] b))
open_pieces t [] b its over = by_after t b _ b (ap (λ (cs : List Caller). calls_with cs b) (sym its)) (no_piece t b)
open_pieces t (c ∷ cs) b its over =
    one_then t (OpensNext c.app c.conn) b _ (record { behind = cs; next = its; over = over })
    (by_after t (opens c.app c.conn t.now (becomes next_caller b)) _ _
    (ap (opens_all cs t.now) (opens_callers [] c.app c.conn t.now b ∙ sym (ap (calls_with []) (opens_callers (drop 1 b.state.callers) c.app c.conn t.now b))))
    (open_pieces t cs (opens c.app c.conn t.now (becomes next_caller b))
    (ap (λ (d : Sofar). d.state.callers) (opens_callers (drop 1 b.state.callers) c.app c.conn t.now b) ∙ ap (drop 1) its)
    (opens_round c.app c.conn t.now (becomes next_caller b) ∙ over)))

-- an end that has a live session has that
pub ends_have : (apps : List ℕ) (es : List Entry) → AllByRecursion (λ x. live_session es x.app ≡ Some x.session) (ends_among apps es)
ends_have [] es = tt
ends_have (app ∷ apps) es = go (live_session es app) refl (ends_have apps es)
  where
    go : (o : Option ℕ) → live_session es app ≡ o → AllByRecursion (λ x. live_session es x.app ≡ Some x.session) (ends_among apps es)
        → AllByRecursion (λ x. live_session es x.app ≡ Some x.session) (with_end o app (ends_among apps es))
    go None its more = more
    go (Some session) its more = (its, more)

pub only_normals : (xs : List LiveEnd) (b : Sofar) → OnlyWindows b (normals xs b)
only_normals [] b = only_none b
only_normals (x ∷ xs) b =
    only_then b (puts x.session (Normal (head_of b.state x.session)) b) (normals (x ∷ xs) b) (only_puts x.session (Normal (head_of b.state x.session)) b)
    (only_normals xs (puts x.session (Normal (head_of b.state x.session)) b))

-- the round is over, and no end is told of it yet
abbrev pub back_written : Sofar → Sofar
back_written b = writes (act.Back b.state.server) (becomes (λ d. record d { round = None }) b)

pub ends_told : (xs : List LiveEnd) (now : ℕ) (b : Sofar)
    → come_back xs now (writes (act.Back b.state.server) (becomes without_round b)) ≡ calls_with [] (normals xs (ends_back xs now (back_written b)))
ends_told xs now b =
    come_back_is xs now (calls_with [] (back_written b))
    ∙ ap (normals xs) (ends_callers [] xs now (back_written b))
    ∙ normals_callers [] xs (ends_back xs now (back_written b))

round_pieces : (t : Coming) (b : Sofar) → RoundWas t b.state → is_round_over b.state b.state.round ≡ true → Pieced t b (round_ends b.state.callers t.now b)
round_pieces t b was over =
    one_then t RoundEnds b _ over
    (by_after t (round_over t.now b) _ _ (ap (opens_all b.state.callers t.now) (ends_told ends t.now b))
    (and_then t (round_over t.now b) (normals ends (round_over t.now b)) _
    (normal_pieces t ends (round_over t.now b) (aside.round (back_written b)) (was.in_round is_on)
    (subst (λ (es : List Entry). (app session : ℕ) → live_session es app ≡ Some session → live_session t.old.order app ≡ Some session)
    (sym (aside.order (back_written b))) (was.has is_on))
    (subst (λ (es : List Entry). AllByRecursion (λ x. live_session es x.app ≡ Some x.session) ends) (sym (aside.order (back_written b)))
    (ends_have all_apps b.state.order)))
    (open_pieces t b.state.callers (normals ends (round_over t.now b))
    (ap (λ (d : DataState). d.callers) (only_normals ends (round_over t.now b)).state
    ∙ ap (λ (d : Sofar). d.state.callers) (ends_callers b.state.callers ends t.now (back_written b)))
    (ap (λ (d : DataState). d.round) (only_normals ends (round_over t.now b)).state ∙ aside.round (back_written b)))))
  where
    ends : List LiveEnd
    ends = live_ends b.state.order

    aside : IsAside (ends_back ends t.now)
    aside = ends_aside ends t.now

    is_on : is_some b.state.round ≡ true
    is_on = on b.state.round over
      where
        on : (o : Option Round) → is_round_over b.state o ≡ true → is_some o ≡ true
        on None is = is
        on (Some r) is = refl

-- A round that is over ends.
pub rounds_pieces : (t : Coming) (b : Sofar) → RoundWas t b.state → Pieced t b (rounds t.now b)
rounds_pieces t b was = go (is_round_over b.state b.state.round) refl
  where
    go : (over : Bool) → is_round_over b.state b.state.round ≡ over → Pieced t b (round_ends_if over t.now b)
    go true over = round_pieces t b was over
    go false over = no_piece t b
