-- The first frame of a connection, as pieces.
use Rattle.std.proofs.Common.{◌≡◌, inl, inr, ℕ, ◌<◌, ◌≤◌, Bool, true, false, if◌then◌else◌, List, [], ◌∷◌, ◌++◌, map, Option, Some, None, is_some, refl, sym, ◌∙◌, ap, subst, le_of_eq, le_of_lt}
use Rattle.std.specs.List.{find}
use Rattle.std.specs.Option.{option_map}
use Rattle.std.proofs.lemmas.Bool.{eq-eqb}
use Rattle.plain_orders.specs.declared.causes.ShutCause.TheVariants as shuts
use Rattle.plain_orders.specs.declared.entry.Entry.{Entry}
use Rattle.plain_orders.specs.declared.entry.Entry.TheVariants.{Closed}
use Rattle.plain_orders.specs.Entries.{live, live_session, live_session_after, last_epoch}
use Rattle.plain_orders.specs.Sessions.{app_in, place_of_epoch}
use Rattle.plain_orders.proofs.EntryLemmas.{live_session-push}
use Rattle.ecp_messages.specs.declared.up.Up.{Up}
use Rattle.ecp_messages.specs.declared.up.Up.TheVariants.{Hello, Recover}
use Rattle.data_rules.specs.declared.rows.Conn.{Conn}
use Rattle.data_rules.specs.declared.rows.Role.TheVariants.{New, Bound}
use Rattle.data_rules.specs.DataState.{DataState}
use Rattle.data_rules.specs.Puts.{Sofar, becomes, begun, conn_of, number_of}
use Rattle.data_rules.specs.declared.data_in.DataIn.{DataIn}
use Rattle.data_rules.specs.Conns.{is_conn, role_in, role_of, drops_conn}
use Rattle.data_rules.specs.Callers.{dial_of, with_dial, replaces, is_let_in, calls, goes_on, resumes, comes_again, TakesHello, TakesRecover, TakesResume, TakesReturn, TakesGone}
use Rattle.cluster_invariant.specs.Words.{all_differ}
use Rattle.cluster_invariant.proofs.ConnRoles.{dropped, dropped_conns, dropped_order, dropped_round, new_stays}
use Rattle.cluster_invariant.proofs.Parts.{IsPart, part_same}
use Rattle.cluster_invariant.proofs.PiecesOfCloses.{role_given, closed_at, closed_order, closed_conns, closed_round, closes_pieces}
use Rattle.cluster_invariant.proofs.PieceKinds.{Dials, Waits, Opens, Resumes, GoesOn, ComesAgain, AwaitsReset}
use Rattle.cluster_invariant.proofs.PieceMay.{AskersLive, Coming, begins, taken_in, left_by, Came, Firstly, RecoverCame}
use Rattle.cluster_invariant.proofs.Pieces.{Pieced, one_piece, one_then, then_one, and_then, by_after}

-- a first frame comes on a new connection, and nothing was made yet
pub record FirstCame (t : Coming) (conn : ℕ) (m : Up) (b : Sofar) : Type 0 where
  pub first : b ≡ begins t
  pub state : b.state ≡ t.old
  pub came : Came t conn m
  pub is_new : role_of b.state conn ≡ Some New
  pub differ : all_differ (map number_of b.state.conns) ≡ true

-- nothing was put before a frame
unput : (t : Coming) (conn : ℕ) (m : Up) (b : Sofar) → FirstCame t conn m b → b.outs.frames ≡ []
unput t conn m b it =
    ap (λ (c : Sofar). c.outs.frames) it.first ∙ ap (λ (i : DataIn). (taken_in i (begun t.old)).outs.frames) it.came.its

-- a Hello

-- what holds where it is let in
record LetIn (conn app : ℕ) (in_round : Bool) (b : Sofar) : Type 0 where
  is_new : role_of b.state conn ≡ Some New
  free : live_session b.state.order app ≡ None
  round : is_some b.state.round ≡ in_round

let_in_pieces : (t : Coming) (conn app dial : ℕ) → Came t conn (Hello app dial) → (waits : Bool) (b : Sofar) → LetIn conn app waits b
    → Pieced t b (is_let_in waits app conn t.now b)
let_in_pieces t conn app dial came true b may =
    one_piece t (Waits app conn) b (record { dial = dial; came = came; is_new = may.is_new; free = may.free; round = may.round })
let_in_pieces t conn app dial came false b may =
    one_piece t (Opens app conn) b (record { dial = dial; came = came; is_new = may.is_new; free = may.free; round = may.round })

-- the session that an application server had is none of it after its Close
closed_free : (es : List Entry) (app s : ℕ) → live_session es app ≡ Some s → live_session (es ++ Closed s ∷ []) app ≡ None
closed_free es app s has =
    live_session-push es (Closed s) app ∙ ap (λ (o : Option ℕ). live_session_after o (Closed s) app) has
    ∙ ap (λ (same : Bool). if same then None else Some s) (eq-eqb s s refl)

let_in : (t : Coming) (conn app s : ℕ) (b : Sofar) → all_differ (map number_of b.state.conns) ≡ true → role_of b.state conn ≡ Some New
    → live_session b.state.order app ≡ Some s → LetIn conn app (is_some b.state.round) (replaces (Some s) app t.now b)
let_in t conn app s b differ new has = record {
  is_new =
      ap (λ (cs : List Conn). option_map role_in (find (is_conn conn) cs)) (dropped_conns (conn_of b.state s) (closed_at s shuts.Replaced b))
      ∙ ap (λ (cs : List Conn). option_map role_in (find (is_conn conn) (dropped (conn_of b.state s) cs))) (closed_conns s shuts.Replaced b)
      ∙ new_stays b.state s conn differ new;
  free =
      ap (λ (es : List Entry). live_session es app) (dropped_order (conn_of b.state s) (closed_at s shuts.Replaced b) ∙ closed_order s shuts.Replaced b)
      ∙ closed_free b.state.order app s has;
  round = ap is_some (dropped_round (conn_of b.state s) (closed_at s shuts.Replaced b)) ∙ closed_round s shuts.Replaced b;
}

replaced_pieces : (t : Coming) (conn app dial : ℕ) (b : Sofar) → Came t conn (Hello app dial) → all_differ (map number_of b.state.conns) ≡ true
    → role_of b.state conn ≡ Some New → b.outs.frames ≡ [] → IsPart b.state.locks.requests t.old.locks.requests → (AskersLive t.old → AskersLive b.state)
    → Pieced t b (is_let_in (is_some b.state.round) app conn t.now (replaces (live_session b.state.order app) app t.now b))
replaced_pieces t conn app dial b came differ new none from left = go (live_session b.state.order app) refl
  where
    go : (o : Option ℕ) → live_session b.state.order app ≡ o → Pieced t b (is_let_in (is_some b.state.round) app conn t.now (replaces o app t.now b))
    go None free = let_in_pieces t conn app dial came (is_some b.state.round) b (record { is_new = new; free = free; round = refl })
    go (Some s) has =
        and_then t b (replaces (Some s) app t.now b) _
        (closes_pieces t s app b shuts.Replaced (record { has = has; why = record { conn = conn; dial = dial; came = came; is_new = new; unput = none } }) from left)
        (let_in_pieces t conn app dial came (is_some b.state.round) (replaces (Some s) app t.now b) (let_in t conn app s b differ new has))

-- A Hello whose dial is no less than those before it.
pub hello_pieces : (t : Coming) (conn app dial : ℕ) (b : Sofar) → FirstCame t conn (Hello app dial) b → (c : Sofar) → TakesHello b conn t.now app dial c
    → Pieced t b c
hello_pieces t conn app dial b it c takes =
    by_after t b c (calls app dial conn t.now b) takes.after
    (one_then t (Dials app dial) b _
    (record {
      first = it.first;
      conn = conn;
      names = record { session = 0; epoch = 0; taken = 0; came = inl it.came };
      is_new = it.is_new;
      later = takes.later;
    })
    (replaced_pieces t conn app dial (becomes (with_dial app dial) b) it.came it.differ it.is_new (unput t conn (Hello app dial) b it)
    (subst (λ (d : DataState). IsPart b.state.locks.requests d.locks.requests) it.state (part_same b.state.locks.requests))
    (λ old. subst AskersLive (sym it.state) old)))

-- a Recover

-- its dial counts
dial_pieces : (t : Coming) (conn app s epoch taken dial : ℕ) (b : Sofar) → FirstCame t conn (Recover app s epoch taken dial) b → dial_of b.state app ≤ dial
    → Pieced t b (becomes (with_dial app dial) b)
dial_pieces t conn app s epoch taken dial b it later =
    one_piece t (Dials app dial) b
    (record {
      first = it.first;
      conn = conn;
      names = record { session = s; epoch = epoch; taken = taken; came = inr it.came };
      is_new = it.is_new;
      later = later;
    })

-- it is the first frame of its connection
firstly : (t : Coming) (conn app dial : ℕ) (m : Up) (b c : Sofar) → FirstCame t conn m b → dial_of b.state app ≤ dial → c.state.order ≡ b.state.order
    → Firstly t conn app dial c
firstly t conn app dial m b c it later same = record {
  was_new = sym (ap (λ (d : DataState). role_of d conn) it.state) ∙ it.is_new;
  later = subst (λ (d : DataState). dial_of d app ≤ dial) it.state later;
  same = same ∙ ap (λ (d : DataState). d.order) it.state;
}

-- an older connection that goes puts nothing, and what waits for it goes
dropped_frames : (o : Option ℕ) (b : Sofar) → (drops_conn o b).outs.frames ≡ b.outs.frames
dropped_frames None b = refl
dropped_frames (Some old) b = refl

dropped_replies : (o : Option ℕ) (b : Sofar) → (drops_conn o b).state.replies ≡ left_by o b.state.replies
dropped_replies None b = refl
dropped_replies (Some old) b = refl

-- the session has its connection
resumed_pieces : (t : Coming) (conn app s epoch taken dial : ℕ) (b : Sofar) → FirstCame t conn (Recover app s epoch taken dial) b → dial_of b.state app ≤ dial
    → app_in b.state.order s ≡ Some app → live b.state.order s ≡ true → epoch ≤ last_epoch b.state.order → Pieced t b (resumes app s dial conn t.now b)
resumed_pieces t conn app s epoch taken dial b it later its is_live begun =
    then_one t (Resumes app s conn) b (becomes (with_dial app dial) b) (dial_pieces t conn app s epoch taken dial b it later)
    (record {
      came = record {
        epoch = epoch;
        taken = taken;
        dial = dial;
        came = it.came;
        its = its;
        firstly = firstly t conn app dial (Recover app s epoch taken dial) b (becomes (with_dial app dial) b) it later refl;
      };
      is_new = it.is_new;
      is_live = is_live;
      begun = begun;
      unput = unput t conn (Recover app s epoch taken dial) b it;
    })

there : (o : Option Conn) → option_map role_in o ≡ Some New → is_some o ≡ true
there None new = absurd cc
there (Some c) new = refl

resumed_role : (t : Coming) (conn app s dial : ℕ) (b : Sofar) → all_differ (map number_of b.state.conns) ≡ true → role_of b.state conn ≡ Some New
    → role_of (resumes app s dial conn t.now b).state conn ≡ Some (Bound s)
resumed_role t conn app s dial b differ new =
    role_given conn (Bound s) (drops_conn (conn_of b.state s) (becomes (with_dial app dial) b)).state.conns
    (ap (λ (cs : List Conn). is_some (find (is_conn conn) cs)) (dropped_conns (conn_of b.state s) (becomes (with_dial app dial) b))
    ∙ there (find (is_conn conn) (dropped (conn_of b.state s) b.state.conns)) (new_stays b.state s conn differ new))

resumed_order : (t : Coming) (conn app s dial : ℕ) (b : Sofar) → (resumes app s dial conn t.now b).state.order ≡ b.state.order
resumed_order t conn app s dial b = dropped_order (conn_of b.state s) (becomes (with_dial app dial) b)

module _ (t : Coming) (conn app s epoch taken dial : ℕ) (b : Sofar) (it : FirstCame t conn (Recover app s epoch taken dial) b) (c : Sofar) where
  abbrev after : Sofar
  after = resumes app s dial conn t.now b

  same_order : after.state.order ≡ b.state.order
  same_order = resumed_order t conn app s dial b

  bound : role_of after.state conn ≡ Some (Bound s)
  bound = resumed_role t conn app s dial b it.differ it.is_new

  unput_after : after.outs.frames ≡ []
  unput_after = dropped_frames (conn_of b.state s) (becomes (with_dial app dial) b) ∙ unput t conn (Recover app s epoch taken dial) b it

  waiting_after : after.state.replies ≡ left_by (conn_of t.old s) t.old.replies
  waiting_after =
      dropped_replies (conn_of b.state s) (becomes (with_dial app dial) b) ∙ ap (λ (d : DataState). left_by (conn_of d s) d.replies) it.state

  abbrev came_after : app_in b.state.order s ≡ Some app → dial_of b.state app ≤ dial → RecoverCame t conn app s after
  came_after its later = record {
    epoch = epoch;
    taken = taken;
    dial = dial;
    came = it.came;
    its = ap (λ (es : List Entry). app_in es s) same_order ∙ its;
    firstly = firstly t conn app dial (Recover app s epoch taken dial) b after it later same_order;
  }

  resume_pieces : TakesResume b conn t.now app s epoch taken dial c → Pieced t b c
  resume_pieces takes =
      by_after t b c (goes_on s conn taken after) takes.after
      (then_one t (GoesOn s conn taken) b after
      (resumed_pieces t conn app s epoch taken dial b it takes.later takes.its takes.is_live (le_of_eq takes.same))
      (record {
        app = app;
        came = came_after takes.its takes.later;
        counted = refl;
        bound = bound;
        is_live = ap (λ (es : List Entry). live es s) same_order ∙ takes.is_live;
        its_epoch = takes.same ∙ sym (ap last_epoch same_order);
        unput = unput_after;
        waiting = waiting_after;
      }))

  return_pieces : TakesReturn b conn t.now app s epoch dial c → Pieced t b c
  return_pieces takes =
      by_after t b c (comes_again s conn takes.kept after) takes.after
      (then_one t (ComesAgain s conn takes.kept) b after
      (resumed_pieces t conn app s epoch taken dial b it takes.later takes.its takes.is_live (le_of_lt takes.older))
      (record {
        app = app;
        came = came_after takes.its takes.later;
        bound = bound;
        is_live = ap (λ (es : List Entry). live es s) same_order ∙ takes.is_live;
        older = subst (λ (es : List Entry). epoch < last_epoch es) (sym same_order) takes.older;
        known = ap (place_of_epoch epoch 0) same_order ∙ takes.known;
        unput = unput_after;
        waiting = waiting_after;
      }))

  gone_pieces : TakesGone b conn app s epoch dial c → Pieced t b c
  gone_pieces takes =
      by_after t b c _ takes.after
      (then_one t (AwaitsReset s conn takes.at) b (becomes (with_dial app dial) b)
      (dial_pieces t conn app s epoch taken dial b it takes.later)
      (record {
        app = app;
        came = record {
          epoch = epoch;
          taken = taken;
          dial = dial;
          came = it.came;
          its = takes.its;
          firstly = firstly t conn app dial (Recover app s epoch taken dial) b (becomes (with_dial app dial) b) it takes.later refl;
        };
        is_new = it.is_new;
        is_closed = takes.is_closed;
        begun = takes.begun;
        closed = takes.closed;
        unput = unput t conn (Recover app s epoch taken dial) b it;
        waiting = ap (λ (d : DataState). d.replies) it.state;
      }))

  -- A Recover that is taken.
  pub recover_pieces : TakesRecover b conn t.now app s epoch taken dial c → Pieced t b c
  recover_pieces (inl takes) = resume_pieces takes
  recover_pieces (inr (inl takes)) = return_pieces takes
  recover_pieces (inr (inr takes)) = gone_pieces takes
