-- A numbered message of a live session, as pieces.
use Rattle.std.proofs.Common.{◌≡◌, ◌≤◌, ℕ, ◌+◌, Bool, true, false, if◌then◌else◌, List, [], ◌∷◌, length, Option, Some, None, refl, sym, ◌∙◌, ap, subst, arith}
use Rattle.std.specs.Prelude.{pos}
use Rattle.plain_orders.specs.declared.entry.Entry.{Entry}
use Rattle.plain_orders.specs.declared.entry.Entry.TheVariants as entries
use Rattle.plain_orders.specs.declared.op.Op.{Op}
use Rattle.plain_orders.specs.declared.op.Op.TheVariants as ops
use Rattle.plain_orders.specs.declared.sum.Sum.{Sum}
use Rattle.plain_orders.specs.declared.sum.Sum.TheVariants as sums
use Rattle.plain_orders.specs.declared.mode.Mode.{Mode}
use Rattle.plain_orders.specs.Answers.{sum_at}
use Rattle.plain_orders.specs.Entries.{entry_at}
use Rattle.plain_orders.specs.ItemEntries.{is_item_at}
use Rattle.ecp_messages.specs.declared.about.About.TheVariants.{Synced, Counted, NotWhole, Range, Committed, RolledBack}
use Rattle.ecp_messages.specs.declared.up.Up.{Up}
use Rattle.ecp_messages.specs.declared.up.Up.TheVariants.{Hello, Recover, Update, Add, Fetch, Ask, Unlock, Cancel, Commit, Rollback, Sync, Done, Claim, Bare}
use Rattle.ecp_messages.specs.declared.up.UpFrame.{UpFrame}
use Rattle.lock_table.specs.declared.rows.Request.{Request}
use Rattle.lock_table.specs.declared.rows.Who.{Who}
use Rattle.lock_table.specs.LockWords.{holds_it, granted_with, waiting_with}
use Rattle.data_rules.specs.DataState.{DataState}
use Rattle.data_rules.specs.declared.rows.Conn.{Conn}
use Rattle.data_rules.specs.declared.rows.Says.{Says}
use Rattle.data_rules.specs.declared.rows.Says.TheVariants.{AnswerOf}
use Rattle.data_rules.specs.Conns.{is_conn, role_in}
use Rattle.std.specs.List.{find}
use Rattle.std.specs.Option.{option_map}
use Rattle.std.specs.Prelude.{ℤ}
use Rattle.ecp_messages.specs.declared.about.About.{About}
use Rattle.std.proofs.lemmas.Bool.{true≢false}
use Rattle.data_rules.specs.Places.{place_from, item_place}
use Rattle.data_rules.specs.Puts.{Sofar, replies}
use Rattle.data_rules.specs.Entering.{enters}
use Rattle.data_rules.specs.Owing.{owes_sum, owes_op, owes_entry, owes_entry_if, owes_place, owes_item}
use Rattle.data_rules.specs.Messages.{FitsIn, enters_if, takes_item, is_new, TakesOwed, TakesCommit, Takes as TakesMessage, unlocks, gives_back, cancels_granted, cancels_ticket, who}
use Rattle.data_rules.specs.Frames.{took}
use Rattle.plain_orders.specs.declared.act.Act.TheVariants as act
use Rattle.data_rules.specs.Puts.{writes}
use Rattle.cluster_invariant.proofs.PutLaws.{appends_state}
use Rattle.cluster_invariant.proofs.PieceKinds.{Asks, Unlocks, Withdraws, GivesBack, ForgetsTicket, Claims, Takes, TakesDone, Enters, Fetches, Replies, Locks}
use Rattle.cluster_invariant.proofs.PieceMay.{Coming, begins, OnBound, TakesMay, Message, Asked, item_of, AnswersBy}
use Rattle.cluster_invariant.proofs.Pieces.{Pieced, no_piece, one_piece, one_then, and_then, by_after}

-- the place of an item is one of the order
placed_low : (p : Entry → Bool) (k : ℕ) (es : List Entry) (at : ℕ) → place_from p k es ≡ Some at → at ≤ k + length es
placed_low p k [] at its = absurd cc
placed_low p k (e ∷ es) at its = go (p e) its (placed_low p (k + 1) es at)
  where
    go : (found : Bool) → (if found then Some (k + 1) else place_from p (k + 1) es) ≡ Some at
        → (place_from p (k + 1) es ≡ Some at → at ≤ (k + 1) + length es) → at ≤ k + length (e ∷ es)
    go true is more = let same : k + 1 ≡ at = cc in omega (arith, same)
    go false is more = let low : at ≤ (k + 1) + length es = more is in omega (arith, low)

-- a frame of the session, wherever its connections are the same
moved : (t : Coming) (conn s : ℕ) (up : UpFrame) (b c : Sofar) → c.state.conns ≡ b.state.conns → OnBound t conn s up b → OnBound t conn s up c
moved t conn s up b c same on = record {
  came = on.came;
  bound = ap (λ (cs : List Conn). option_map role_in (find (is_conn conn) cs)) same ∙ on.bound;
}

abbrev message : (t : Coming) (conn s : ℕ) (up : UpFrame) (b : Sofar) → OnBound t conn s up b → Message t s b
message t conn s up b on = record { conn = conn; up = up; on = on }

-- answers

-- a frame whose item is answered
record Owed (t : Coming) (s job w : ℕ) (b : Sofar) : Type 0 where
  conn : ℕ
  up : UpFrame
  on : OnBound t conn s up b
  why : (at : ℕ) (says : Says) → owes_item s job w b ≡ replies at says b → AnswersBy up.message s at says b

owes_one : (t : Coming) (s job w : ℕ) (b : Sofar) → Owed t s job w b → (about : About) (at : ℕ) (sum : ℤ) → at ≤ length b.state.order
    → owes_item s job w b ≡ replies at (AnswerOf s about job w at sum) b → Pieced t b (replies at (AnswerOf s about job w at sum) b)
owes_one t s job w b o about at sum low its =
    one_piece t (Replies at (AnswerOf s about job w at sum)) b
    (record { until = refl; within = low; its = message t o.conn s o.up b o.on; why = o.why at (AnswerOf s about job w at sum) its })

owes_sum_pieces : (t : Coming) (s job w : ℕ) (b : Sofar) → Owed t s job w b → (x : Sum) (at : ℕ) → at ≤ length b.state.order
    → owes_item s job w b ≡ owes_sum x s job w at b → Pieced t b (owes_sum x s job w at b)
owes_sum_pieces t s job w b o sums.Nothing at low its = no_piece t b
owes_sum_pieces t s job w b o (sums.Whole v) at low its = owes_one t s job w b o Counted at v low its
owes_sum_pieces t s job w b o sums.NotWhole at low its = owes_one t s job w b o NotWhole at (pos 0) low its
owes_sum_pieces t s job w b o sums.Range at low its = owes_one t s job w b o Range at (pos 0) low its

owes_op_pieces : (t : Coming) (s job w : ℕ) (b : Sofar) → Owed t s job w b → (x : Op) (at : ℕ) → at ≤ length b.state.order
    → owes_item s job w b ≡ owes_op x s job w at b → Pieced t b (owes_op x s job w at b)
owes_op_pieces t s job w b o (ops.Set key value) at low its = no_piece t b
owes_op_pieces t s job w b o (ops.Kill key) at low its = no_piece t b
owes_op_pieces t s job w b o (ops.Add key amount) at low its = owes_sum_pieces t s job w b o (sum_at b.state.order at) at low its

owes_entry_pieces : (t : Coming) (s job w : ℕ) (b : Sofar) → Owed t s job w b → (e : Entry) (at : ℕ) → at ≤ length b.state.order
    → owes_item s job w b ≡ owes_entry e s job w at b → Pieced t b (owes_entry e s job w at b)
owes_entry_pieces t s job w b o (entries.Epoch number) at low its = no_piece t b
owes_entry_pieces t s job w b o (entries.Opened session app) at low its = no_piece t b
owes_entry_pieces t s job w b o (entries.Closed session) at low its = no_piece t b
owes_entry_pieces t s job w b o (entries.Update session v j txn op) at low its = owes_op_pieces t s job w b o op at low its
owes_entry_pieces t s job w b o (entries.Commit session v j txn) at low its = owes_one t s job w b o Committed at (pos 0) low its
owes_entry_pieces t s job w b o (entries.Rollback session v j txn) at low its = owes_one t s job w b o RolledBack at (pos 0) low its

owes_if_pieces : (t : Coming) (s job w : ℕ) (b : Sofar) → Owed t s job w b → (e : Option Entry) (at : ℕ) → at ≤ length b.state.order
    → owes_item s job w b ≡ owes_entry_if e s job w at b → Pieced t b (owes_entry_if e s job w at b)
owes_if_pieces t s job w b o None at low its = no_piece t b
owes_if_pieces t s job w b o (Some e) at low its = owes_entry_pieces t s job w b o e at low its

owes_pieces : (t : Coming) (s job w : ℕ) (b : Sofar) → Owed t s job w b → Pieced t b (owes_item s job w b)
owes_pieces t s job w b o = go (item_place b.state.order s w) refl
  where
    go : (p : Option ℕ) → item_place b.state.order s w ≡ p → Pieced t b (owes_place p s job w b)
    go None its = no_piece t b
    go (Some at) its =
        owes_if_pieces t s job w b o (entry_at b.state.order at) at (omega (arith, placed_low (is_item_at s w) 0 b.state.order at its))
        (ap (λ (p : Option ℕ). owes_place p s job w b) its)

-- items

enters_conns : (e : Entry) (b : Sofar) → (enters e b).state.conns ≡ b.state.conns
enters_conns e b = ap (λ (d : DataState). d.conns) (appends_state e (writes (act.Enter b.state.server e) b)).state

item_conns : (s w : ℕ) (e : Entry) (b : Sofar) → (takes_item s w e b).state.conns ≡ b.state.conns
item_conns s w e b = go (is_new b.state s w)
  where
    go : (new : Bool) → (enters_if new e b).state.conns ≡ b.state.conns
    go true = enters_conns e b
    go false = refl

item_pieces : (t : Coming) (conn s : ℕ) (up : UpFrame) (b : Sofar) → OnBound t conn s up b → (w : ℕ) (e : Entry) → item_of s up.message ≡ Some e
    → FitsIn b.state s w e → Pieced t b (takes_item s w e b)
item_pieces t conn s up b on w e item fits = go (is_new b.state s w) refl
  where
    go : (new : Bool) → is_new b.state s w ≡ new → Pieced t b (enters_if new e b)
    go true new = one_piece t (Enters e) b (record { session = s; its = message t conn s up b on; item = item; follows = fits new })
    go false old = no_piece t b

owed_pieces : (t : Coming) (conn s : ℕ) (up : UpFrame) (b : Sofar) → OnBound t conn s up b → (w job : ℕ) (e : Entry) → item_of s up.message ≡ Some e
    → ((c : Sofar) (at : ℕ) (says : Says) → owes_item s job w c ≡ replies at says c → AnswersBy up.message s at says c)
    → (c : Sofar) → TakesOwed b s w job e c → Pieced t b c
owed_pieces t conn s up b on w job e item why c takes =
    by_after t b c (owes_item s job w (takes_item s w e b)) takes.after
    (and_then t b (takes_item s w e b) _ (item_pieces t conn s up b on w e item takes.fits)
    (owes_pieces t s job w (takes_item s w e b)
    (record { conn = conn; up = up; on = moved t conn s up b (takes_item s w e b) (item_conns s w e b) on; why = why (takes_item s w e b) })))

commit_pieces : (t : Coming) (conn s : ℕ) (up : UpFrame) (b : Sofar) → OnBound t conn s up b → (w job : ℕ) (e : Entry) → item_of s up.message ≡ Some e
    → ((c : Sofar) (at : ℕ) (says : Says) → owes_item s job w c ≡ replies at says c → AnswersBy up.message s at says c)
    → (wanted : Bool) (c : Sofar) → TakesCommit wanted b s w job e c → Pieced t b c
commit_pieces t conn s up b on w job e item why true c takes = owed_pieces t conn s up b on w job e item why c takes
commit_pieces t conn s up b on w job e item why false c takes = by_after t b c _ takes.after (item_pieces t conn s up b on w e item takes.fits)

-- locks

unlock_pieces : (t : Coming) (w : Who) (mode : Mode) (key : List ℕ) (b : Sofar) → Asked t w.session (Unlock w.job mode key) b
    → Pieced t b (unlocks (holds_it w key mode b.state.locks.holds) w mode key b)
unlock_pieces t w mode key b asked = go (holds_it w key mode b.state.locks.holds) refl
  where
    go : (held : Bool) → holds_it w key mode b.state.locks.holds ≡ held → Pieced t b (unlocks held w mode key b)
    go true held = one_piece t (Locks (Unlocks w mode key)) b (record { asked = asked; held = held })
    go false held = no_piece t b

cancel_pieces : (t : Coming) (s ticket : ℕ) (b : Sofar) → Asked t s (Cancel ticket) b
    → Pieced t b (cancels_ticket (waiting_with b.state.locks s ticket) s ticket b)
cancel_pieces t s ticket b asked = go (waiting_with b.state.locks s ticket) refl
  where
    back : waiting_with b.state.locks s ticket ≡ None → (r : Request) → granted_with b.state.locks s ticket ≡ Some r
        → (held : Bool) → holds_it r.who r.name r.mode b.state.locks.holds ≡ held → Pieced t b (gives_back held r b)
    back waits r granted true hold =
        one_piece t (Locks (GivesBack r)) b (record { session = s; ticket = ticket; asked = asked; none_waits = waits; granted = granted; hold = hold })
    back waits r granted false hold =
        one_piece t (Locks (ForgetsTicket r)) b (record { session = s; ticket = ticket; asked = asked; none_waits = waits; granted = granted; hold = hold })

    by : waiting_with b.state.locks s ticket ≡ None → (o : Option Request) → granted_with b.state.locks s ticket ≡ o → Pieced t b (cancels_granted o b)
    by waits None granted = no_piece t b
    by waits (Some r) granted = back waits r granted (holds_it r.who r.name r.mode b.state.locks.holds) refl

    go : (o : Option Request) → waiting_with b.state.locks s ticket ≡ o → Pieced t b (cancels_ticket o s ticket b)
    go None waits = by waits (granted_with b.state.locks s ticket) refl
    go (Some r) waits = one_piece t (Locks (Withdraws r s ticket)) b (record { asked = asked; waits = waits })

-- the messages

-- a Done
abbrev pub is_done : Up → Bool
is_done Done = true
is_done m = false

-- what a message makes that is no Done, once it is taken
pub made_of : (t : Coming) (conn s : ℕ) (up : UpFrame) (b : Sofar) → OnBound t conn s up b → TakesMay t conn s up (begins t)
    → b ≡ took s up.ack (begins t) → (m : Up) → up.message ≡ m
    → is_done m ≡ false → (c : Sofar) → TakesMessage m s b c → Pieced t b c
made_of t conn s up b on first just (Hello app dial) says no_done c takes = absurd takes
made_of t conn s up b on first just (Recover app session epoch taken dial) says no_done c takes = absurd takes
made_of t conn s up b on first just (Update w job txn op) says no_done c takes =
    by_after t b c _ takes.after (item_pieces t conn s up b on w (entries.Update s w job txn op) (ap (item_of s) says) takes.fits)
made_of t conn s up b on first just (Add w job key amount) says no_done c takes =
    owed_pieces t conn s up b on w job (entries.Update s w job 0 (ops.Add key amount)) (ap (item_of s) says)
    (λ d at answer owes. subst (λ (m : Up). AnswersBy m s at answer d) (sym says) owes) c takes
made_of t conn s up b on first just (Fetch key) says no_done c takes =
    by_after t b c _ takes.after (one_piece t (Fetches s takes.run takes.block) b
    (record { its = message t conn s up b on; key = key; says = says; covered = takes.covered; is_true = takes.is_true; in_bytes = takes.in_bytes }))
made_of t conn s up b on first just (Ask ticket job mode key) says no_done c takes =
    by_after t b c _ takes.after (one_piece t (Locks (Asks (record { who = who s job; ticket = ticket; name = key; mode = mode }))) b
    (record { its = message t conn s up b on; says = says; first = first; just = just }))
made_of t conn s up b on first just (Unlock job mode key) says no_done c takes =
    by_after t b c _ takes.after (unlock_pieces t (who s job) mode key b (record { its = message t conn s up b on; says = says; first = first; just = just }))
made_of t conn s up b on first just (Cancel ticket) says no_done c takes =
    by_after t b c _ takes.after (cancel_pieces t s ticket b (record { its = message t conn s up b on; says = says; first = first; just = just }))
made_of t conn s up b on first just (Commit w job txn wanted) says no_done c takes =
    commit_pieces t conn s up b on w job (entries.Commit s w job txn) (ap (item_of s) says)
    (λ d at answer owes. subst (λ (m : Up). AnswersBy m s at answer d) (sym says) owes) wanted c takes
made_of t conn s up b on first just (Rollback w job txn) says no_done c takes =
    owed_pieces t conn s up b on w job (entries.Rollback s w job txn) (ap (item_of s) says)
    (λ d at answer owes. subst (λ (m : Up). AnswersBy m s at answer d) (sym says) owes) c takes
made_of t conn s up b on first just (Sync ticket) says no_done c takes =
    by_after t b c _ takes.after (one_piece t (Replies (length b.state.order) (AnswerOf s Synced 0 ticket (length b.state.order) (pos 0))) b
    (record {
      until = refl;
      within = omega arith;
      its = message t conn s up b on;
      why = subst (λ (m : Up). AnswersBy m s (length b.state.order) (AnswerOf s Synced 0 ticket (length b.state.order) (pos 0)) b) (sym says) (refl, refl);
    }))
made_of t conn s up b on first just Done says no_done c takes = absurd (true≢false no_done)
made_of t conn s up b on first just (Claim job mode number at key) says no_done c takes =
    by_after t b c _ takes.after (one_piece t (Locks (Claims (who s job) key mode number at)) b
    (record { asked = record { its = message t conn s up b on; says = says; first = first; just = just }; awaited = takes.awaited; alone = takes.alone }))
made_of t conn s up b on first just Bare says no_done c takes = absurd takes

-- What a numbered message makes that comes the first time.
pub fresh_pieces : (t : Coming) (conn s : ℕ) (up : UpFrame) (b : Sofar) → TakesMay t conn s up b → (c : Sofar) → TakesMessage up.message s (took s up.ack b) c
    → Pieced t b c
fresh_pieces t conn s up b may c takes = go up.message refl takes
  where
    others : (m : Up) → up.message ≡ m → is_done m ≡ false → TakesMessage m s (took s up.ack b) c → Pieced t b c
    others m says no_done made =
        one_then t (Takes conn s up) b c may
        (made_of t conn s up (took s up.ack b) (moved t conn s up b (took s up.ack b) refl may.on) (subst (TakesMay t conn s up) may.first may) (ap (took s up.ack) may.first) m says no_done c made)

    go : (m : Up) → up.message ≡ m → TakesMessage m s (took s up.ack b) c → Pieced t b c
    go (Hello app dial) says made = others (Hello app dial) says refl made
    go (Recover app session epoch taken dial) says made = others (Recover app session epoch taken dial) says refl made
    go (Update w job txn op) says made = others (Update w job txn op) says refl made
    go (Add w job key amount) says made = others (Add w job key amount) says refl made
    go (Fetch key) says made = others (Fetch key) says refl made
    go (Ask ticket job mode key) says made = others (Ask ticket job mode key) says refl made
    go (Unlock job mode key) says made = others (Unlock job mode key) says refl made
    go (Cancel ticket) says made = others (Cancel ticket) says refl made
    go (Commit w job txn wanted) says made = others (Commit w job txn wanted) says refl made
    go (Rollback w job txn) says made = others (Rollback w job txn) says refl made
    go (Sync ticket) says made = others (Sync ticket) says refl made
    go Done says made = by_after t b c _ made.after (one_piece t (TakesDone conn s up) b (record { takes = may; done = says; awaited = made.awaited }))
    go (Claim job mode number at key) says made = others (Claim job mode number at key) says refl made
    go Bare says made = others Bare says refl made
