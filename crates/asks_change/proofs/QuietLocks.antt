-- Changes of ends that leave requests for locks as they are: what stays of each end, and that small changes are such.
use Rattle.std.proofs.Common.{◌≡◌, ◌≤◌, ℕ, Bool, true, false, List, [], ◌∷◌, ◌++◌, Option, Some, None, option_map, refl, sym, ◌∙◌, ap, subst, arith}
use Rattle.std.specs.List.{AllByRecursion}
use Rattle.std.proofs.lemmas.List.{append-nil, append_assoc}
use Rattle.plain_orders.specs.declared.act.Act.{Act}
use Rattle.plain_orders.specs.declared.item.Item.{Item}
use Rattle.ecp_messages.specs.declared.up.Up.{Up}
use Rattle.ecp_messages.specs.declared.up.Up.TheVariants as up
use Rattle.end_words.specs.Windows.{with_sent, with_ack_put}
use Rattle.app_rules.specs.AppState.{AppEnd, Session}
use Rattle.app_rules.specs.Works.{Sofar, writes, becomes, sets, puts, tells_if, tries_if, end_at, with_line, with_session, with_window, is_apart, is_joined}
use Rattle.app_rules.specs.declared.line.Line.TheVariants.{Trying}
use Rattle.app_rules.specs.JobState.{Work, Turn}
use Rattle.app_rules.specs.Issuing.{at_normal, at_up, is_free, issues, next_w, pair_session, tries_if_free, unless_full, unless_own, uses, uses_if, waits_state, with_item}
use Rattle.app_rules.specs.Locking.{with_ticket}
use Rattle.cluster_invariant.proofs.AllLists.{all_joined}
use Rattle.cluster_steps.proofs.AppPlaces.{at_end}

-- it asks for a lock, gives a request up, or claims a lock
abbrev pub is_of_lock : Up → Bool
is_of_lock (up.Hello app dial) = false
is_of_lock (up.Recover app session epoch taken dial) = false
is_of_lock (up.Update w job txn op) = false
is_of_lock (up.Add w job key amount) = false
is_of_lock (up.Fetch key) = false
is_of_lock (up.Ask ticket job mode key) = true
is_of_lock (up.Unlock job mode key) = false
is_of_lock (up.Cancel ticket) = true
is_of_lock (up.Commit w job txn wanted) = false
is_of_lock (up.Rollback w job txn) = false
is_of_lock (up.Sync ticket) = false
is_of_lock up.Done = false
is_of_lock (up.Claim job mode number at key) = true
is_of_lock up.Bare = false

-- The requests of a session are as they were, and what was put is of no lock.
pub record SessionQuiet (s t : Session) : Type 0 where
  pub asks : t.asks ≡ s.asks
  pub put : List Up
  pub none : AllByRecursion (λ m. is_of_lock m ≡ false) put
  pub waiting : t.window.waiting ≡ s.window.waiting ++ put

-- the same, of an end that may have none
abbrev pub SessionsQuiet : Option Session → Option Session → Type 0
SessionsQuiet None None = Unit {0}
SessionsQuiet None (Some t) = ⊥
SessionsQuiet (Some s) None = ⊥
SessionsQuiet (Some s) (Some t) = SessionQuiet s t

-- An end whose requests are as they were.
pub record EndQuiet (e f : AppEnd) : Type 0 where
  pub ticket : e.ticket ≤ f.ticket
  pub failed : f.failed ≡ e.failed
  pub session : SessionsQuiet e.session f.session

-- All ends of an application server are so.
pub record Quiet (b c : Sofar) : Type 0 where
  pub at : (k : ℕ) → EndQuiet (end_at b.state k) (end_at c.state k)

pub still : (s t : Session) → t.asks ≡ s.asks → t.window.waiting ≡ s.window.waiting → SessionQuiet s t
still s t asks waiting = record { asks = asks; put = []; none = tt; waiting = waiting ∙ sym (append-nil s.window.waiting) }

sessions_same : (o : Option Session) → SessionsQuiet o o
sessions_same None = tt
sessions_same (Some s) = still s s refl refl

pub end_same : (e : AppEnd) → EndQuiet e e
end_same e = record { ticket = omega arith; failed = refl; session = sessions_same e.session }

session_then : (s t u : Session) → SessionQuiet s t → SessionQuiet t u → SessionQuiet s u
session_then s t u x y = record {
  asks = y.asks ∙ x.asks;
  put = x.put ++ y.put;
  none = all_joined (λ m. is_of_lock m ≡ false) x.put y.put x.none y.none;
  waiting = y.waiting ∙ ap (λ (ms : List Up). ms ++ y.put) x.waiting ∙ append_assoc s.window.waiting x.put y.put;
}

sessions_then : (o q r : Option Session) → SessionsQuiet o q → SessionsQuiet q r → SessionsQuiet o r
sessions_then None None None x y = tt
sessions_then None None (Some u) x y = absurd y
sessions_then None (Some t) r x y = absurd x
sessions_then (Some s) None r x y = absurd x
sessions_then (Some s) (Some t) None x y = absurd y
sessions_then (Some s) (Some t) (Some u) x y = session_then s t u x y

pub end_then : (e f g : AppEnd) → EndQuiet e f → EndQuiet f g → EndQuiet e g
end_then e f g x y = record {
  ticket = omega (arith, x.ticket, y.ticket);
  failed = y.failed ∙ x.failed;
  session = sessions_then e.session f.session g.session x.session y.session;
}

pub quiet_same : (b : Sofar) → Quiet b b
quiet_same b = record { at = λ k. end_same (end_at b.state k) }

pub quiet_then : {b c e : Sofar} → Quiet b c → Quiet c e → Quiet b e
quiet_then {b} {c} {e} x y = record { at = λ k. end_then (end_at b.state k) (end_at c.state k) (end_at e.state k) (x.at k) (y.at k) }

-- the same ends
pub quiet_is : (b c e : Sofar) → e ≡ c → Quiet b c → Quiet b e
quiet_is b c e same x = subst (λ (s : Sofar). Quiet b s) (sym same) x

-- small changes

pub quiet_writes : (a : Act) (b : Sofar) → Quiet b (writes a b)
quiet_writes a b = record { at = λ k. end_same (end_at b.state k) }

pub quiet_becomes : (d : ℕ) (f : AppEnd → AppEnd) (b : Sofar) → ((e : AppEnd) → EndQuiet e (f e)) → Quiet b (becomes d f b)
quiet_becomes d f b each = record {
  at = λ k.
      at_end (λ (e : AppEnd). EndQuiet (end_at b.state k) e) d k (f (end_at b.state d)) b.state
      (λ same. subst (λ (n : ℕ). EndQuiet (end_at b.state n) (f (end_at b.state d))) (sym same) (each (end_at b.state d))) (end_same (end_at b.state k));
}

mapped : (f : Session → Session) → ((s : Session) → SessionQuiet s (f s)) → (o : Option Session) → SessionsQuiet o (option_map f o)
mapped f each None = tt
mapped f each (Some s) = each s

pub quiet_sets : (d : ℕ) (f : Session → Session) (b : Sofar) → ((s : Session) → SessionQuiet s (f s)) → Quiet b (sets d f b)
quiet_sets d f b each = quiet_becomes d (with_session f) b (λ e. record { ticket = omega arith; failed = refl; session = mapped f each e.session })

pub quiet_tells_if : (t : Bool) (d seq : ℕ) (m : Up) (b : Sofar) → Quiet b (tells_if t d seq m b)
quiet_tells_if false d seq m b = quiet_same b
quiet_tells_if true d seq m b = record { at = (quiet_sets d (with_window with_ack_put) b (λ s. still s (with_window with_ack_put s) refl refl)).at }

pub quiet_puts : (d : ℕ) (m : Up) (b : Sofar) → is_of_lock m ≡ false → Quiet b (puts d m b)
quiet_puts d m b none =
    quiet_then (quiet_sets d (with_window (λ w. with_sent w m)) b (λ s. record { asks = refl; put = m ∷ []; none = (none, tt); waiting = refl }))
    (quiet_tells_if (is_joined (end_at b.state d).line) d _ m (sets d (with_window (λ w. with_sent w m)) b))

quiet_tries : (t : Bool) (d : ℕ) (b : Sofar) → Quiet b (tries_if t d b)
quiet_tries false d b = quiet_same b
quiet_tries true d b =
    record { at = (quiet_becomes d (with_line Trying) b (λ e. record { ticket = omega arith; failed = refl; session = sessions_same e.session })).at }

quiet_tries_free : (t : Bool) (d : ℕ) (b : Sofar) → Quiet b (tries_if_free t d b)
quiet_tries_free true d b = quiet_tries (is_apart (end_at b.state d).line) d b
quiet_tries_free false d b = quiet_same b

pub quiet_ticket : (d : ℕ) (b : Sofar) → Quiet b (becomes d with_ticket b)
quiet_ticket d b = quiet_becomes d with_ticket b (λ e. record { ticket = omega arith; failed = refl; session = sessions_same e.session })

-- waiting for a connection

pub used_ends : (o : Option ℕ) (d : ℕ) (w : Work) → (uses_if o d w).ends ≡ w.ends
used_ends None d w = refl
used_ends (Some s) d w = refl

pub quiet_uses : (d : ℕ) (w : Work) → Quiet w.ends (uses d w).ends
quiet_uses d w = quiet_is w.ends w.ends (uses d w).ends (used_ends (pair_session w.ends.state d) d w) (quiet_same w.ends)

pub quiet_state : (d : ℕ) (w : Work) → Quiet w.ends (waits_state d w).work.ends
quiet_state d w = quiet_then (quiet_uses d w) (quiet_tries_free (is_free (end_at w.ends.state d).link) d (uses d w).ends)

pub quiet_normal : (is_there : Bool) (d : ℕ) (f : Work → Turn) (w : Work) → ((v : Work) → Quiet v.ends (f v).work.ends)
    → Quiet w.ends (at_normal is_there d f w).work.ends
quiet_normal true d f w each = quiet_then (quiet_uses d w) (each (uses d w))
quiet_normal false d f w each = quiet_state d w

pub quiet_up : (is_there : Bool) (d : ℕ) (f : Work → Turn) (w : Work) → ((v : Work) → Quiet v.ends (f v).work.ends)
    → Quiet w.ends (at_up is_there d f w).work.ends
quiet_up true d f w each = each w
quiet_up false d f w each = quiet_state d w

pub quiet_full : (b : Bool) (f : Work → Turn) (w : Work) → Quiet w.ends (f w).work.ends → Quiet w.ends (unless_full b f w).work.ends
quiet_full true f w x = quiet_same w.ends
quiet_full false f w x = x

pub quiet_own : (b : Bool) (f : Work → Turn) (w : Work) → Quiet w.ends (f w).work.ends → Quiet w.ends (unless_own b f w).work.ends
quiet_own true f w x = quiet_same w.ends
quiet_own false f w x = x

-- an item
pub quiet_issue : (d : ℕ) (item : Item) (m : Up) (notes : Session → Session) (w : Work) → is_of_lock m ≡ false
    → ((s : Session) → ((notes s).asks ≡ s.asks) × ((notes s).window ≡ s.window)) → Quiet w.ends (issues d item m notes w).ends
quiet_issue d item m notes w none keeps =
    quiet_then (quiet_writes _ w.ends)
    (quiet_then
    (quiet_sets d (λ s. notes (with_item (next_w w d) m w.job.index s)) _
    (λ s. still s (notes (with_item (next_w w d) m w.job.index s)) (keeps (with_item (next_w w d) m w.job.index s)).0
    (ap (λ (y : _). y.waiting) (keeps (with_item (next_w w d) m w.job.index s)).1)))
    (quiet_puts d m _ none))
