-- A window that keeps its messages is the window that keeps their bodies: each of its words is the other's, of the bodies. What it sends again are
-- messages that it was given, each with its first number.
use Rattle.std.specs.Prelude.{◌≡◌, ◌≤◌, ℕ, ◌-◌, List, [], ◌∷◌, ◌++◌, map, drop, length, slice_get, Some, Ok}
use Rattle.std.specs.List.{AllByRecursion}
use Rattle.link_window.specs.Numbering.{fresh_window, sent_count, after_send, after_take}
use Rattle.link_window.specs.declared.window.Taken.TheVariants.{Fresh, Repeat}
use Rattle.end_words.specs.Windows.{Window, fresh, sent, in_bytes, answers, with_sent, with_ack_put, with_ack, with_taken, resent}

-- the message of a numbered one
abbrev pub message_of : {M : Type 0} → ℕ × M → M
message_of m = m.1

-- messages of one kind, by their bodies: what each word makes of a window
pub record WindowsAgree (M : Type 0) (body : M → List ℕ) (w : Window M) : Type 0 where
  -- nothing was sent and nothing taken
  pub begins : in_bytes body (fresh {M = M}) ≡ fresh_window
  -- how many messages were sent
  pub counts : sent w ≡ sent_count (in_bytes body w)
  -- a message more
  pub sends : (m : M) → in_bytes body (with_sent w m) ≡ after_send (in_bytes body w) (body m)
  -- a message that is fresh
  pub takes : (seq ack : ℕ) → answers body w seq ack ≡ Ok Fresh → in_bytes body (with_taken w ack) ≡ after_take (in_bytes body w) seq ack
  -- one that was taken before
  pub repeats : (seq ack : ℕ) → answers body w seq ack ≡ Ok Repeat → in_bytes body (with_ack w ack) ≡ after_take (in_bytes body w) seq ack
  -- what is sent again
  pub sends_again : (taken : ℕ) → map body (map message_of (resent w taken)) ≡ drop (taken - w.acked) (in_bytes body w).waiting

-- all messages that a window was given since it was fresh: it keeps those behind the acknowledged ones
pub record WindowKeeps (M : Type 0) (ms : List M) (w : Window M) : Type 0 where
  pub within : w.acked ≤ length ms
  pub waiting : w.waiting ≡ drop w.acked ms

-- a numbered message stands at its number, the first being 1
abbrev pub StandsAt : {M : Type 0} → List M → ℕ × M → Type 0
StandsAt ms m = slice_get ms (m.0 - 1) ≡ Some m.1

-- A window keeps what it was given, whatever is sent, taken or acknowledged, and each message that it sends again has its first number.
pub record SendsFirsts (M : Type 0) : Type 0 where
  pub begins : WindowKeeps M [] fresh
  pub sends : (ms : List M) (w : Window M) (m : M) → WindowKeeps M ms w → WindowKeeps M (ms ++ m ∷ []) (with_sent w m)
  pub puts : (ms : List M) (w : Window M) → WindowKeeps M ms w → WindowKeeps M ms (with_ack_put w)
  pub acks : (ms : List M) (w : Window M) (ack : ℕ) → ack ≤ sent w → WindowKeeps M ms w → WindowKeeps M ms (with_ack w ack)
  pub takes : (ms : List M) (w : Window M) (ack : ℕ) → ack ≤ sent w → WindowKeeps M ms w → WindowKeeps M ms (with_taken w ack)
  -- so the next one's number follows those of all before
  pub counts : (ms : List M) (w : Window M) → WindowKeeps M ms w → sent w ≡ length ms
  pub again : (ms : List M) (w : Window M) (taken : ℕ) → WindowKeeps M ms w → AllByRecursion (StandsAt ms) (resent w taken)
