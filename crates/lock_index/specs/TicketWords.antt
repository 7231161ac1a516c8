-- Rows with tickets.
use Rattle.std.specs.Prelude.{◌≡◌, ℕ, ◌==◌, ◌&&◌, Bool, not, List}
use Rattle.std.specs.Ordering.{nat_cmp, ordering_then}
use Rattle.std.specs.declared.cmp.Ordering.{Ordering}
use Rattle.lock_index.specs.IndexWords.{numbers_at, numbers_of, AreRising, IsNumberedBelow}

-- the order of tickets: by session, then by number
abbrev pub ticket_cmp : ℕ × ℕ → ℕ × ℕ → Ordering
ticket_cmp a b = ordering_then (nat_cmp a.0 b.0) (nat_cmp a.1 b.1)

-- a row has this ticket of this session
abbrev pub has_ticket : {T : Type 0} → (T → ℕ) → (T → ℕ) → ℕ → ℕ → T → Bool
has_ticket session_of ticket_of session ticket row = session_of row == session && ticket_of row == ticket

-- a row has another ticket or is of another session
abbrev pub has_other_ticket : {T : Type 0} → (T → ℕ) → (T → ℕ) → ℕ → ℕ → T → Bool
has_other_ticket session_of ticket_of session ticket row = not (has_ticket session_of ticket_of session ticket row)

-- a row is of another session
abbrev pub is_elsewhere : {T : Type 0} → (T → ℕ) → ℕ → T → Bool
is_elsewhere session_of session row = not (session_of row == session)

-- the rows have rising numbers below the next one, and the index has at each ticket the numbers of its rows
pub record IsTicketIndex {T : Type 0} (session_of : T → ℕ) (ticket_of : T → ℕ) (next : ℕ) (index : List ((ℕ × ℕ) × List ℕ)) (rows : List (ℕ × T)) : Type 0 where
  pub rising : AreRising rows
  pub below : IsNumberedBelow next rows
  pub tickets : (session ticket : ℕ) → numbers_at ticket_cmp (session, ticket) index ≡ numbers_of (has_ticket session_of ticket_of session ticket) rows
