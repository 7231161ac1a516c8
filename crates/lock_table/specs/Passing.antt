-- What a call leaves before its pass through the waiting requests, a pass that is cut short, and a claim's refusal.
use Rattle.std.specs.Prelude.{◌≡◌, ℕ, List, [], ◌∷◌, ◌++◌, take, drop, Some}
use Rattle.std.specs.List.{filter, find}
use Rattle.plain_orders.specs.declared.mode.Mode.{Mode}
use Rattle.lock_table.specs.declared.rows.Hold.{Hold}
use Rattle.lock_table.specs.declared.rows.Request.{Request}
use Rattle.lock_table.specs.declared.rows.Who.{Who}
use Rattle.lock_table.specs.declared.lock_table.Asked.{Asked}
use Rattle.lock_table.specs.declared.lock_table.Asked.TheVariants.{Granted, Waits}
use Rattle.lock_table.specs.declared.lock_table.ClaimError.{ClaimError}
use Rattle.lock_table.specs.declared.lock_table.ClaimError.TheVariants.{Memory, Conflict}
use Rattle.lock_table.specs.LockWords.{Locks, Freed, lowered, pass, is_other_ticket, is_hold_elsewhere, is_request_elsewhere, is_barred}

-- one of a holder's name in a mode is gone
abbrev pub with_lowered : Locks → Who → List ℕ → Mode → Locks
with_lowered l who name mode = record l { holds = lowered who name mode l.holds }

-- a waiting request is gone
abbrev pub with_dropped : Locks → ℕ → ℕ → Locks
with_dropped l session ticket = record l { requests = filter (is_other_ticket session ticket) l.requests }

-- all of a session is gone
abbrev pub with_session_gone : Locks → ℕ → Locks
with_session_gone l session = record {
  holds = filter (is_hold_elsewhere session) l.holds;
  requests = filter (is_request_elsewhere session) l.requests;
  granted = filter (is_request_elsewhere session) l.granted;
}

-- with these requests behind those that wait
abbrev pub with_rest : Freed → List Request → Freed
with_rest f rest = record f { locks = record f.locks { requests = f.locks.requests ++ rest } }

-- a pass that came through so many requests: the others wait on
abbrev pub passed_to : Locks → ℕ → ℕ → Freed
passed_to l k at = with_rest (pass l [] [] (take k l.requests) at) (drop k l.requests)

-- a pass was cut short somewhere
abbrev pub IsCutShort : Locks → ℕ → Locks → Type 0
IsCutShort l at m = (k : ℕ) × (m ≡ (passed_to l k at).locks)

-- what an answer to a request grants
abbrev pub granted_by : Request → Asked → List Request
granted_by r Granted = r ∷ []
granted_by r Waits = []

-- a claim conflicts with the first hold of another holder that bars it
abbrev pub IsRefusal : Locks → Hold → ClaimError → Type 0
IsRefusal l hold (Memory error) = Unit {0}
IsRefusal l hold (Conflict held claimed) = (find (is_barred hold.who hold.name hold.mode) l.holds ≡ Some held) × (claimed ≡ hold)
