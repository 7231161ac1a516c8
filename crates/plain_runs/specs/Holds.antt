-- What is said of one hold: what it is, and what an act makes of it.
use Rattle.std.specs.Prelude.{ℕ, Bool, true, false, ◌==◌, ◌&&◌, ◌||◌, if◌then◌else◌, List, Option, Some, None, not, is_some, nat_eq, nat_lt}
use Rattle.std.specs.Option.{option_map}
use Rattle.std.specs.Cmp.Lexicographic.{pointwise}
use Rattle.plain_orders.specs.declared.entry.Entry.{Entry}
use Rattle.plain_orders.specs.declared.mode.Mode.{Mode}
use Rattle.plain_orders.specs.declared.mode.Mode.TheVariants.{Exclusive, Shared}
use Rattle.plain_orders.specs.Entries.{live}
use Rattle.plain_orders.specs.Conflict.{is_conflict}
use Rattle.plain_runs.specs.Plain.{Hold, Given, Quitted}

-- neither answered nor given up, and there
abbrev pub is_sent : Hold → Bool
is_sent h = not h.answered && (not (is_some h.given) && not h.gone)

-- in force, and there
abbrev pub binds : Hold → Bool
binds h = h.in_force && not h.gone

-- answered or given up
abbrev pub touched : Hold → Bool
touched h = h.answered || is_some h.given

-- the modes are the same
abbrev pub is_mode : Mode → Mode → Bool
is_mode Exclusive Exclusive = true
is_mode Exclusive Shared = false
is_mode Shared Exclusive = false
is_mode Shared Shared = true

-- the hold is of this holder
abbrev pub is_of : ℕ → ℕ → Hold → Bool
is_of session job h = h.session == session && h.job == job

-- the hold is of this node and mode
abbrev pub is_lock : Mode → List ℕ → Hold → Bool
is_lock mode key h = is_mode h.mode mode && pointwise nat_eq h.key key

-- a hold of another holder that stands in the way
abbrev pub opposes : ℕ → ℕ → Mode → List ℕ → Hold → Bool
opposes session job mode key h = not (is_of session job h) && is_conflict h.mode h.key mode key

-- a sent hold of this holder with this number
abbrev pub is_sent_at : ℕ → ℕ → ℕ → Hold → Bool
is_sent_at session job at h = is_sent h && (is_of session job h && h.at == at)

-- an answered hold, with this node and mode
abbrev pub is_kept : ℕ → ℕ → Mode → List ℕ → Hold → Bool
is_kept session job mode key h = (h.answered && not (is_some h.given)) && (not h.gone && (is_of session job h && is_lock mode key h))

-- a sent hold, with this node and mode
abbrev pub is_asked : ℕ → ℕ → Mode → List ℕ → Hold → Bool
is_asked session job mode key h = is_sent h && (is_of session job h && is_lock mode key h)

-- when a hold in force of this holder, node and mode was given up
abbrev pub given_hold : ℕ → ℕ → Mode → List ℕ → Hold → Option Given
given_hold session job mode key h = if binds h && (is_of session job h && is_lock mode key h) then h.given else None

-- both are there, and are the same
abbrev pub is_same_given : Option Given → Option Given → Bool
is_same_given None o = false
is_same_given (Some g) None = false
is_same_given (Some g) (Some o) = g.turn == o.turn && g.before == o.before

-- what acts make of it

-- a hold in force and sent; where the request was given up before, it is given up as of that
abbrev pub new_hold : ℕ → ℕ → Mode → List ℕ → ℕ → Option Quitted → Hold
new_hold session job mode key at q =
    record { session = session; job = job; mode = mode; key = key; at = at; answered = false; given = option_map (λ (x : Quitted). x.given) q; in_force = true; gone = false }

-- the hold is answered
abbrev pub answered_hold : Hold → Hold
answered_hold h = record h { answered = true }

-- the hold is given up
abbrev pub given_up : Given → Hold → Hold
given_up g h = record h { given = Some g }

-- a hold of the session is no longer in force
abbrev pub released_hold : ℕ → Hold → Hold
released_hold session h = record h { in_force = if h.session == session then false else h.in_force }

-- the hold goes if it is the one that is freed
abbrev pub freed_hold : Option Given → ℕ → ℕ → Mode → List ℕ → Hold → Hold
freed_hold first session job mode key h = record h { gone = h.gone || is_same_given (given_hold session job mode key h) first }

-- What was sent above the cut goes. A hold of a session that isn't live is no longer in force.
abbrev pub hold_after_crash : List Entry → ℕ → Hold → Hold
hold_after_crash es kept h =
    record h {
      in_force = if live es h.session then h.in_force else false;
      gone = h.gone || (is_sent h && nat_lt kept h.at);
    }

-- of a live session what is in force and not answered, or given up, goes
abbrev pub hold_after_back : List Entry → Hold → Hold
hold_after_back es h = record h { gone = h.gone || (live es h.session && (binds h && (not h.answered || is_some h.given))) }
