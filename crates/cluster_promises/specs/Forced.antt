-- Which holds of a plain server are in force.
use Rattle.std.specs.Prelude.{◌≡◌, ◌⊎◌, ℕ, Bool, true, drop}
use Rattle.std.specs.List.{list_any, AllByRecursion}
use Rattle.plain_orders.specs.Entries.{closed_by, closes, live}
use Rattle.plain_runs.specs.Plain.{Server, Hold}
use Rattle.plain_runs.specs.Holds.{binds}

-- a Close of the session is synced, so that its locks are released
abbrev pub is_released : Server → ℕ → Bool
is_released v session = closed_by v.order session v.synced

-- A hold in force is of a live session, or of one whose Close isn't synced.
abbrev pub IsForced : Server → Hold → Type 0
IsForced v h = binds h ≡ true → (live v.order h.session ≡ true) ⊎ (list_any (closes h.session) (drop v.synced v.order) ≡ true)

-- each hold of a server
abbrev pub AllForced : Server → Type 0
AllForced v = AllByRecursion (IsForced v) v.holds
