-- How many a holder has of a name in a mode, and how many of them it waits for.
use Rattle.std.specs.Prelude.{ℕ, Bool, ◌&&◌, ◌+◌, ◌<◌, ◌^◌, if◌then◌else◌, List, sum_by, count_by}
use Rattle.plain_orders.specs.declared.mode.Mode.{Mode}
use Rattle.lock_table.specs.declared.rows.Request.{Request}
use Rattle.lock_table.specs.declared.rows.Hold.{Hold}
use Rattle.lock_table.specs.declared.rows.Who.{Who}
use Rattle.lock_table.specs.LockWords.{Locks, is_same_who, is_same_name, is_same_mode, is_lane}

-- a hold of the holder, of the very same name
abbrev pub is_of_holder : Who → List ℕ → Hold → Bool
is_of_holder who name h = is_same_who who h.who && is_same_name name h.name

-- the same holder, name and mode
abbrev pub is_same_lane : Who → List ℕ → Mode → Who → List ℕ → Mode → Bool
is_same_lane w n m who name mode = is_same_who w who && is_same_name n name && is_same_mode m mode

-- what a hold adds to what a holder has of a name in a mode
abbrev pub count_in : Who → List ℕ → Mode → Hold → ℕ
count_in who name mode h = if is_lane who name mode h then h.count else 0

-- how many a holder has of a name in a mode
abbrev pub held_count : Who → List ℕ → Mode → List Hold → ℕ
held_count who name mode holds = sum_by (count_in who name mode) holds

-- a holder's request for this name in this mode
abbrev pub is_lane_request : Who → List ℕ → Mode → Request → Bool
is_lane_request who name mode r = is_same_who who r.who && is_same_name name r.name && is_same_mode mode r.mode

-- how many requests of a holder there are for a name in a mode
abbrev pub request_count : Who → List ℕ → Mode → List Request → ℕ
request_count who name mode requests = count_by (is_lane_request who name mode) requests

-- what a holder has of a name in a mode, with its waiting requests for them
abbrev pub total_count : Who → List ℕ → Mode → List Hold → List Request → ℕ
total_count who name mode holds requests = held_count who name mode holds + request_count who name mode requests

-- so many more still have a count
abbrev pub HasRoom : Locks → Who → List ℕ → Mode → ℕ → Type 0
HasRoom l who name mode more = total_count who name mode l.holds l.requests + more < 2 ^ 32

-- each count, with what waits for it, is below 2^32
abbrev pub FitCounts : List Hold → List Request → Type 0
FitCounts holds requests = (who : Who) (name : List ℕ) (mode : Mode) → total_count who name mode holds requests < 2 ^ 32
