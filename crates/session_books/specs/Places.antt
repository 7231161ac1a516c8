-- Where entries stand in a list, the first being at 1.
use Rattle.std.specs.Prelude.{ℕ, Bool, ◌+◌, if◌then◌else◌, List, [], ◌∷◌, Option, Some, None}
use Rattle.plain_orders.specs.declared.entry.Entry.{Entry}
use Rattle.plain_orders.specs.Entries.{closes}
use Rattle.plain_orders.specs.ItemEntries.{is_item_at}

-- the place of the first entry that a test finds, so many standing before
abbrev pub place_from : (Entry → Bool) → ℕ → List Entry → Option ℕ
place_from test k [] = None
place_from test k (e ∷ es) = if test e then Some (k + 1) else place_from test (k + 1) es

-- the place of a session's Close
abbrev pub close_place : List Entry → ℕ → Option ℕ
close_place es session = place_from (closes session) 0 es

-- the place of a session's item with this running number
abbrev pub item_place : List Entry → ℕ → ℕ → Option ℕ
item_place es session w = place_from (is_item_at session w) 0 es
