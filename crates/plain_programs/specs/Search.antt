-- Keys that are found by the order of keys.
use Rattle.std.specs.Prelude.{ℕ, List, [], ◌∷◌, Option, Some, None, ◌&&◌, if◌then◌else◌}
use Rattle.std.specs.Ordering.{is_lt}
use Rattle.plain_orders.specs.PairMap.{Map, key_cmp, is_below}

-- the first key of a node's descendants that stands after these bytes
abbrev pub descendant_behind : Map → List ℕ → List ℕ → Option (List ℕ)
descendant_behind [] node bytes = None
descendant_behind (p ∷ ps) node bytes =
    if is_below node p.0 && is_lt (key_cmp bytes p.0) then Some p.0 else descendant_behind ps node bytes
