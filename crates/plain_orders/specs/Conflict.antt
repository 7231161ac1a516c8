-- Which two locks conflict.
use Rattle.std.specs.Prelude.{ℕ, Bool, true, false, ◌&&◌, ◌||◌, List}
use Rattle.plain_orders.specs.declared.mode.Mode.{Mode}
use Rattle.plain_orders.specs.declared.mode.Mode.TheVariants.{Exclusive, Shared}
use Rattle.plain_orders.specs.PairMap.{is_under}

-- exclusive conflicts with both modes, shared with exclusive
abbrev pub modes_conflict : Mode → Mode → Bool
modes_conflict Exclusive Exclusive = true
modes_conflict Exclusive Shared = true
modes_conflict Shared Exclusive = true
modes_conflict Shared Shared = false

-- two lock names are equal, or one is an ancestor of the other
abbrev pub names_overlap : List ℕ → List ℕ → Bool
names_overlap a b = is_under a b || is_under b a

-- two locks of different holders can't both be held
abbrev pub is_conflict : Mode → List ℕ → Mode → List ℕ → Bool
is_conflict m a n b = modes_conflict m n && names_overlap a b
