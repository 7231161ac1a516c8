-- Laws of lists of entries.
use Rattle.std.specs.Prelude.{◌≡◌, ◌+◌, ◌↔◌, List, [], ◌∷◌, ◌++◌, length}
use Rattle.plain_orders.specs.declared.entry.Entry.{Entry}
use Rattle.plain_orders.specs.PairMap.{IsRising}
use Rattle.plain_orders.specs.Fold.{fold, fold_step}
use Rattle.plain_orders.specs.Ordered.{MayFollow, IsOrdered}
use Rattle.plain_orders.specs.Answers.{entry_sum, sum_at}

-- the map that any entries make rises by its keys
abbrev pub MapRises : Type 0
MapRises = (es : List Entry) → IsRising (fold es).pairs

-- an ordered list goes on ordered by exactly the entries that may follow
abbrev pub OrderGoesOn : Type 0
OrderGoesOn = (es : List Entry) (e : Entry) → IsOrdered es → MayFollow es e ↔ IsOrdered (es ++ e ∷ [])

-- the fold goes on by one step an entry
abbrev pub FoldGoesOn : Type 0
FoldGoesOn = (es : List Entry) (e : Entry) → fold (es ++ e ∷ []) ≡ fold_step (fold es) e

-- the sum at the last position is what the last entry does on the entries before it
abbrev pub LastSum : Type 0
LastSum = (es : List Entry) (e : Entry) → sum_at (es ++ e ∷ []) (length es + 1) ≡ entry_sum (fold es).pairs e
