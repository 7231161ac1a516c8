-- The items of a queue by their numbers.
use Rattle.std.specs.Prelude.{ℕ, ◌<◌, List, nat_lt, filter, AllPairs}
use Rattle.update_queue.specs.declared.item.Item.{Item}

-- the items with a number above w
abbrev pub later_than : ℕ → List Item → List Item
later_than w items = filter (λ item. nat_lt w item.w) items

-- each item has a greater number than those before it
abbrev pub IsInOrder : List Item → Type 0
IsInOrder items = AllPairs (λ earlier later. earlier.w < later.w) items
