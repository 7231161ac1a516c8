-- What holds of the two parts of an index.
use Rattle.std.specs.Prelude.{ℕ, ◌<◌, ◌++◌, List, map, nat_eq}
use Rattle.std.specs.List.{AllByRecursion, IsDistinct}
use Rattle.span_index.specs.declared.numbered.Numbered.{Numbered}
use Rattle.span_index.specs.Ranges.{Rises, AllFull}

-- the number of one
abbrev pub number_of : Numbered → ℕ
number_of x = x.number

-- all numbers differ, and are below the next one
pub record IsNumbered (next : ℕ) (xs : List Numbered) : Type 0 where
  pub below : AllByRecursion (λ x. x.number < next) xs
  pub distinct : IsDistinct nat_eq (map number_of xs)

-- those that follow one another, and the others
pub record IsIndex (next : ℕ) (ordered others : List Numbered) : Type 0 where
  pub rises : Rises ordered
  pub full : AllFull ordered
  pub numbered : IsNumbered next (ordered ++ others)
