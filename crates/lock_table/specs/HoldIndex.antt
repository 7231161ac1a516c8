-- Holds by running numbers, and their numbers by their names.
use Rattle.std.specs.Prelude.{◌≡◌, ℕ, Bool, List, Option, Some, None}
use Rattle.plain_orders.specs.PairMap.{key_cmp}
use Rattle.lock_index.specs.IndexWords.{numbers_at, numbers_of, row_at, AreRising, IsNumberedBelow}
use Rattle.lock_table.specs.declared.rows.Hold.{Hold}
use Rattle.lock_table.specs.LockWords.{is_same_name}

-- a hold has this name
abbrev pub is_named : List ℕ → Hold → Bool
is_named name h = is_same_name name h.name

-- the holds have rising numbers below the next one, and the index has at each name the numbers of its holds
pub record IsNameIndex (next : ℕ) (names : List (List ℕ × List ℕ)) (rows : List (ℕ × Hold)) : Type 0 where
  pub rising : AreRising rows
  pub below : IsNumberedBelow next rows
  pub named : (name : List ℕ) → numbers_at key_cmp name names ≡ numbers_of (is_named name) rows

-- what a hold that may not be there weighs
abbrev pub row_weight : (Hold → ℕ) → Option Hold → ℕ
row_weight weight None = 0
row_weight weight (Some h) = weight h

-- what the hold with a number weighs
abbrev pub weight_at : (Hold → ℕ) → List (ℕ × Hold) → ℕ → ℕ
weight_at weight rows n = row_weight weight (row_at rows n)
