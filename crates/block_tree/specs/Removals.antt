-- What is left of a map, and what was found in it, where keys are removed one after another.
use Rattle.std.specs.Prelude.{ℕ, ◌-◌, List, [], ◌∷◌, ◌++◌, Option, Some, None}
use Rattle.plain_orders.specs.PairMap.{Map, value_at, remove}
use Rattle.block_tree.specs.TreeWords.{size_of}

-- what is left of the pairs
abbrev pub all_removed : Map → List (List ℕ) → Map
all_removed m [] = m
all_removed m (k ∷ ks) = all_removed (remove m k) ks

-- the pair that is found
abbrev pub found_with : List ℕ → Option (List ℕ) → Map
found_with key None = []
found_with key (Some value) = (key, value) ∷ []

-- the pairs that are found
abbrev pub all_found : Map → List (List ℕ) → Map
all_found m [] = []
all_found m (k ∷ ks) = found_with k (value_at m k) ++ all_found (remove m k) ks

-- what is left of a count of bytes without what is found
abbrev pub bytes_without : ℕ → List ℕ → Option (List ℕ) → ℕ
bytes_without bytes key None = bytes
bytes_without bytes key (Some value) = bytes - size_of (key, value)

-- what is left of it in the end
abbrev pub bytes_left : ℕ → Map → List (List ℕ) → ℕ
bytes_left bytes m [] = bytes
bytes_left bytes m (k ∷ ks) = bytes_left (bytes_without bytes k (value_at m k)) (remove m k) ks
