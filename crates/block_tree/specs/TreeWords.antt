-- What the calls of a tree answer, over the map of its pairs.
use Rattle.std.specs.Prelude.{ℕ, ◌+◌, ◌≤◌, Bool, not, List, [], ◌∷◌, map, length, Option, Some, None}
use Rattle.std.specs.List.{filter, find, sum_by}
use Rattle.std.specs.Ordering.{is_lt}
use Rattle.subscript_keys.specs.declared.pair.Pair.{Pair}
use Rattle.subscript_keys.specs.declared.span.Span.{Span}
use Rattle.subscript_keys.specs.declared.run.Run.{Run}
use Rattle.plain_orders.specs.PairMap.{Map, key_cmp, is_in}
use Rattle.block_bytes.specs.Blocks.{block_bytes}

-- a pair is not in the span
abbrev pub is_out : Span → List ℕ × List ℕ → Bool
is_out span p = not (is_in span p)

-- without the pairs of the span
abbrev pub without : Map → Span → Map
without m span = filter (is_out span) m

-- a pair's key is above the key
abbrev pub is_above : List ℕ → List ℕ × List ℕ → Bool
is_above key p = is_lt (key_cmp key p.0)

-- the pair with the least key above the key
abbrev pub next_above : Map → List ℕ → Option (List ℕ × List ℕ)
next_above m key = find (is_above key) m

-- where the keys of all nodes end
abbrev pub end_of_keys : List ℕ
end_of_keys = 0xFF ∷ []

-- the span of all keys
abbrev pub all_keys : Span
all_keys = record { lo = []; hi = end_of_keys }

-- a pair of the map as one of a run
abbrev pub as_pair : List ℕ × List ℕ → Pair
as_pair p = record { key = p.0; value = p.1 }

-- all pairs as one run over all keys
abbrev pub whole_run : Map → Run
whole_run m = record { span = all_keys; pairs = map as_pair m }

-- all pairs fit one block
abbrev pub FitsOneBlock : Map → Type 0
FitsOneBlock m = length (block_bytes (whole_run m)) ≤ 8192

-- how many bytes a pair takes in a block
abbrev pub size_of : List ℕ × List ℕ → ℕ
size_of p = 4 + length p.0 + length p.1

-- how many bytes pairs take in a block
abbrev pub size : Map → ℕ
size m = sum_by size_of m

-- how many bytes the pair of a key of so many bytes takes, if there is one
abbrev pub old_size : ℕ → Option (List ℕ) → ℕ
old_size key_bytes None = 0
old_size key_bytes (Some value) = 4 + key_bytes + length value
