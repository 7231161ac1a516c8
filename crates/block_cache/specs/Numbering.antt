-- The runs of a cache by their numbers.
use Rattle.std.specs.Prelude.{◌≡◌, ℕ, ◌<◌, ◌⊎◌, List, [], ◌∷◌, map}
use Rattle.std.specs.List.{AllByRecursion}
use Rattle.std.specs.Map.{keys_of}
use Rattle.subscript_keys.specs.declared.run.Run.{Run}
use Rattle.span_index.specs.declared.owned.Owned.{Owned}

-- the number of an entry
abbrev pub number_of : ℕ × Run → ℕ
number_of e = e.0

-- the run of an entry
abbrev pub run_of : ℕ × Run → Run
run_of e = e.1

-- all numbers are below the next one
abbrev pub IsNumberedBelow : ℕ → List (ℕ × Run) → Type 0
IsNumberedBelow next es = AllByRecursion (λ number. number < next) (keys_of es)

-- the span of an entry, as that of its number
abbrev pub owned_by : ℕ × Run → Owned
owned_by e = record { owner = e.0; span = e.1.span }

-- it is one of them
abbrev pub Has : {X : Type 0} → X → List X → Type 0
Has x [] = ⊥
Has x (y ∷ ys) = (y ≡ x) ⊎ Has x ys

-- the spans are those of the entries, in whatever order
pub record SameSpans (es : List (ℕ × Run)) (spans : List Owned) : Type 0 where
  pub there : (x : Owned) → Has x (map owned_by es) → Has x spans
  pub back : (x : Owned) → Has x spans → Has x (map owned_by es)
