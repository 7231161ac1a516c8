-- What the steps of writing a journal leave.
use Rattle.std.specs.Prelude.{◌≡◌, ◌⊎◌, ℕ, ◌+◌, ◌≤◌, List, ◌∷◌, ◌++◌, length, take}

-- at most one byte
abbrev pub IsShort : List ℕ → Type 0
IsShort bytes = length bytes ≤ 1

-- bytes that ended in a gate are still in front, or the gate has any value and a batch stands whole behind it
abbrev pub HasGateOrBatch : ℕ → List ℕ → List ℕ → List ℕ → Type 0
HasGateOrBatch gate old batch new = (take (gate + 1) new ≡ old) ⊎ ((g : ℕ) × (new ≡ take gate old ++ g ∷ batch))
