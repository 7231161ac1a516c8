-- Times that never fall.
use Rattle.std.proofs.Common.{◌≡◌, ℕ, ◌≤◌, List, ◌∷◌, arith, subst}
use Rattle.std.specs.List.Sorted.{IsNonDecreasing}
use Rattle.std.proofs.lemmas.List.Sorted.{IsNonDecreasingBy-drop}

-- the next time is no less than the last one
pub next_no_less : (last time : ℕ) (left rest : List ℕ) → IsNonDecreasing (last ∷ left) → left ≡ time ∷ rest → last ≤ time
next_no_less last time left rest rising e = (subst (λ xs. IsNonDecreasing (last ∷ xs)) e rising) 0 1 0 (omega arith) (omega arith)

-- from the next time on they never fall
pub next_rising : (last time : ℕ) (left rest : List ℕ) → IsNonDecreasing (last ∷ left) → left ≡ time ∷ rest → IsNonDecreasing (time ∷ rest)
next_rising last time left rest rising e = IsNonDecreasingBy-drop (λ x. x) 1 (last ∷ (time ∷ rest)) (subst (λ xs. IsNonDecreasing (last ∷ xs)) e rising)
