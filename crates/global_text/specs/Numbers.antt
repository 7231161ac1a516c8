-- Canonical numbers of any length.
use Rattle.std.specs.Prelude.{◌≡◌, ◌≢◌, ◌⊎◌, ℕ, ◌==◌, ◌||◌, Bool, List, [], ◌∷◌, ◌++◌, IsTrue}
use Rattle.std.specs.List.{AllByRecursion}
use Rattle.std.specs.Char.{is_ascii_digit}

-- each byte passes
abbrev pub Every : (ℕ → Bool) → List ℕ → Type 0
Every passes bytes = AllByRecursion (λ b. IsTrue (passes b)) bytes

-- no byte that passes comes first
abbrev pub BeginsOtherwise : (ℕ → Bool) → List ℕ → Type 0
BeginsOtherwise passes [] = Unit {0}
BeginsOtherwise passes (b ∷ bytes) = IsTrue (passes b) → ⊥

-- there is a last byte, and it is no 0
abbrev pub EndsInNonzeroDigit : List ℕ → Type 0
EndsInNonzeroDigit [] = ⊥
EndsInNonzeroDigit (b ∷ []) = b ≢ 48
EndsInNonzeroDigit (b ∷ c ∷ bytes) = EndsInNonzeroDigit (c ∷ bytes)

-- the digits before the point, or none: no 0 leads
pub record IsWhole (text : List ℕ) : Type 0 where
  pub digits : Every is_ascii_digit text
  pub first : BeginsOtherwise (λ b. b == 48) text

-- the digits after the point: some, and no 0 ends them
pub record IsFraction (text : List ℕ) : Type 0 where
  pub digits : Every is_ascii_digit text
  pub last : EndsInNonzeroDigit text

-- digits with at most one point, no 0 leading, none at the end after the point
abbrev pub IsUnsigned : List ℕ → Type 0
IsUnsigned text = (IsWhole text × (text ≢ [])) ⊎ ((whole : List ℕ) × (fraction : List ℕ) × IsWhole whole × IsFraction fraction × (text ≡ whole ++ 46 ∷ fraction))

-- a canonical number: 0, or such digits, maybe after a minus sign
abbrev pub IsNumber : List ℕ → Type 0
IsNumber text = (text ≡ 48 ∷ []) ⊎ (IsUnsigned text ⊎ ((unsigned : List ℕ) × IsUnsigned unsigned × (text ≡ 45 ∷ unsigned)))

-- a digit, a point or a minus sign
abbrev pub is_number_byte : ℕ → Bool
is_number_byte b = is_ascii_digit b || (b == 46 || b == 45)
