-- The text of a whole number of few digits is read back as it.
use Rattle.std.proofs.Common.{◌≡◌, ℕ, zero, suc, ◌≤◌, ◌<◌, ◌+◌, ◌*◌, ◌≢◌, ◌/◌, ◌%◌, ◌^◌, List, [], ◌∷◌, length, refl, ap, ◌∙◌, Bool, true, false, ◌&&◌, ◌||◌, ◌==◌, if◌then◌else◌, arith, ◌⊎◌, inl, inr, Some, None, ℤ, pos, negsuc}
use Rattle.std.specs.Prelude.{nat_le, nat_lt, neg_ℤ}
use Rattle.std.specs.List.{list_all}
use Rattle.std.proofs.Math.Nat.{pow-suc}
use Rattle.std.proofs.lemmas.Bool.{eqb-true, eqb-false, and_from, ltb-true, lt-ltb, le-leb}
use Rattle.subscript_keys.specs.declared.limits.TheConstants.{DIGIT_LIMIT, NUMBER_LIMIT}
use Rattle.plain_orders.specs.Numbers.{is_short, digits_before, natural_text, integer_text, is_digit, number_from, is_natural, whole_of}

-- the digits of a number in front of a text write it in front
digits_number : (t n : ℕ) (text : List ℕ) → n ≤ t → number_from 0 (digits_before (suc t) n text) ≡ number_from n text
digits_number zero n text low = go (n / 10 == 0) refl
  where
    go : (b : Bool) → (n / 10 == 0) ≡ b → number_from 0 (elim b [ true ↦ (48 + n % 10) ∷ text | false ↦ digits_before 0 (n / 10) ((48 + n % 10) ∷ text) ]) ≡ number_from n text
    go true e = ap (λ m. number_from m text) (omega (arith, low))
    go false e = absurd (eqb-false (n / 10) 0 e (omega (arith, low)))
digits_number (suc t) n text low = go (n / 10 == 0) refl (digits_number t (n / 10) ((48 + n % 10) ∷ text))
  where
    go : (b : Bool) → (n / 10 == 0) ≡ b → (n / 10 ≤ t → number_from 0 (digits_before (suc t) (n / 10) ((48 + n % 10) ∷ text)) ≡ number_from (n / 10) ((48 + n % 10) ∷ text))
        → number_from 0 (elim b [ true ↦ (48 + n % 10) ∷ text | false ↦ digits_before (suc t) (n / 10) ((48 + n % 10) ∷ text) ]) ≡ number_from n text
    go true e more = ap (λ m. number_from m text) (omega (arith, eqb-true (n / 10) 0 e))
    go false e more = more (omega (arith, low)) ∙ ap (λ m. number_from m text) (omega arith)

digit_is : (d : ℕ) → d < 10 → is_digit (48 + d) ≡ true
digit_is d low = and_from (nat_le 48 (48 + d)) (nat_le (48 + d) 57) (le-leb 48 (48 + d) (omega arith)) (le-leb (48 + d) 57 (omega (arith, low)))

-- they are digits
digits_all : (t n : ℕ) (text : List ℕ) → list_all is_digit text ≡ true → list_all is_digit (digits_before t n text) ≡ true
digits_all zero n text all = all
digits_all (suc t) n text all = go (n / 10 == 0) (digits_all t (n / 10) ((48 + n % 10) ∷ text))
  where
    first : list_all is_digit ((48 + n % 10) ∷ text) ≡ true
    first = and_from (is_digit (48 + n % 10)) (list_all is_digit text) (digit_is (n % 10) (omega arith)) all

    go : (b : Bool) → (list_all is_digit ((48 + n % 10) ∷ text) ≡ true → list_all is_digit (digits_before t (n / 10) ((48 + n % 10) ∷ text)) ≡ true)
        → list_all is_digit (elim b [ true ↦ (48 + n % 10) ∷ text | false ↦ digits_before t (n / 10) ((48 + n % 10) ∷ text) ]) ≡ true
    go true more = first
    go false more = more first

-- so many as the number needs
digits_few : (k t n : ℕ) (text : List ℕ) → n < 10 ^ suc k → length (digits_before t n text) ≤ suc k + length text
digits_few k zero n text low = omega arith
digits_few zero (suc t) n text low = go (n / 10 == 0) refl
  where
    small : n < 10
    small = omega (arith, low)

    go : (b : Bool) → (n / 10 == 0) ≡ b → length {A = ℕ} (elim b [ true ↦ (48 + n % 10) ∷ text | false ↦ digits_before t (n / 10) ((48 + n % 10) ∷ text) ]) ≤ 1 + length text
    go true e = omega arith
    go false e = absurd (eqb-false (n / 10) 0 e (omega (arith, small)))
digits_few (suc k) (suc t) n text low = go (n / 10 == 0) (digits_few k t (n / 10) ((48 + n % 10) ∷ text))
  where
    less : n / 10 < 10 ^ suc k
    less = let step : 10 ^ suc (suc k) ≡ 10 ^ suc k * 10 = pow-suc 10 (suc k) in omega (arith, low, step)

    go : (b : Bool) → (n / 10 < 10 ^ suc k → length (digits_before t (n / 10) ((48 + n % 10) ∷ text)) ≤ suc k + length ((48 + n % 10) ∷ text))
        → length {A = ℕ} (elim b [ true ↦ (48 + n % 10) ∷ text | false ↦ digits_before t (n / 10) ((48 + n % 10) ∷ text) ]) ≤ suc (suc k) + length text
    go true more = omega arith
    go false more = omega (arith, more less)

-- a text begins with a digit that is not 0, or is one byte
abbrev StartsWell : List ℕ → Type 0
StartsWell [] = ⊥
StartsWell (b ∷ bs) = (nat_lt 48 b || length bs == 0) ≡ true

digits_one : (n : ℕ) (text : List ℕ) → (0 < n) ⊎ (text ≡ []) → n / 10 ≡ 0 → (nat_lt 48 (48 + n % 10) || length text == 0) ≡ true
digits_one n text (inl some) z = ap (λ (b : Bool). b || length text == 0) (lt-ltb 48 (48 + n % 10) (omega (arith, some, z)))
digits_one n text (inr none) z = go (nat_lt 48 (48 + n % 10))
  where
    go : (b : Bool) → (b || length text == 0) ≡ true
    go true = refl
    go false = ap (λ (xs : List ℕ). length xs == 0) none

digits_start : (t n : ℕ) (text : List ℕ) → n ≤ t → (0 < n) ⊎ (text ≡ []) → StartsWell (digits_before (suc t) n text)
digits_start zero n text low c = go (n / 10 == 0) refl
  where
    go : (b : Bool) → (n / 10 == 0) ≡ b → StartsWell (elim b [ true ↦ (48 + n % 10) ∷ text | false ↦ digits_before 0 (n / 10) ((48 + n % 10) ∷ text) ])
    go true e = digits_one n text c (eqb-true (n / 10) 0 e)
    go false e = absurd (eqb-false (n / 10) 0 e (omega (arith, low)))
digits_start (suc t) n text low c = go (n / 10 == 0) refl (digits_start t (n / 10) ((48 + n % 10) ∷ text))
  where
    some : n / 10 ≢ 0 → 0 < n / 10
    some e = omega (arith, e)

    go : (b : Bool) → (n / 10 == 0) ≡ b → (n / 10 ≤ t → (0 < n / 10) ⊎ ((48 + n % 10) ∷ text ≡ []) → StartsWell (digits_before (suc t) (n / 10) ((48 + n % 10) ∷ text)))
        → StartsWell (elim b [ true ↦ (48 + n % 10) ∷ text | false ↦ digits_before (suc t) (n / 10) ((48 + n % 10) ∷ text) ])
    go true e more = digits_one n text c (eqb-true (n / 10) 0 e)
    go false e more = more (omega (arith, low)) (inl (some (eqb-false (n / 10) 0 e)))

is_natural_from : (xs : List ℕ) → list_all is_digit xs ≡ true → length xs ≤ DIGIT_LIMIT → StartsWell xs → is_natural xs ≡ true
is_natural_from [] all few starts = absurd starts
is_natural_from (b ∷ bs) all few starts =
    and_from (list_all is_digit (b ∷ bs) && nat_le (length (b ∷ bs)) DIGIT_LIMIT) (nat_lt 48 b || length bs == 0)
    (and_from (list_all is_digit (b ∷ bs)) (nat_le (length (b ∷ bs)) DIGIT_LIMIT) all (le-leb (length (b ∷ bs)) DIGIT_LIMIT few)) starts

natural_is : (n : ℕ) → n < NUMBER_LIMIT → is_natural (natural_text n) ≡ true
natural_is n low =
    is_natural_from (natural_text n) (digits_all (suc n) n [] refl) (omega (arith, digits_few 17 (suc n) n [] (omega (arith, low)))) (digits_start n n [] (omega arith) (inr refl))

natural_number : (n : ℕ) → number_from 0 (natural_text n) ≡ n
natural_number n = digits_number n n [] (omega arith)

minus_is_none : (bs : List ℕ) → is_natural (45 ∷ bs) ≡ false
minus_is_none bs = refl

pub whole_back : (z : ℤ) → is_short z ≡ true → whole_of (integer_text z) ≡ Some z
whole_back (pos n) short = rw (natural_is n (ltb-true n NUMBER_LIMIT short)) (ap (λ m. Some (pos m)) (natural_number n))
whole_back (negsuc n) short =
    let is : is_natural (natural_text (suc n)) ≡ true = natural_is (suc n) (ltb-true (suc n) NUMBER_LIMIT short) in
    let some : nat_lt 0 (number_from 0 (natural_text (suc n))) ≡ true = lt-ltb 0 (number_from 0 (natural_text (suc n))) (omega (arith, natural_number (suc n))) in
    ap (λ (b : Bool). if (45 == 45 && b) && nat_lt 0 (number_from 0 (natural_text (suc n))) then Some (neg_ℤ (pos (number_from 0 (natural_text (suc n))))) else None) is
    ∙ ap (λ (b : Bool). if b then Some (neg_ℤ (pos (number_from 0 (natural_text (suc n))))) else None) some
    ∙ ap (λ m. Some (neg_ℤ (pos m))) (natural_number (suc n))
