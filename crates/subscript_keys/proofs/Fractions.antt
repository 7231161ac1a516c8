-- Digits as whole numbers of a fixed width, filled up with zeros at the end, and how these compare.
use Rattle.std.proofs.Common.{◌≡◌, ◌≢◌, ℕ, zero, suc, ◌+◌, ◌-◌, ◌*◌, ◌^◌, ◌/◌, ◌%◌, ◌<◌, ◌≤◌, List, [], ◌∷◌, ◌++◌, length, get_or, refl, sym, ap, ◌∙◌, inl, inr, arith}
use Rattle.std.specs.Int.Digits.{number_from_digits, number_from_digits_after}
use Rattle.std.specs.Ordering.{nat_cmp, ordering_then}
use Rattle.std.specs.Cmp.Lexicographic.{slice_cmp}
use Rattle.std.proofs.lemmas.Bool.{cases_order}
use Rattle.std.proofs.lemmas.Nat.{mul-add-lt, mul-le}
use Rattle.std.proofs.Math.Nat.{one-le-pow, pow-suc, pow-le-pow_right, add-zero}
use Rattle.std.proofs.lemmas.Int.Digits.{number_digits_of, all_below_base_digits_of, first_digits_of, digits_of_step, length-digits_of-le, length-digits_of_step}
use Rattle.subscript_keys.specs.Decimal.{digits, AreDigits, EndsAboveZero}
use Rattle.subscript_keys.proofs.Orders.{nat_cmp-lt, nat_cmp-gt, nat_cmp-eq, nat_cmp-same}

-- digits as a whole number of this many digits
abbrev pub filled : ℕ → List ℕ → ℕ
filled w [] = 0
filled zero (d ∷ ds) = 0
filled (suc w) (d ∷ ds) = d * 10 ^ w + filled w ds

pub filled-lt : (w : ℕ) (ds : List ℕ) → AreDigits ds → filled w ds < 10 ^ w
filled-lt w [] p = omega (arith, one-le-pow w 10 (omega arith))
filled-lt zero (d ∷ ds) p = omega arith
filled-lt (suc w) (d ∷ ds) p =
    let digit : d < 10 = p.0 in
    omega (arith, mul-add-lt d (10 ^ w) (filled w ds) 10 digit (filled-lt w ds p.1), pow-suc 10 w)

pub filled-pos : (w : ℕ) (d : ℕ) (ds : List ℕ) → EndsAboveZero (d ∷ ds) → length (d ∷ ds) ≤ w → 0 < filled w (d ∷ ds)
filled-pos zero d ds p h = absurd (omega arith)
filled-pos (suc w) d [] p h = omega (arith, one-le-pow w 10 (omega arith), mul-le 1 1 d (10 ^ w) (omega arith) (one-le-pow w 10 (omega arith)))
filled-pos (suc w) d (e ∷ ds) p h = omega (arith, filled-pos w e ds p (omega arith))

rows : (d e P f : ℕ) → d < e → f < P → d * P + f < e * P
rows d e P f h k = omega (arith, mul-le (suc d) P e P (omega arith) (omega arith))

-- with one width the digits decide, from the left
pub filled-cmp : (w : ℕ) (ds es : List ℕ) → AreDigits ds → AreDigits es → EndsAboveZero ds → EndsAboveZero es → length ds ≤ w → length es ≤ w → nat_cmp (filled w ds) (filled w es) ≡ slice_cmp nat_cmp ds es
filled-cmp w [] [] p q l m h k = refl
filled-cmp w [] (e ∷ es) p q l m h k = nat_cmp-lt 0 (filled w (e ∷ es)) (filled-pos w e es m k)
filled-cmp w (d ∷ ds) [] p q l m h k = nat_cmp-gt (filled w (d ∷ ds)) 0 (filled-pos w d ds l h)
filled-cmp zero (d ∷ ds) (e ∷ es) p q l m h k = absurd (omega arith)
filled-cmp (suc w) (d ∷ ds) (e ∷ es) p q l m h k =
    let here : filled w ds < 10 ^ w = filled-lt w ds p.1 in
    let there : filled w es < 10 ^ w = filled-lt w es q.1 in
    elim (cases_order d e) [
      | inl same ↦
          let below : nat_cmp (filled w ds) (filled w es) ≡ slice_cmp nat_cmp ds es = filled-cmp w ds es p.1 q.1 (rest-ends d ds l) (rest-ends e es m) (omega arith) (omega arith) in
          let level : d * 10 ^ w ≡ e * 10 ^ w = ap (λ x. x * 10 ^ w) same in
          nat_cmp-same (d * 10 ^ w + filled w ds) (e * 10 ^ w + filled w es) (filled w ds) (filled w es) (λ x. omega arith) (λ x. omega arith) (λ x. omega arith)
          ∙ below ∙ sym (ap (λ o. ordering_then o (slice_cmp nat_cmp ds es)) (nat_cmp-eq d e same))
      | inr o ↦ elim o [
        | inl less ↦ nat_cmp-lt (d * 10 ^ w + filled w ds) (e * 10 ^ w + filled w es) (omega (arith, rows d e (10 ^ w) (filled w ds) less here)) ∙ sym (ap (λ o. ordering_then o (slice_cmp nat_cmp ds es)) (nat_cmp-lt d e less))
        | inr more ↦ nat_cmp-gt (d * 10 ^ w + filled w ds) (e * 10 ^ w + filled w es) (omega (arith, rows e d (10 ^ w) (filled w es) more there)) ∙ sym (ap (λ o. ordering_then o (slice_cmp nat_cmp ds es)) (nat_cmp-gt d e more))
      ]
    ]
  where
    rest-ends : (d : ℕ) (ds : List ℕ) → EndsAboveZero (d ∷ ds) → EndsAboveZero ds
    rest-ends d [] p = tt
    rest-ends d (e ∷ ds) p = p

-- digits whose first and last are not 0, of at most this many places
pub record IsFraction (w : ℕ) (ds : List ℕ) : Type 0 where
  pub digits : AreDigits ds
  pub first : 0 < get_or ds 0 0
  pub last : EndsAboveZero ds
  pub fits : length ds ≤ w

pub filled-large : (w : ℕ) (ds : List ℕ) → IsFraction (suc w) ds → 10 ^ w ≤ filled (suc w) ds
filled-large w [] p = absurd (omega (arith, p.first))
filled-large w (d ∷ ds) p = let first : 0 < d = p.first in omega (arith, mul-le 1 (10 ^ w) d (10 ^ w) (omega arith) (omega arith))

pub filled-wider : (v w : ℕ) (ds es : List ℕ) → IsFraction v ds → IsFraction w es → v < w → filled v ds < filled w es
filled-wider v zero ds es p q h = absurd (omega arith)
filled-wider v (suc w) ds es p q h =
    let small : filled v ds < 10 ^ v = filled-lt v ds p.digits in
    let wide : 10 ^ v ≤ 10 ^ w = pow-le-pow_right (omega arith) (omega arith) in
    let large : 10 ^ w ≤ filled (suc w) es = filled-large w es q in
    omega arith

-- the width decides first, then the digits
pub fraction-cmp : (v w : ℕ) (ds es : List ℕ) → IsFraction v ds → IsFraction w es → nat_cmp (filled v ds) (filled w es) ≡ ordering_then (nat_cmp v w) (slice_cmp nat_cmp ds es)
fraction-cmp v w ds es p q = elim (cases_order v w) [
  | inl same ↦
      ap (λ x. nat_cmp (filled v ds) (filled x es)) (sym same)
      ∙ filled-cmp v ds es p.digits q.digits p.last q.last p.fits (omega (arith, q.fits))
      ∙ sym (ap (λ o. ordering_then o (slice_cmp nat_cmp ds es)) (nat_cmp-eq v w same))
  | inr o ↦ elim o [
    | inl less ↦ nat_cmp-lt _ _ (filled-wider v w ds es p q less) ∙ sym (ap (λ o. ordering_then o (slice_cmp nat_cmp ds es)) (nat_cmp-lt v w less))
    | inr more ↦ nat_cmp-gt _ _ (filled-wider w v es ds q p more) ∙ sym (ap (λ o. ordering_then o (slice_cmp nat_cmp ds es)) (nat_cmp-gt v w more))
  ]
]

-- the digits as a number, moved up by the places that are left
pub filled-number : (w n : ℕ) (ds : List ℕ) → length ds ≤ w → number_from_digits_after 10 n ds * 10 ^ (w - length ds) ≡ n * 10 ^ w + filled w ds
filled-number w n [] h = let whole : w - 0 ≡ w = omega arith in ap (λ k. n * 10 ^ k) whole ∙ sym (add-zero (n * 10 ^ w))
filled-number zero n (d ∷ ds) h = absurd (omega arith)
filled-number (suc w) n (d ∷ ds) h =
    let step : suc w - suc (length ds) ≡ w - length ds = omega arith in
    ap (λ k. number_from_digits_after 10 (n * 10 + d) ds * 10 ^ k) step
    ∙ filled-number w (n * 10 + d) ds (omega arith)
    ∙ omega (arith, pow-suc 10 w, ap (λ k. n * k) (pow-suc 10 w))

pub EndsAboveZero-push : (ds : List ℕ) (d : ℕ) → d ≢ 0 → EndsAboveZero (ds ++ d ∷ [])
EndsAboveZero-push [] d h = h
EndsAboveZero-push (e ∷ []) d h = h
EndsAboveZero-push (e ∷ f ∷ ds) d h = EndsAboveZero-push (f ∷ ds) d h

pub digits-are : (n : ℕ) → AreDigits (digits n)
unfolding digits
digits-are n = all_below_base_digits_of 10 n (omega arith)

pub digits-first : (n : ℕ) → 0 < n → 0 < get_or (digits n) 0 0
unfolding digits
digits-first n h = first_digits_of 10 n (omega arith) h

pub digits-step : (n : ℕ) → 0 < n → digits n ≡ digits (n / 10) ++ (n % 10) ∷ []
unfolding digits
digits-step n h = digits_of_step 10 n (omega arith) h

pub digits-number : (n : ℕ) → number_from_digits 10 (digits n) ≡ n
unfolding digits
digits-number n = number_digits_of 10 n (omega arith)

pub digits-last : (n : ℕ) → n % 10 ≢ 0 → EndsAboveZero (digits n)
digits-last n h = let above : 0 < n = omega arith in rw (digits-step n above) (EndsAboveZero-push (digits (n / 10)) (n % 10) h)

pub length-digits : (n k : ℕ) → n < 10 ^ k → length (digits n) ≤ k
unfolding digits
length-digits n k h = length-digits_of-le 10 k n (omega arith) h

pub length-digits-step : (n : ℕ) → 0 < n → length (digits n) ≡ length (digits (n / 10)) + 1
unfolding digits
length-digits-step n h = length-digits_of_step 10 n (omega arith) h

pub digits-zero : digits 0 ≡ []
unfolding digits
digits-zero = refl
