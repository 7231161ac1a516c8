-- The number that the parts of a text write, and the parts of a number's text.
use Rattle.std.proofs.Common.{◌≡◌, ◌≢◌, ℕ, zero, suc, ◌+◌, ◌-◌, ◌*◌, ◌^◌, ◌%◌, ◌<◌, ◌≤◌, List, [], ◌∷◌, ◌++◌, length, take, drop, replicate, get_or, refl, sym, ap, ◌∙◌, arith, pos, neg_ℤ, append_assoc, length-append}
use Rattle.std.specs.Prelude.{if◌then◌else◌}
use Rattle.std.specs.Int.Digits.{number_from_digits, number_from_digits_after}
use Rattle.std.proofs.lemmas.Bool.{ne_eqb}
use Rattle.std.proofs.lemmas.Nat.{div-mul-add, mod-mul-add, mul-le, pow-add}
use Rattle.std.proofs.lemmas.List.{append-nil, take_all, drop_all, take_at, drop_at, length-replicate, length-map}
use Rattle.std.proofs.lemmas.Int.Digits.{number_lt}
use Rattle.std.proofs.Math.Nat.{pow-suc, pow-le-pow_right, one-le-pow}
use Rattle.subscript_keys.specs.declared.decimal.Decimal.{Decimal}
use Rattle.subscript_keys.specs.Decimal.{digits, whole_digits, fraction_digits, AreDigits, AreCanonical, BeginsAboveZero, EndsAboveZero, AreDigitCharacters, IsShort, decimal_text, number_text, digits_read}
use Rattle.subscript_keys.proofs.Fractions.{digits-step, digits-zero}
use Rattle.subscript_keys.proofs.NumberForms.{short-above}
use Rattle.subscript_keys.proofs.TextParts.{read-digits}

digits-push : (n d : ℕ) → d < 10 → 0 < n * 10 + d → digits (n * 10 + d) ≡ digits n ++ d ∷ []
digits-push n d h k =
    digits-step (n * 10 + d) k
    ∙ ap (λ m. digits m ++ ((n * 10 + d) % 10) ∷ []) (div-mul-add n 10 d h)
    ∙ ap (λ m. digits n ++ m ∷ []) (mod-mul-add n 10 d h)

digits-after : (n : ℕ) (ds : List ℕ) → 0 < n → AreDigits ds → digits (number_from_digits_after 10 n ds) ≡ digits n ++ ds
digits-after n [] h p = sym (append-nil (digits n))
digits-after n (d ∷ ds) h p =
    digits-after (n * 10 + d) ds (omega arith) p.1
    ∙ ap (λ es. es ++ ds) (digits-push n d p.0 (omega arith))
    ∙ append_assoc (digits n) (d ∷ []) ds

-- digits of which the first is not 0 are those of the number that they write
pub digits-written : (ds : List ℕ) → AreDigits ds → 0 < get_or ds 0 0 → digits (number_from_digits 10 ds) ≡ ds
digits-written [] p h = absurd (omega arith)
digits-written (d ∷ ds) p h =
    let above : 0 < d = h in
    digits-after (0 * 10 + d) ds (omega arith) p.1
    ∙ ap (λ es. es ++ ds) (digits-push 0 d p.0 (omega arith) ∙ ap (λ es. es ++ d ∷ []) digits-zero)

pub last-written : (n : ℕ) (d : ℕ) (ds : List ℕ) → AreDigits (d ∷ ds) → EndsAboveZero (d ∷ ds) → number_from_digits_after 10 n (d ∷ ds) % 10 ≢ 0
last-written n d [] p h = λ e. h (sym (mod-mul-add n 10 d p.0) ∙ e)
last-written n d (c ∷ ds) p h = last-written (n * 10 + d) c ds p.1 h

-- one digit more keeps the bound
pub value-room : (n d k : ℕ) → d < 10 → (n + 1) * 10 ^ suc k ≤ 10 ^ 18 → (n * 10 + d + 1) * 10 ^ k ≤ 10 ^ 18
value-room n d k h small =
    let wide : (n * 10 + d + 1) * 10 ^ k ≤ (n * 10 + 10) * 10 ^ k = mul-le (n * 10 + d + 1) (10 ^ k) (n * 10 + 10) (10 ^ k) (omega arith) (omega arith) in
    let power : (n + 1) * 10 ^ suc k ≡ (n + 1) * (10 ^ k * 10) = ap (λ p. (n + 1) * p) (pow-suc 10 k) in
    omega arith

pub value-fits : (n k : ℕ) → (n + 1) * 10 ^ k ≤ 10 ^ 18 → n < 10 ^ 18
value-fits n k h = omega (arith, mul-le (n + 1) 1 (n + 1) (10 ^ k) (omega arith) (one-le-pow k 10 (omega arith)))

pub begins-first : (ds : List ℕ) → BeginsAboveZero ds → 0 < length ds → 0 < get_or ds 0 0
begins-first [] p h = absurd (omega arith)
begins-first (d ∷ ds) p h = omega arith

pub first-append : (ds es : List ℕ) → 0 < length ds → get_or (ds ++ es) 0 0 ≡ get_or ds 0 0
first-append [] es h = absurd (omega arith)
first-append (d ∷ ds) es h = refl

pub digits-append : (ds es : List ℕ) → AreDigits ds → AreDigits es → AreDigits (ds ++ es)
digits-append [] es p q = q
digits-append (d ∷ ds) es p q = (p.0, digits-append ds es p.1 q)

pub digits-split : (ds es : List ℕ) → AreDigits (ds ++ es) → AreDigits ds × AreDigits es
digits-split [] es p = (tt, p)
digits-split (d ∷ ds) es p = let rest = digits-split ds es p.1 in ((p.0, rest.0), rest.1)

pub digits-zeros : (n : ℕ) → AreDigits (replicate n 0)
digits-zeros zero = tt
digits-zeros (suc n) = (omega arith, digits-zeros n)

-- a number with these digits before and after the point
pub record Writes (d : Decimal) (w f : List ℕ) : Type 0 where
  pub last : d.digits % 10 ≢ 0
  pub whole : whole_digits (digits d.digits) d.exponent ≡ w
  pub fraction : fraction_digits (digits d.digits) d.exponent ≡ f

pub written-short : (d : Decimal) (w f : List ℕ) → AreCanonical w f → Writes d w f → IsShort d
written-short d w f c e = record {
  last = e.last;
  limit = omega (arith, c.limit, ap length e.whole, ap length e.fraction);
}

pub written-text : (d : Decimal) (w f : List ℕ) → AreCanonical w f → Writes d w f → decimal_text d ≡ number_text d.negative w f
unfolding decimal_text
written-text d w f c e =
    ap (λ b. if b then 48 ∷ [] else number_text d.negative (whole_digits (digits d.digits) d.exponent) (fraction_digits (digits d.digits) d.exponent)) (ne_eqb d.digits 0 (λ z. absurd (omega (arith, short-above d (written-short d w f c e)))))
    ∙ ap (λ x. number_text d.negative x (fraction_digits (digits d.digits) d.exponent)) e.whole
    ∙ ap (λ x. number_text d.negative w x) e.fraction

-- no digits after the point
pub whole-writes : (d : Decimal) (w : List ℕ) (n : ℕ) → d.exponent ≡ pos (length w) → d.digits % 10 ≢ 0 → digits n ≡ w → digits d.digits ++ replicate (length (digits n) - length (digits d.digits)) 0 ≡ digits n → Writes d w []
unfolding whole_digits fraction_digits
whole-writes d w n x last e zeros =
    let long : length (digits d.digits) + (length (digits n) - length (digits d.digits)) ≡ length (digits n) = sym (ap (λ k. length (digits d.digits) + k) (length-replicate {A = ℕ} (length (digits n) - length (digits d.digits)) 0)) ∙ sym (length-append (digits d.digits) (replicate (length (digits n) - length (digits d.digits)) 0)) ∙ ap length zeros in
    let same : length (digits n) ≡ length w = ap length e in
    record {
      last = last;
      whole = ap (whole_digits (digits d.digits)) x
          ∙ ap (λ ds. ds ++ replicate (length w - length (digits d.digits)) 0) (take_all (length w) (digits d.digits) (omega arith))
          ∙ ap (λ k. digits d.digits ++ replicate (k - length (digits d.digits)) 0) (sym same) ∙ zeros ∙ e;
      fraction = ap (fraction_digits (digits d.digits)) x ∙ drop_all (length w) (digits d.digits) (omega arith);
    }

-- digits on both sides
pub both-write : (d : Decimal) (w f : List ℕ) → d.exponent ≡ pos (length w) → d.digits % 10 ≢ 0 → digits d.digits ≡ w ++ f → Writes d w f
unfolding whole_digits fraction_digits
both-write d w f x last e =
    let shorter : length w ≤ length (digits d.digits) = omega (arith, ap length e, length-append w f) in
    let none : length w - length (digits d.digits) ≡ 0 = omega arith in
    record {
      last = last;
      whole = ap (whole_digits (digits d.digits)) x
          ∙ ap (λ k. take (length w) (digits d.digits) ++ replicate k 0) none
          ∙ append-nil (take (length w) (digits d.digits)) ∙ ap (take (length w)) e ∙ take_at w f (length w) refl;
      fraction = ap (fraction_digits (digits d.digits)) x ∙ ap (drop (length w)) e ∙ drop_at w f (length w) refl;
    }

-- the zeros that a list begins with
pub zeros-in-front : (f : List ℕ) → AreDigits f → 0 < number_from_digits 10 f → replicate (length f - length (digits (number_from_digits 10 f))) 0 ++ digits (number_from_digits 10 f) ≡ f
zeros-in-front [] p h = absurd (omega arith)
zeros-in-front (zero ∷ f) p h =
    let rest = zeros-in-front f p.1 h in
    let count : length f ≡ length f - length (digits (number_from_digits 10 f)) + length (digits (number_from_digits 10 f)) = sym (ap length rest) ∙ length-append (replicate (length f - length (digits (number_from_digits 10 f))) 0) (digits (number_from_digits 10 f)) ∙ ap (λ k. k + length (digits (number_from_digits 10 f))) (length-replicate {A = ℕ} (length f - length (digits (number_from_digits 10 f))) 0) in
    let more : length (0 ∷ f) - length (digits (number_from_digits 10 f)) ≡ suc (length f - length (digits (number_from_digits 10 f))) = omega arith in
    ap (λ k. replicate k 0 ++ digits (number_from_digits 10 f)) more ∙ ap (λ xs. 0 ∷ xs) rest
zeros-in-front (suc d ∷ f) p h =
    let e : digits (number_from_digits 10 (suc d ∷ f)) ≡ suc d ∷ f = digits-written (suc d ∷ f) p (omega arith) in
    let none : length (suc d ∷ f) - length (digits (number_from_digits 10 (suc d ∷ f))) ≡ 0 = omega (arith, ap length e) in
    ap (λ k. replicate k 0 ++ digits (number_from_digits 10 (suc d ∷ f))) none ∙ e

-- no digits before the point
pub fraction-writes : (d : Decimal) (f : List ℕ) (k : ℕ) → AreDigits f → d.digits ≡ number_from_digits 10 f → d.digits % 10 ≢ 0 → k ≡ length f - length (digits d.digits) → d.exponent ≡ neg_ℤ (pos k) → Writes d [] f
unfolding whole_digits fraction_digits
fraction-writes d f zero p e last z x =
    let front = zeros-in-front f p (omega arith) in
    record {
      last = last;
      whole = ap (whole_digits (digits d.digits)) x ∙ ap (λ k. replicate k 0) (no-more (length (digits d.digits)));
      fraction = ap (fraction_digits (digits d.digits)) x ∙ ap (λ k. replicate k 0 ++ digits d.digits) z ∙ ap (λ n. replicate (length f - length (digits n)) 0 ++ digits n) e ∙ front;
    }
  where
    no-more : (k : ℕ) → 0 - k ≡ 0
    no-more k = omega arith
fraction-writes d f (suc k) p e last z x =
    let front = zeros-in-front f p (omega arith) in
    record {
      last = last;
      whole = ap (whole_digits (digits d.digits)) x;
      fraction = ap (fraction_digits (digits d.digits)) x ∙ ap (λ m. replicate m 0 ++ digits d.digits) z ∙ ap (λ n. replicate (length f - length (digits n)) 0 ++ digits n) e ∙ front;
    }

-- the second list of digits has room after the first
pub second-room : (w f : List ℕ) → AreDigitCharacters w → length w + length f ≤ 18 → (number_from_digits_after 10 0 (digits_read w) + 1) * 10 ^ length f ≤ 10 ^ 18
second-room w f p limit =
    let below : number_from_digits 10 (digits_read w) < 10 ^ length (digits_read w) = number_lt 10 (digits_read w) (read-digits w p) in
    let same : length (digits_read w) ≡ length w = length-map w (λ c. c - 48) in
    let power : 10 ^ length (digits_read w) ≡ 10 ^ length w = ap (λ k. 10 ^ k) same in
    let wide : (number_from_digits 10 (digits_read w) + 1) * 10 ^ length f ≤ 10 ^ length w * 10 ^ length f = mul-le (number_from_digits 10 (digits_read w) + 1) (10 ^ length f) (10 ^ length w) (10 ^ length f) (omega arith) (omega arith) in
    let sum : 10 ^ length w * 10 ^ length f ≡ 10 ^ (length w + length f) = sym (pow-add 10 (length w) (length f)) in
    let top : 10 ^ (length w + length f) ≤ 10 ^ 18 = pow-le-pow_right (omega arith) limit in
    omega arith

pub first-room : (w : List ℕ) → length w ≤ 18 → (0 + 1) * 10 ^ length w ≤ 10 ^ 18
first-room w limit = let top : 10 ^ length w ≤ 10 ^ 18 = pow-le-pow_right (omega arith) limit in omega arith
