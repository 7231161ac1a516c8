-- Reading a number in a key: from an exponent's byte and bytes of digits.
use Rattle.std.proofs.Common.{◌≡◌, ℕ, zero, suc, ◌+◌, ◌-◌, ◌<◌, ◌≤◌, true, false, List, [], ◌∷◌, ◌++◌, map, length, replicate, refl, sym, ap, ◌∙◌, arith, ℤ, pos, negsuc, ◌-ℤ◌, ◌≤ℤ◌}
use Rattle.std.specs.Int.Digits.{number_from_digits}
use Rattle.std.proofs.lemmas.Int.{ints}
use Rattle.std.proofs.lemmas.List.{length-map}
use Rattle.subscript_keys.specs.declared.decimal.Decimal.{Decimal}
use Rattle.subscript_keys.specs.Decimal.{digits, plus, minus, AreDigits, IsShort}
use Rattle.subscript_keys.specs.Key.{ArePlaces, IsPositive, IsNegative}
use Rattle.subscript_keys.proofs.Fractions.{digits-are, digits-number}
use Rattle.subscript_keys.proofs.NumberForms.{short-has, short-above}
use Rattle.subscript_keys.proofs.NumberBytes.{number_is_short}
use Rattle.subscript_keys.proofs.Ties.{same-decimal}
use Rattle.subscript_keys.proofs.PartNumbers.{zeros-in-front}
use Rattle.subscript_keys.proofs.Shortness.{short_in}

raise-back : (bs : List ℕ) → ArePlaces bs → map (λ n. n + 1) (map (λ b. b - 1) bs) ≡ bs
raise-back [] p = refl
raise-back (b ∷ bs) p =
    let low : 1 ≤ b = p.0.0 in
    let first : b - 1 + 1 ≡ b = omega arith in
    let rest : map (λ n. n + 1) (map (λ x. x - 1) bs) ≡ bs = raise-back bs p.1 in
    cc

raise-there : (ds : List ℕ) → map (λ b. b - 1) (map (λ n. n + 1) ds) ≡ ds
raise-there [] = refl
raise-there (d ∷ ds) =
    let first : d + 1 - 1 ≡ d = omega arith in
    let rest : map (λ b. b - 1) (map (λ n. n + 1) ds) ≡ ds = raise-there ds in
    cc

lower-back : (bs : List ℕ) → ArePlaces bs → map (λ n. 10 - n) (map (λ b. 10 - b) bs) ≡ bs
lower-back [] p = refl
lower-back (b ∷ bs) p =
    let high : b ≤ 10 = p.0.1 in
    let first : 10 - (10 - b) ≡ b = omega arith in
    let rest : map (λ n. 10 - n) (map (λ x. 10 - x) bs) ≡ bs = lower-back bs p.1 in
    cc

lower-there : (ds : List ℕ) → AreDigits ds → map (λ b. 10 - b) (map (λ n. 10 - n) ds) ≡ ds
lower-there [] p = refl
lower-there (d ∷ ds) p =
    let small : d < 10 = p.0 in
    let first : 10 - (10 - d) ≡ d = omega arith in
    let rest : map (λ b. 10 - b) (map (λ n. 10 - n) ds) ≡ ds = lower-there ds p.1 in
    cc

raised-read : (bs : List ℕ) → ArePlaces bs → AreDigits (map (λ b. b - 1) bs)
raised-read [] p = tt
raised-read (b ∷ bs) p = let low : 1 ≤ b = p.0.0 in let high : b ≤ 10 = p.0.1 in (omega arith, raised-read bs p.1)

lowered-read : (bs : List ℕ) → ArePlaces bs → AreDigits (map (λ b. 10 - b) bs)
lowered-read [] p = tt
lowered-read (b ∷ bs) p = let low : 1 ≤ b = p.0.0 in let high : b ≤ 10 = p.0.1 in (omega arith, lowered-read bs p.1)

-- as many digits as were read: none of them was a zero in front
full-digits : (f : List ℕ) (n : ℕ) → AreDigits f → n ≡ number_from_digits 10 f → 0 < n → length (digits n) ≡ length f → digits n ≡ f
full-digits f n p e above h =
    let front : replicate (length f - length (digits (number_from_digits 10 f))) 0 ++ digits (number_from_digits 10 f) ≡ f = zeros-in-front f p (omega arith) in
    let same : length (digits n) ≡ length (digits (number_from_digits 10 f)) = ap (λ k. length (digits k)) e in
    let none : length f - length (digits (number_from_digits 10 f)) ≡ zero = omega arith in
    ap digits e ∙ sym (ap (λ k. replicate k 0 ++ digits (number_from_digits 10 f)) none) ∙ front

plus-there : (x : ℤ) (e : ℕ) → x ≡ pos e -ℤ pos 64 → 47 ≤ e → plus 64 x ≡ e
plus-there (pos x) e h l = omega (arith, ints)
plus-there (negsuc x) e h l = omega (arith, ints)

plus-back : (x : ℤ) (e : ℕ) → plus 64 x ≡ e → 47 ≤ e → x ≡ pos e -ℤ pos 64
plus-back (pos x) e h l = let same : 64 + x ≡ e = h in omega (arith, ints)
plus-back (negsuc x) e h l = let same : 64 - suc x ≡ e = h in omega (arith, ints)

minus-there : (x : ℤ) (e : ℕ) → x ≡ pos 64 -ℤ pos e → 46 ≤ e → minus 64 x ≡ e
minus-there (pos x) e h l = omega (arith, ints)
minus-there (negsuc x) e h l = omega (arith, ints)

minus-back : (x : ℤ) (e : ℕ) → minus 64 x ≡ e → 46 ≤ e → x ≡ pos 64 -ℤ pos e
minus-back (pos x) e h l = let same : 64 - x ≡ e = h in omega (arith, ints)
minus-back (negsuc x) e h l = let same : 64 + suc x ≡ e = h in omega (arith, ints)

-- the bytes of exponents of numbers of at most 18 digits
pub positive-range : (d : Decimal) (e : ℕ) (places : List ℕ) → IsPositive d e places → (47 ≤ e) × (e ≤ 82) × (length places ≤ 18)
positive-range d e places p =
    let size = short-has d p.short in
    let range = number_is_short d p.short in
    let limits = short_in d p.short in
    (omega (arith, plus-low d.exponent range.0, p.exponent_byte), omega (arith, plus-high d.exponent range.1, p.exponent_byte), omega (arith, ap length p.digit_bytes, length-map (digits d.digits) (λ n. n + 1), limits.count))
  where
    plus-low : (x : ℤ) → negsuc 16 ≤ℤ x → 47 ≤ plus 64 x
    plus-low (pos x) h = omega arith
    plus-low (negsuc x) h = omega (arith, ints)

    plus-high : (x : ℤ) → x ≤ℤ pos 18 → plus 64 x ≤ 82
    plus-high (pos x) h = omega (arith, ints)
    plus-high (negsuc x) h = omega arith

pub negative-range : (d : Decimal) (e : ℕ) (places : List ℕ) → IsNegative d e places → (46 ≤ e) × (e ≤ 81) × (length places ≤ 18)
negative-range d e places p =
    let range = number_is_short d p.short in
    let limits = short_in d p.short in
    (omega (arith, minus-low d.exponent range.1, p.exponent_byte), omega (arith, minus-high d.exponent range.0, p.exponent_byte), omega (arith, ap length p.digit_bytes, length-map (digits d.digits) (λ n. 10 - n), limits.count))
  where
    minus-low : (x : ℤ) → x ≤ℤ pos 18 → 46 ≤ minus 64 x
    minus-low (pos x) h = omega (arith, ints)
    minus-low (negsuc x) h = omega arith

    minus-high : (x : ℤ) → negsuc 16 ≤ℤ x → minus 64 x ≤ 81
    minus-high (pos x) h = omega arith
    minus-high (negsuc x) h = omega (arith, ints)

-- the number that was read is any number that stands there
pub positive-same : (d n : Decimal) (e : ℕ) (places : List ℕ) → IsPositive d e places → n.negative ≡ false → n.exponent ≡ pos e -ℤ pos 64 → n.digits ≡ number_from_digits 10 (map (λ b. b - 1) places) → d ≡ n
positive-same d n e places p sign exponent value =
    let range = positive-range d e places p in
    same-decimal d n (p.sign ∙ sym sign) (plus-back d.exponent e p.exponent_byte range.0 ∙ sym exponent)
    (sym (digits-number d.digits) ∙ ap (number_from_digits 10) (sym (raise-there (digits d.digits)) ∙ ap (map (λ b. b - 1)) p.digit_bytes) ∙ sym value)

pub negative-same : (d n : Decimal) (e : ℕ) (places : List ℕ) → IsNegative d e places → n.negative ≡ true → n.exponent ≡ pos 64 -ℤ pos e → n.digits ≡ number_from_digits 10 (map (λ b. 10 - b) places) → d ≡ n
negative-same d n e places p sign exponent value =
    let range = negative-range d e places p in
    same-decimal d n (p.sign ∙ sym sign) (minus-back d.exponent e p.exponent_byte range.0 ∙ sym exponent)
    (sym (digits-number d.digits) ∙ ap (number_from_digits 10) (sym (lower-there (digits d.digits) (digits-are d.digits)) ∙ ap (map (λ b. 10 - b)) p.digit_bytes) ∙ sym value)

-- what was read stands there
pub positive-is : (n : Decimal) (e : ℕ) (places : List ℕ) → ArePlaces places → IsShort n → n.negative ≡ false → n.exponent ≡ pos e -ℤ pos 64 → 47 ≤ e → n.digits ≡ number_from_digits 10 (map (λ b. b - 1) places) → length (digits n.digits) ≡ length places → IsPositive n e places
positive-is n e places p short sign exponent low value count = record {
  short = short;
  sign = sign;
  exponent_byte = plus-there n.exponent e exponent low;
  digit_bytes = ap (map (λ n. n + 1)) (full-digits (map (λ b. b - 1) places) n.digits (raised-read places p) value (short-above n short) (count ∙ sym (length-map places (λ b. b - 1)))) ∙ raise-back places p;
}

pub negative-is : (n : Decimal) (e : ℕ) (places : List ℕ) → ArePlaces places → IsShort n → n.negative ≡ true → n.exponent ≡ pos 64 -ℤ pos e → 46 ≤ e → n.digits ≡ number_from_digits 10 (map (λ b. 10 - b) places) → length (digits n.digits) ≡ length places → IsNegative n e places
negative-is n e places p short sign exponent low value count = record {
  short = short;
  sign = sign;
  exponent_byte = minus-there n.exponent e exponent low;
  digit_bytes = ap (map (λ n. 10 - n)) (full-digits (map (λ b. 10 - b) places) n.digits (lowered-read places p) value (short-above n short) (count ∙ sym (length-map places (λ b. 10 - b)))) ∙ lower-back places p;
}

-- as many digits as were read
pub positive-count : (d : Decimal) (v e : ℕ) (places : List ℕ) → IsPositive d e places → v ≡ number_from_digits 10 (map (λ b. b - 1) places) → length (digits v) ≡ length places
positive-count d v e places p value =
    let same : d.digits ≡ v = sym (digits-number d.digits) ∙ ap (number_from_digits 10) (sym (raise-there (digits d.digits)) ∙ ap (map (λ b. b - 1)) p.digit_bytes) ∙ sym value in
    ap (λ k. length (digits k)) (sym same) ∙ sym (length-map (digits d.digits) (λ x. x + 1)) ∙ ap length p.digit_bytes

pub negative-count : (d : Decimal) (v e : ℕ) (places : List ℕ) → IsNegative d e places → v ≡ number_from_digits 10 (map (λ b. 10 - b) places) → length (digits v) ≡ length places
negative-count d v e places p value =
    let same : d.digits ≡ v = sym (digits-number d.digits) ∙ ap (number_from_digits 10) (sym (lower-there (digits d.digits) (digits-are d.digits)) ∙ ap (map (λ b. 10 - b)) p.digit_bytes) ∙ sym value in
    ap (λ k. length (digits k)) (sym same) ∙ sym (length-map (digits d.digits) (λ x. 10 - x)) ∙ ap length p.digit_bytes
