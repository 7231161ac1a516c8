-- The canonical numbers of at most 18 digits are those of any length that have at most 18 digits.
use Rattle.std.proofs.Common.{◌≡◌, ◌↔◌, ℕ, ◌+◌, ◌-◌, ◌<◌, ◌≤◌, Bool, true, false, List, [], ◌∷◌, ◌++◌, length, refl, sym, ap, subst, ◌∙◌, inl, inr, arith, append_assoc}
use Rattle.std.specs.Prelude.{◌==◌, count_by, cond, nat_le}
use Rattle.std.specs.Char.{is_ascii_digit}
use Rattle.std.proofs.lemmas.Bool.{eq-eqb, and_parts, leb-true}
use Rattle.std.proofs.lemmas.List.{append-nil, length-map}
use Rattle.std.proofs.lemmas.List.Sums.{sum_by-append, sum_by-cons}
use Rattle.subscript_keys.specs.Decimal.{AreDigits, AreDigitCharacters, BeginsAboveZero, EndsAboveZero, IsNumberText, digits_read, digit_text, fraction_text, sign_text, number_text}
use Rattle.subscript_keys.proofs.TextParts.{read-digits, text-read}
use Rattle.global_text.specs.Numbers.{Every, BeginsOtherwise, EndsInNonzeroDigit, IsUnsigned, IsNumber}
use Rattle.global_text.proofs.NumberSpellings.{digits-are, number-of-any}

characters : (cs : List ℕ) → Every is_ascii_digit cs → AreDigitCharacters cs
characters [] p = tt
characters (c ∷ cs) p =
    let bounds = and_parts (nat_le 48 c) (nat_le c 57) p.0 in
    ((leb-true 48 c bounds.0, leb-true c 57 bounds.1), characters cs p.1)

begins : (cs : List ℕ) → Every is_ascii_digit cs → BeginsOtherwise (λ b. b == 48) cs → BeginsAboveZero (digits_read cs)
begins [] p n = tt
begins (c ∷ cs) p n = let low : 48 ≤ c = (characters (c ∷ cs) p).0.0 in λ e. n (eq-eqb c 48 (omega arith))

ends : (cs : List ℕ) → Every is_ascii_digit cs → EndsInNonzeroDigit cs → EndsAboveZero (digits_read cs)
ends [] p n = absurd n
ends (c ∷ []) p n = let low : 48 ≤ c = (characters (c ∷ []) p).0.0 in λ e. n (omega arith)
ends (c ∷ d ∷ cs) p n = ends (d ∷ cs) p.1 n

some-ends : (cs : List ℕ) → EndsInNonzeroDigit cs → 0 < length cs
some-ends [] n = absurd n
some-ends (c ∷ cs) n = omega arith

-- how many digits a text has
abbrev count : List ℕ → ℕ
count text = count_by is_ascii_digit text

count-append : (a b : List ℕ) → count (a ++ b) ≡ count a + count b
count-append a b = sum_by-append (λ c. cond (is_ascii_digit c) 1 0) a b

count-cons : (c : ℕ) (cs : List ℕ) → count (c ∷ cs) ≡ cond (is_ascii_digit c) 1 0 + count cs
count-cons c cs = sum_by-cons (λ x. cond (is_ascii_digit x) 1 0) c cs

counted : (cs : List ℕ) → Every is_ascii_digit cs → count cs ≡ length cs
counted [] p = refl
counted (c ∷ cs) p = omega (arith, count-cons c cs, counted cs p.1, ap {B = ℕ} (λ b. cond b 1 0) p.0)

fraction-count : (ds : List ℕ) → AreDigits ds → count (fraction_text ds) ≡ length ds
fraction-count [] p = refl
fraction-count (d ∷ ds) p = omega (arith, count-cons 46 (digit_text (d ∷ ds)), counted (digit_text (d ∷ ds)) (digits-are (d ∷ ds) p), length-map (d ∷ ds) (λ x. x + 48))

sign-count : (n : Bool) → count (sign_text n) ≡ 0
sign-count true = refl
sign-count false = refl

number-count : (n : Bool) (w f : List ℕ) → AreDigits w → AreDigits f → count (number_text n w f) ≡ length w + length f
number-count n w f p q =
    omega (arith, count-append (sign_text n ++ digit_text w) (fraction_text f), count-append (sign_text n) (digit_text w), sign-count n, counted (digit_text w) (digits-are w p), length-map w (λ x. x + 48), fraction-count f q)

text-count : (text : List ℕ) → IsNumberText text → count text ≤ 18
text-count text (inl e) = omega (arith, ap count e, count-cons 48 [])
text-count text (inr (n, w, f, p, e)) = omega (arith, ap count e, number-count n w f p.whole_digits p.fraction_digits, p.limit)

point-text : (cs : List ℕ) → Every is_ascii_digit cs → 0 < length cs → fraction_text (digits_read cs) ≡ 46 ∷ cs
point-text [] p h = absurd (omega arith)
point-text (c ∷ cs) p h = ap (λ x. 46 ∷ x) (text-read (c ∷ cs) (characters (c ∷ cs) p))

unsigned-short : (n : Bool) (text : List ℕ) → IsUnsigned text → count text ≤ 18 → IsNumberText (sign_text n ++ text)
unsigned-short n text (inl (is, some)) h = inr (
  n,
  digits_read text,
  [],
  record {
    whole_digits = read-digits text (characters text is.digits);
    fraction_digits = tt;
    first = begins text is.digits is.first;
    last = tt;
    some = omega (arith, filled text some, length-map text (λ c. c - 48));
    limit = omega (arith, counted text is.digits, length-map text (λ c. c - 48));
  },
  ap (λ x. sign_text n ++ x) (sym (text-read text (characters text is.digits))) ∙ sym (append-nil (sign_text n ++ digit_text (digits_read text))),
)
  where
    filled : (cs : List ℕ) → (cs ≡ [] → ⊥) → 0 < length cs
    filled [] m = absurd (m refl)
    filled (c ∷ cs) m = omega arith
unsigned-short n text (inr (w, f, is, more, e)) h = inr (
  n,
  digits_read w,
  digits_read f,
  record {
    whole_digits = read-digits w (characters w is.digits);
    fraction_digits = read-digits f (characters f more.digits);
    first = begins w is.digits is.first;
    last = ends f more.digits more.last;
    some = omega (arith, some-ends f more.last, length-map f (λ c. c - 48));
    limit = omega (arith, ap count e, count-append w (46 ∷ f), count-cons 46 f, counted w is.digits, counted f more.digits, length-map w (λ c. c - 48), length-map f (λ c. c - 48));
  },
  ap (λ x. sign_text n ++ x) (e ∙ ap (λ x. x ++ 46 ∷ f) (sym (text-read w (characters w is.digits))) ∙ ap (λ x. digit_text (digits_read w) ++ x) (sym (point-text f more.digits (some-ends f more.last))))
      ∙ sym (append_assoc (sign_text n) (digit_text (digits_read w)) (fraction_text (digits_read f))),
)

-- both words mean one thing
pub numbers-agree : (text : List ℕ) → IsNumberText text ↔ (IsNumber text × (count_by is_ascii_digit text ≤ 18))
numbers-agree text = (λ is. (number-of-any text is, text-count text is), short text)
  where
    short : (text : List ℕ) → (IsNumber text × (count_by is_ascii_digit text ≤ 18)) → IsNumberText text
    short text (inl e, h) = inl e
    short text (inr (inl is), h) = unsigned-short false text is h
    short text (inr (inr (u, is, e)), h) = subst IsNumberText (sym e) (unsigned-short true u is (omega (arith, ap count e, count-cons 45 u)))
