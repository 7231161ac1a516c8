-- A number's text has one sign, one list of digits before the point and one after it.
use Rattle.std.proofs.Common.{◌≡◌, ◌↔◌, ℕ, suc, ◌+◌, ◌-◌, ◌<◌, ◌≤◌, Bool, true, false, not, List, [], ◌∷◌, ◌++◌, length, get_or, refl, sym, ap, subst, ◌∙◌, inl, inr, arith, append_assoc}
use Rattle.std.specs.Prelude.{nat_eq}
use Rattle.std.proofs.lemmas.Bool.{cases_eq, eq-eqb, ne_eqb, eqb-false}
use Rattle.std.proofs.lemmas.List.{append-nil, length-map}
use Rattle.subscript_keys.specs.Decimal.{AreDigits, AreCanonical, AreDigitCharacters, BeginsWithNoDigit, BeginsAboveZero, EndsAboveZero, digits_read, digit_text, fraction_text, number_text, sign_text}

pub read-digits : (cs : List ℕ) → AreDigitCharacters cs → AreDigits (digits_read cs)
read-digits [] p = tt
read-digits (c ∷ cs) p = let low : 48 ≤ c = p.0.0 in let high : c ≤ 57 = p.0.1 in (omega arith, read-digits cs p.1)

pub text-read : (cs : List ℕ) → AreDigitCharacters cs → digit_text (digits_read cs) ≡ cs
text-read [] p = refl
text-read (c ∷ cs) p =
    let low : 48 ≤ c = p.0.0 in
    let first : c - 48 + 48 ≡ c = omega arith in
    let rest : digit_text (digits_read cs) ≡ cs = text-read cs p.1 in
    cc

pub read-text : (ds : List ℕ) → digits_read (digit_text ds) ≡ ds
read-text [] = refl
read-text (d ∷ ds) =
    let first : d + 48 - 48 ≡ d = omega arith in
    let rest : digits_read (digit_text ds) ≡ ds = read-text ds in
    cc

pub text-characters : (ds : List ℕ) → AreDigits ds → AreDigitCharacters (digit_text ds)
text-characters [] p = tt
text-characters (d ∷ ds) p = let small : d < 10 = p.0 in ((omega arith, omega arith), text-characters ds p.1)

last-next : (c d : ℕ) (cs : List ℕ) → get_or (c ∷ d ∷ cs) (length (c ∷ d ∷ cs) - 1) 0 ≡ get_or (d ∷ cs) (length (d ∷ cs) - 1) 0
last-next c d cs = let step : length (c ∷ d ∷ cs) - 1 ≡ suc (length (d ∷ cs) - 1) = omega arith in ap (λ k. get_or (c ∷ d ∷ cs) k 0) step

pub ends-test : (cs : List ℕ) → AreDigitCharacters cs → 0 < length cs → ((not (nat_eq (get_or cs (length cs - 1) 0) 48)) ≡ true) ↔ EndsAboveZero (digits_read cs)
ends-test [] p h = absurd (omega arith)
ends-test (c ∷ []) p h =
    let low : 48 ≤ c = p.0.0 in
    elim (cases_eq c 48) [
      | inl e ↦ (λ t. absurd (differ (sym (ap not (eq-eqb c 48 e)) ∙ t)), λ n. absurd (n (omega arith)))
      | inr n ↦ (λ t e. n (omega arith), λ t. ap not (ne_eqb c 48 n))
    ]
  where
    differ : false ≡ true → ⊥
    differ e = cc
ends-test (c ∷ d ∷ cs) p h =
    let P : ℕ → Type 0 = λ k. ((not (nat_eq k 48)) ≡ true) ↔ EndsAboveZero (digits_read (d ∷ cs)) in
    subst P (sym (last-next c d cs)) (ends-test (d ∷ cs) p.1 (omega arith))

pub canonical_from : (w f : List ℕ) (b : Bool) → AreDigitCharacters w → AreDigitCharacters f → 0 < length w + length f → length w + length f ≤ 18 → BeginsAboveZero (digits_read w) → ((b ≡ true) ↔ EndsAboveZero (digits_read f)) → (b ≡ true) ↔ AreCanonical (digits_read w) (digits_read f)
canonical_from w f b p q some limit first last = (
  λ t. record {
    whole_digits = read-digits w p;
    fraction_digits = read-digits f q;
    first = first;
    last = last.0 t;
    some = omega (arith, length-map w (λ c. c - 48), length-map f (λ c. c - 48));
    limit = omega (arith, length-map w (λ c. c - 48), length-map f (λ c. c - 48));
  },
  λ c. last.1 c.last,
)

-- digits and then none, in one way
pub one-split : (a b r q : List ℕ) → AreDigitCharacters a → AreDigitCharacters b → BeginsWithNoDigit r → BeginsWithNoDigit q → a ++ r ≡ b ++ q → (a ≡ b) × (r ≡ q)
one-split [] [] r q p s n m e = (refl, e)
one-split [] (d ∷ b) [] q p s n m e = cc
one-split [] (d ∷ b) (c ∷ r) q p s n m e = let first : d ≡ c = cc in absurd (n (omega (arith, s.0.0), omega (arith, s.0.1)))
one-split (c ∷ a) [] r [] p s n m e = cc
one-split (c ∷ a) [] r (d ∷ q) p s n m e = let first : c ≡ d = cc in absurd (m (omega (arith, p.0.0), omega (arith, p.0.1)))
one-split (c ∷ a) (d ∷ b) r q p s n m e =
    let first : c ≡ d = cc in
    let others : a ++ r ≡ b ++ q = cc in
    let rest = one-split a b r q p.1 s.1 n m others in
    let same : a ≡ b = rest.0 in
    (cc, rest.1)

pub point-text : (cs fraction : List ℕ) (c : ℕ) → AreDigitCharacters cs → fraction ≡ cs ++ [] → 0 < length fraction → c ≡ 46 → c ∷ fraction ≡ fraction_text (digits_read cs)
point-text [] fraction c p e h k = absurd (omega (arith, ap length e))
point-text (d ∷ cs) fraction c p e h k =
    let digits : digit_text (digits_read (d ∷ cs)) ≡ d ∷ cs = text-read (d ∷ cs) p in
    let whole : fraction ≡ d ∷ cs = e ∙ append-nil (d ∷ cs) in
    cc

pub no-point : (c : ℕ) (fraction a r ds : List ℕ) → AreDigitCharacters a → BeginsWithNoDigit r → 0 < length r → fraction ≡ a ++ r → AreDigits ds → c ∷ fraction ≡ fraction_text ds → ⊥
no-point c fraction a r [] p n h e q k = let differ : c ∷ fraction ≡ [] = k in cc
no-point c fraction a r (d ∷ ds) p n h e q k =
    let text : fraction ≡ digit_text (d ∷ ds) = cc in
    let parts = one-split a (digit_text (d ∷ ds)) r [] p (text-characters (d ∷ ds) q) n tt (sym e ∙ text ∙ sym (append-nil (digit_text (d ∷ ds)))) in
    absurd (omega (arith, ap length parts.1))

fraction-begins : (ds : List ℕ) → BeginsWithNoDigit (fraction_text ds)
fraction-begins [] = tt
fraction-begins (d ∷ ds) = λ h. let low : 48 ≤ 46 = h.0 in absurd (omega arith)

pub one-fraction : (ds es : List ℕ) → fraction_text ds ≡ fraction_text es → ds ≡ es
one-fraction [] [] e = refl
one-fraction [] (d ∷ es) e = cc
one-fraction (d ∷ ds) [] e = cc
one-fraction (d ∷ ds) (c ∷ es) e =
    let texts : digit_text (d ∷ ds) ≡ digit_text (c ∷ es) = cc in
    sym (read-text (d ∷ ds)) ∙ ap digits_read texts ∙ read-text (c ∷ es)

no-sign : (w f rest : List ℕ) → AreDigits w → digit_text w ++ fraction_text f ≡ 45 ∷ rest → ⊥
no-sign [] [] rest p e = cc
no-sign [] (d ∷ f) rest p e = let first : 46 ≡ 45 = cc in absurd (eqb-false 46 45 refl first)
no-sign (d ∷ w) f rest p e = let first : d + 48 ≡ 45 = cc in absurd (omega arith)

one-sign : (m n : Bool) (u w f : List ℕ) → (m ≡ false → (rest : List ℕ) → u ≡ 45 ∷ rest → ⊥) → AreDigits w → sign_text m ++ u ≡ sign_text n ++ (digit_text w ++ fraction_text f) → (m ≡ n) × (u ≡ digit_text w ++ fraction_text f)
one-sign true true u w f plain p e = (refl, let same : u ≡ digit_text w ++ fraction_text f = cc in same)
one-sign true false u w f plain p e = absurd (no-sign w f u p (sym e))
one-sign false true u w f plain p e = absurd (plain refl (digit_text w ++ fraction_text f) e)
one-sign false false u w f plain p e = (refl, e)

pub record SameParts (m n : Bool) (a b w f : List ℕ) : Type 0 where
  pub sign : m ≡ n
  pub whole : digits_read a ≡ w
  pub rest : b ≡ fraction_text f

-- a text taken apart, and a text put together
pub one-text : (text u a r : List ℕ) (m n : Bool) (w f : List ℕ) → text ≡ sign_text m ++ u → (m ≡ false → (rest : List ℕ) → u ≡ 45 ∷ rest → ⊥) → u ≡ a ++ r → AreDigitCharacters a → BeginsWithNoDigit r → AreDigits w → text ≡ number_text n w f → SameParts m n a r w f
one-text text u a r m n w f e plain split p q digits k =
    let sign = one-sign m n u w f plain digits (sym e ∙ k ∙ append_assoc (sign_text n) (digit_text w) (fraction_text f)) in
    let parts = one-split a (digit_text w) r (fraction_text f) p (text-characters w digits) q (fraction-begins f) (sym split ∙ sign.1) in
    record { sign = sign.0; whole = ap digits_read parts.0 ∙ read-text w; rest = parts.1 }
