-- A number after its tag, taken apart in one way.
use Rattle.std.proofs.Common.{◌≡◌, ℕ, ◌+◌, ◌-◌, ◌<◌, ◌≤◌, Bool, true, false, List, [], ◌∷◌, ◌++◌, map, refl, sym, ap, ◌∙◌, inl, inr, arith, append_assoc}
use Rattle.std.specs.Prelude.{if◌then◌else◌}
use Rattle.std.proofs.lemmas.Bool.{ne_eqb, eqb-false}
use Rattle.subscript_keys.specs.declared.decimal.Decimal.{Decimal}
use Rattle.subscript_keys.specs.Decimal.{digits, plus, minus, AreDigits, IsShort, IsDecimal}
use Rattle.subscript_keys.specs.Key.{decimal_bytes, positive_bytes, negative_bytes, ArePlaces, BeginsWithNoPlace, IsPositive, IsNegative}
use Rattle.subscript_keys.proofs.Fractions.{digits-are}
use Rattle.subscript_keys.proofs.NumberForms.{short-above, zero-null}

pub one-places : (a b r q : List ℕ) → ArePlaces a → ArePlaces b → BeginsWithNoPlace r → BeginsWithNoPlace q → a ++ r ≡ b ++ q → (a ≡ b) × (r ≡ q)
one-places [] [] r q p s n m e = (refl, e)
one-places [] (d ∷ b) [] q p s n m e = cc
one-places [] (d ∷ b) (c ∷ r) q p s n m e = let first : d ≡ c = cc in absurd (n (omega (arith, s.0.0), omega (arith, s.0.1)))
one-places (c ∷ a) [] r [] p s n m e = cc
one-places (c ∷ a) [] r (d ∷ q) p s n m e = let first : c ≡ d = cc in absurd (m (omega (arith, p.0.0), omega (arith, p.0.1)))
one-places (c ∷ a) (d ∷ b) r q p s n m e =
    let first : c ≡ d = cc in
    let others : a ++ r ≡ b ++ q = cc in
    let rest = one-places a b r q p.1 s.1 n m others in
    let same : a ≡ b = rest.0 in
    (cc, rest.1)

raised-places : (ds : List ℕ) → AreDigits ds → ArePlaces (map (λ n. n + 1) ds)
raised-places [] p = tt
raised-places (d ∷ ds) p = let small : d < 10 = p.0 in ((omega arith, omega arith), raised-places ds p.1)

lowered-places : (ds : List ℕ) → AreDigits ds → ArePlaces (map (λ n. 10 - n) ds)
lowered-places [] p = tt
lowered-places (d ∷ ds) p = let small : d < 10 = p.0 in ((omega arith, omega arith), lowered-places ds p.1)

short-bytes : (d : Decimal) (negative : Bool) → d.negative ≡ negative → IsShort d → decimal_bytes d ≡ (if negative then negative_bytes d.exponent (digits d.digits) else positive_bytes d.exponent (digits d.digits))
unfolding decimal_bytes
short-bytes d negative e s =
    ap (λ b. if b then 0x20 ∷ [] else (if d.negative then negative_bytes d.exponent (digits d.digits) else positive_bytes d.exponent (digits d.digits))) (ne_eqb d.digits 0 (λ z. absurd (omega (arith, short-above d s))))
    ∙ ap (λ b. if b then negative_bytes d.exponent (digits d.digits) else positive_bytes d.exponent (digits d.digits)) e

pub record PlacesRead (d : Decimal) (sign : Bool) (exponent : ℕ) (places : List ℕ) (end : ℕ) (bytes rest : List ℕ) : Type 0 where
  pub short : IsShort d
  pub negative : d.negative ≡ sign
  pub spelled : bytes ≡ exponent ∷ (places ++ end ∷ rest)

positive-at : (d : Decimal) (sign : Bool) (bytes rest : List ℕ) → d.negative ≡ sign → IsShort d → 0x30 ∷ bytes ≡ decimal_bytes d ++ rest → PlacesRead d false (plus 0x40 d.exponent) (map (λ n. n + 1) (digits d.digits)) 0 bytes rest
unfolding positive_bytes negative_bytes
positive-at d true bytes rest e s k =
    let whole : 0x30 ∷ bytes ≡ 0x10 ∷ ((minus 0x40 d.exponent ∷ map (λ n. 10 - n) (digits d.digits) ++ 11 ∷ []) ++ rest) = k ∙ ap (λ b. b ++ rest) (short-bytes d true e s) in
    let first : 0x30 ≡ 0x10 = cc in absurd (eqb-false 0x30 0x10 refl first)
positive-at d false bytes rest e s k =
    let whole : 0x30 ∷ bytes ≡ 0x30 ∷ (plus 0x40 d.exponent ∷ ((map (λ n. n + 1) (digits d.digits) ++ 0 ∷ []) ++ rest)) = k ∙ ap (λ b. b ++ rest) (short-bytes d false e s) in
    let behind : bytes ≡ plus 0x40 d.exponent ∷ ((map (λ n. n + 1) (digits d.digits) ++ 0 ∷ []) ++ rest) = cc in
    record { short = s; negative = e; spelled = behind ∙ ap (λ b. plus 0x40 d.exponent ∷ b) (append_assoc (map (λ n. n + 1) (digits d.digits)) (0 ∷ []) rest) }

pub positive-stands : (d : Decimal) (bytes rest : List ℕ) → IsDecimal d → 0x30 ∷ bytes ≡ decimal_bytes d ++ rest → PlacesRead d false (plus 0x40 d.exponent) (map (λ n. n + 1) (digits d.digits)) 0 bytes rest
positive-stands d bytes rest (inl z) k =
    let whole : 0x30 ∷ bytes ≡ 0x20 ∷ rest = k ∙ ap (λ b. b ++ rest) (zero-null d z).bytes in
    let first : 0x30 ≡ 0x20 = cc in absurd (eqb-false 0x30 0x20 refl first)
positive-stands d bytes rest (inr s) k = positive-at d d.negative bytes rest refl s k

negative-at : (d : Decimal) (sign : Bool) (bytes rest : List ℕ) → d.negative ≡ sign → IsShort d → 0x10 ∷ bytes ≡ decimal_bytes d ++ rest → PlacesRead d true (minus 0x40 d.exponent) (map (λ n. 10 - n) (digits d.digits)) 11 bytes rest
unfolding positive_bytes negative_bytes
negative-at d false bytes rest e s k =
    let whole : 0x10 ∷ bytes ≡ 0x30 ∷ ((plus 0x40 d.exponent ∷ map (λ n. n + 1) (digits d.digits) ++ 0 ∷ []) ++ rest) = k ∙ ap (λ b. b ++ rest) (short-bytes d false e s) in
    let first : 0x10 ≡ 0x30 = cc in absurd (eqb-false 0x10 0x30 refl first)
negative-at d true bytes rest e s k =
    let whole : 0x10 ∷ bytes ≡ 0x10 ∷ (minus 0x40 d.exponent ∷ ((map (λ n. 10 - n) (digits d.digits) ++ 11 ∷ []) ++ rest)) = k ∙ ap (λ b. b ++ rest) (short-bytes d true e s) in
    let behind : bytes ≡ minus 0x40 d.exponent ∷ ((map (λ n. 10 - n) (digits d.digits) ++ 11 ∷ []) ++ rest) = cc in
    record { short = s; negative = e; spelled = behind ∙ ap (λ b. minus 0x40 d.exponent ∷ b) (append_assoc (map (λ n. 10 - n) (digits d.digits)) (11 ∷ []) rest) }

pub negative-stands : (d : Decimal) (bytes rest : List ℕ) → IsDecimal d → 0x10 ∷ bytes ≡ decimal_bytes d ++ rest → PlacesRead d true (minus 0x40 d.exponent) (map (λ n. 10 - n) (digits d.digits)) 11 bytes rest
negative-stands d bytes rest (inl z) k =
    let whole : 0x10 ∷ bytes ≡ 0x20 ∷ rest = k ∙ ap (λ b. b ++ rest) (zero-null d z).bytes in
    let first : 0x10 ≡ 0x20 = cc in absurd (eqb-false 0x10 0x20 refl first)
negative-stands d bytes rest (inr s) k = negative-at d d.negative bytes rest refl s k

no-zero-place : (rest : List ℕ) → BeginsWithNoPlace (0 ∷ rest)
no-zero-place rest = λ h. let low : 1 ≤ 0 = h.0 in absurd (omega arith)

no-last-place : (rest : List ℕ) → BeginsWithNoPlace (11 ∷ rest)
no-last-place rest = λ h. let high : 11 ≤ 10 = h.1 in absurd (omega arith)

same-heads : (a b : ℕ) (s t : List ℕ) → a ∷ s ≡ b ∷ t → (a ≡ b) × (s ≡ t)
same-heads a b s t e = let first : a ≡ b = cc in let rest : s ≡ t = cc in (first, rest)

-- what was split is what stands there
pub positive-parts : (d : Decimal) (e : ℕ) (places after tail bytes rest : List ℕ) → IsDecimal d → 0x30 ∷ bytes ≡ decimal_bytes d ++ rest → bytes ≡ e ∷ tail → tail ≡ places ++ after → ArePlaces places → BeginsWithNoPlace after → IsPositive d e places × (after ≡ 0 ∷ rest)
positive-parts d e places after tail bytes rest p k split cut q n =
    let s = positive-stands d bytes rest p k in
    let heads = same-heads (plus 0x40 d.exponent) e (map (λ x. x + 1) (digits d.digits) ++ 0 ∷ rest) tail (sym s.spelled ∙ split) in
    let parts = one-places (map (λ x. x + 1) (digits d.digits)) places (0 ∷ rest) after (raised-places (digits d.digits) (digits-are d.digits)) q (no-zero-place rest) n (heads.1 ∙ cut) in
    (record { short = s.short; sign = s.negative; exponent_byte = heads.0; digit_bytes = parts.0 }, sym parts.1)

pub negative-parts : (d : Decimal) (e : ℕ) (places after tail bytes rest : List ℕ) → IsDecimal d → 0x10 ∷ bytes ≡ decimal_bytes d ++ rest → bytes ≡ e ∷ tail → tail ≡ places ++ after → ArePlaces places → BeginsWithNoPlace after → IsNegative d e places × (after ≡ 11 ∷ rest)
negative-parts d e places after tail bytes rest p k split cut q n =
    let s = negative-stands d bytes rest p k in
    let heads = same-heads (minus 0x40 d.exponent) e (map (λ x. 10 - x) (digits d.digits) ++ 11 ∷ rest) tail (sym s.spelled ∙ split) in
    let parts = one-places (map (λ x. 10 - x) (digits d.digits)) places (11 ∷ rest) after (lowered-places (digits d.digits) (digits-are d.digits)) q (no-last-place rest) n (heads.1 ∙ cut) in
    (record { short = s.short; sign = s.negative; exponent_byte = heads.0; digit_bytes = parts.0 }, sym parts.1)

pub positive-joined : (d : Decimal) (e end : ℕ) (places after tail bytes rest : List ℕ) → IsPositive d e places → bytes ≡ e ∷ tail → tail ≡ places ++ after → after ≡ end ∷ rest → end ≡ 0 → 0x30 ∷ bytes ≡ decimal_bytes d ++ rest
unfolding positive_bytes
positive-joined d e end places after tail bytes rest p split cut cut' z =
    let ending : after ≡ 0 ∷ rest = cc in
    ap (λ b. 0x30 ∷ b) (split ∙ ap (λ t. e ∷ t) (cut ∙ ap (λ t. places ++ t) ending)
    ∙ ap (λ x. x ∷ (places ++ 0 ∷ rest)) (sym p.exponent_byte) ∙ ap (λ s. plus 0x40 d.exponent ∷ (s ++ 0 ∷ rest)) (sym p.digit_bytes)
    ∙ ap (λ t. plus 0x40 d.exponent ∷ t) (sym (append_assoc (map (λ n. n + 1) (digits d.digits)) (0 ∷ []) rest)))
    ∙ ap (λ b. b ++ rest) (sym (short-bytes d false p.sign p.short))

pub negative-joined : (d : Decimal) (e end : ℕ) (places after tail bytes rest : List ℕ) → IsNegative d e places → bytes ≡ e ∷ tail → tail ≡ places ++ after → after ≡ end ∷ rest → end ≡ 11 → 0x10 ∷ bytes ≡ decimal_bytes d ++ rest
unfolding negative_bytes
negative-joined d e end places after tail bytes rest p split cut cut' z =
    let ending : after ≡ 11 ∷ rest = cc in
    ap (λ b. 0x10 ∷ b) (split ∙ ap (λ t. e ∷ t) (cut ∙ ap (λ t. places ++ t) ending)
    ∙ ap (λ x. x ∷ (places ++ 11 ∷ rest)) (sym p.exponent_byte) ∙ ap (λ s. minus 0x40 d.exponent ∷ (s ++ 11 ∷ rest)) (sym p.digit_bytes)
    ∙ ap (λ t. minus 0x40 d.exponent ∷ t) (sym (append_assoc (map (λ n. 10 - n) (digits d.digits)) (11 ∷ []) rest)))
    ∙ ap (λ b. b ++ rest) (sym (short-bytes d true p.sign p.short))
