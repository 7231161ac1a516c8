-- How many bytes subscripts take in a key.
use Rattle.std.proofs.Common.{◌≡◌, ◌≢◌, ℕ, ◌+◌, ◌-◌, List, [], ◌∷◌, ◌++◌, length, map, ap, ◌∙◌, refl, ◌≤◌, inl, inr, arith, length-append}
use Rattle.std.specs.Prelude.{if◌then◌else◌}
use Rattle.std.proofs.lemmas.Bool.{cases_Bool, eq-eqb, ne_eqb}
use Rattle.std.proofs.lemmas.List.{length-map}
use Rattle.subscript_keys.specs.declared.decimal.Decimal.{Decimal}
use Rattle.subscript_keys.specs.declared.sub.Sub.{Sub}
use Rattle.subscript_keys.specs.declared.sub.Sub.TheVariants.{Num, Text}
use Rattle.global_text.specs.Nodes.{sub_size, subs_size}
use Rattle.subscript_keys.specs.Decimal.{digits}
use Rattle.subscript_keys.specs.Key.{escaped, negative_bytes, positive_bytes, decimal_bytes, text_bytes, sub_bytes, subs_bytes, HasEmpty}

pub text-length : (text : List ℕ) → length (text_bytes text) ≡ 3 + length (escaped text)
unfolding text_bytes
text-length text = omega (arith, length-append (escaped text) (0 ∷ 1 ∷ []))

pub number-length : (d : Decimal) → d.digits ≢ 0 → length (decimal_bytes d) ≡ 3 + length (digits d.digits)
unfolding decimal_bytes negative_bytes positive_bytes
number-length d n = ap (λ b. length (if b then 0x20 ∷ [] else (if d.negative then negative_bytes d.exponent (digits d.digits) else positive_bytes d.exponent (digits d.digits)))) (ne_eqb d.digits 0 n) ∙ elim (cases_Bool d.negative) [
  | inl t ↦ ap (λ b. length (if b then negative_bytes d.exponent (digits d.digits) else positive_bytes d.exponent (digits d.digits))) t ∙ omega (arith, length-append (map (λ x. 0x0A - x) (digits d.digits)) (0x0B ∷ []), length-map (digits d.digits) (λ x. 0x0A - x))
  | inr f ↦ ap (λ b. length (if b then negative_bytes d.exponent (digits d.digits) else positive_bytes d.exponent (digits d.digits))) f ∙ omega (arith, length-append (map (λ x. x + 1) (digits d.digits)) (0 ∷ []), length-map (digits d.digits) (λ x. x + 1))
]

pub zero-length : (d : Decimal) → d.digits ≡ 0 → length (decimal_bytes d) ≡ 1
unfolding decimal_bytes
zero-length d e = ap (λ b. length (if b then 0x20 ∷ [] else (if d.negative then negative_bytes d.exponent (digits d.digits) else positive_bytes d.exponent (digits d.digits)))) (eq-eqb d.digits 0 e)

-- a subscript more
pub subs-size : (subs : List Sub) (s : Sub) → subs_size (subs ++ s ∷ []) ≡ subs_size subs + sub_size s
subs-size [] s = omega arith
subs-size (t ∷ subs) s = omega (arith, subs-size subs s)

-- a subscript that isn't empty takes the bytes that it has in a key
pub full-sub : (s : Sub) → s ≢ Text [] → sub_size s ≡ length (sub_bytes s)
full-sub (Num number) n = refl
full-sub (Text []) n = absurd (n refl)
full-sub (Text (b ∷ text)) n = refl

-- so do subscripts of which none is empty
pub full-subs : (subs : List Sub) → (HasEmpty subs → ⊥) → subs_size subs ≡ length (subs_bytes subs)
full-subs [] n = refl
full-subs (s ∷ subs) n = omega (arith, full-sub s (λ e. n (inl e)), full-subs subs (λ some. n (inr some)), length-append (sub_bytes s) (subs_bytes subs))

low-sub : (s : Sub) → sub_size s ≤ length (sub_bytes s)
low-sub (Num number) = omega arith
low-sub (Text []) = omega arith
low-sub (Text (b ∷ text)) = omega arith

-- and others take no more
pub low-subs : (subs : List Sub) → subs_size subs ≤ length (subs_bytes subs)
low-subs [] = omega arith
low-subs (s ∷ subs) = omega (arith, low-sub s, low-subs subs, length-append (sub_bytes s) (subs_bytes subs))
