-- What is printed is read back.
use Rattle.std.proofs.Common.{◌≡◌, ℕ, ◌/◌, ◌%◌, ◌<◌, ◌≤◌, true, List, [], ◌∷◌, ◌++◌, refl, sym, ap, subst, ◌∙◌, inl, inr, arith, append_assoc}
use Rattle.std.specs.Prelude.{◌==◌, ◌&&◌, if◌then◌else◌, nat_le, codes}
use Rattle.std.specs.List.{flat_map}
use Rattle.std.proofs.lemmas.Bool.{cases_eq, cases_Bool, eq-eqb, ne_eqb, and_parts, leb-true, eqb-false, false≢true}
use Rattle.subscript_keys.specs.Decimal.{IsNumberText}
use Rattle.subscript_keys.specs.Key.{AreBytes}
use Rattle.global_text.specs.Numbers.{BeginsOtherwise, is_number_byte}
use Rattle.global_text.specs.Strings.{hex_digit, IsItem, AreItems, ReadsString}
use Rattle.global_text.specs.Printed.{quoted_byte, quoted, IsPrinted}
use Rattle.global_text.proofs.NumberSpellings.{number-of-any}
use Rattle.global_text.proofs.NumberTokens.{number-bytes}

-- a byte in hexadecimal
abbrev coded : ℕ → List ℕ
coded b = 92 ∷ hex_digit (b / 16) ∷ hex_digit (b % 16) ∷ []

-- a byte that is neither a quote nor a backslash
abbrev third : ℕ → List ℕ
third b = if nat_le 32 b && nat_le b 126 then b ∷ [] else coded b

-- a byte that is no quote
abbrev other : ℕ → List ℕ
other b = if b == 92 then 92 ∷ 92 ∷ [] else third b

-- a printed byte is an item for it
byte-is : (b : ℕ) → b < 256 → IsItem b (quoted_byte b)
byte-is b small = elim (cases_eq b 34) [
  | inl e ↦ inl (e, ap (λ t. if t then 34 ∷ 34 ∷ [] else other b) (eq-eqb b 34 e))
  | inr n ↦ subst (λ (x : List ℕ). IsItem b x) (sym (ap (λ t. if t then 34 ∷ 34 ∷ [] else other b) (ne_eqb b 34 n))) (elim (cases_eq b 92) [
    | inl e ↦ inr (inl (e, ap (λ t. if t then 92 ∷ 92 ∷ [] else third b) (eq-eqb b 92 e)))
    | inr m ↦ subst (λ (x : List ℕ). IsItem b x) (sym (ap (λ t. if t then 92 ∷ 92 ∷ [] else third b) (ne_eqb b 92 m))) (elim (cases_Bool (nat_le 32 b && nat_le b 126)) [
      | inl t ↦
          let low : 32 ≤ b = leb-true 32 b (and_parts (nat_le 32 b) (nat_le b 126) t).0 in
          inr (inr (inr ((λ e. absurd (omega arith), n, m), ap (λ t. if t then b ∷ [] else coded b) t)))
      | inr f ↦ inr (inr (inl (small, ap (λ t. if t then b ∷ [] else coded b) f)))
    ])
  ])
]

items-are : (s : List ℕ) → AreBytes s → AreItems s (flat_map quoted_byte s)
items-are [] p = refl
items-are (b ∷ s) p = (quoted_byte b, flat_map quoted_byte s, byte-is b p.0, items-are s p.1, refl)

-- a string in quotes, which no quote follows
pub quoted-read : (s rest : List ℕ) → AreBytes s → BeginsOtherwise (λ b. b == 34) rest → ReadsString s (quoted s ++ rest) rest
quoted-read s rest p n = inr ((flat_map quoted_byte s, items-are s p, ap (λ x. 34 ∷ x) (append_assoc (flat_map quoted_byte s) (34 ∷ []) rest)), n)

-- a printed string, which neither a quote nor a byte of a number follows
pub printed-read : (s text rest : List ℕ) → IsPrinted s text → AreBytes s → BeginsOtherwise (λ b. b == 34) rest → BeginsOtherwise is_number_byte rest → ReadsString s (text ++ rest) rest
printed-read s text rest (inl (is, e)) p n m = inl (number-of-any s is, ap (λ t. t ++ rest) e, m)
printed-read s text rest (inr (is, e)) p n m = subst (λ (t : List ℕ). ReadsString s (t ++ rest) rest) (sym e) (quoted-read s rest p n)

-- a string has one printed spelling
pub one-printed : (s a b : List ℕ) → IsPrinted s a → IsPrinted s b → a ≡ b
one-printed s a b (inl (is, e)) (inl (it, k)) = e ∙ sym k
one-printed s a b (inl (is, e)) (inr (not, k)) = absurd (not is)
one-printed s a b (inr (not, e)) (inl (it, k)) = absurd (not it)
one-printed s a b (inr (not, e)) (inr (none, k)) = e ∙ sym k

-- and it is never the word for no value
pub never-none : (s : List ℕ) → IsPrinted s (codes "none") → ⊥
never-none s (inl (is, e)) =
    let first : is_number_byte 110 ≡ true = (number-bytes (codes "none") (number-of-any (codes "none") (subst IsNumberText (sym e) is))).0 in
    false≢true first
never-none s (inr (not, e)) = let first : 110 ≡ 34 = cc in absurd (eqb-false 110 34 refl first)
