-- No item begins another, and each stands for one byte.
use Rattle.std.proofs.Common.{◌≡◌, ◌⊎◌, ℕ, ◌+◌, ◌/◌, ◌%◌, ◌<◌, ◌≤◌, List, [], ◌∷◌, ◌++◌, refl, sym, ap, ◌∙◌, inl, inr, arith}
use Rattle.std.specs.Prelude.{◌==◌, if◌then◌else◌}
use Rattle.std.proofs.lemmas.Bool.{cases_lt, lt-ltb, le-ltb, eq-eqb}
use Rattle.global_text.specs.Numbers.{BeginsOtherwise}
use Rattle.global_text.specs.Strings.{hex_digit, IsPlain, IsItem, NoItem, IsLineEnd}

hex-low : (n : ℕ) → n < 10 → hex_digit n ≡ n + 48
hex-low n h = ap (λ b. if b then n + 48 else n + 87) (lt-ltb n 10 h)

hex-high : (n : ℕ) → 10 ≤ n → hex_digit n ≡ n + 87
hex-high n h = ap (λ b. if b then n + 48 else n + 87) (le-ltb n 10 h)

one-hex : (m n : ℕ) → m < 16 → n < 16 → hex_digit m ≡ hex_digit n → m ≡ n
one-hex m n h k e = elim (cases_lt m 10) [
  | inl p ↦ elim (cases_lt n 10) [
    | inl q ↦ omega (arith, e, hex-low m p, hex-low n q)
    | inr q ↦ omega (arith, e, hex-low m p, hex-high n q)
  ]
  | inr p ↦ elim (cases_lt n 10) [
    | inl q ↦ omega (arith, e, hex-high m p, hex-low n q)
    | inr q ↦ omega (arith, e, hex-high m p, hex-high n q)
  ]
]

no-backslash : (n : ℕ) → n < 16 → 92 ≡ hex_digit n → ⊥
no-backslash n h e = elim (cases_lt n 10) [
  | inl p ↦ absurd (omega (arith, e, hex-low n p))
  | inr p ↦ absurd (omega (arith, e, hex-high n p))
]

-- the byte for which the first item of a text stands, by how the text begins, and what follows the item
abbrev pub Begins : ℕ → List ℕ → List ℕ → Type 0
Begins b text rest =
    ((b ≡ 34) × (text ≡ 34 ∷ 34 ∷ rest))
    ⊎ (((b ≡ 92) × (text ≡ 92 ∷ 92 ∷ rest))
    ⊎ (((b < 256) × (text ≡ 92 ∷ hex_digit (b / 16) ∷ hex_digit (b % 16) ∷ rest))
    ⊎ (IsPlain b × (text ≡ b ∷ rest))))

begins : (b : ℕ) (item rest text : List ℕ) → IsItem b item → text ≡ item ++ rest → Begins b text rest
begins b item rest text (inl (n, e)) k = inl (n, k ∙ ap (λ t. t ++ rest) e)
begins b item rest text (inr (inl (n, e))) k = inr (inl (n, k ∙ ap (λ t. t ++ rest) e))
begins b item rest text (inr (inr (inl (n, e)))) k = inr (inr (inl (n, k ∙ ap (λ t. t ++ rest) e)))
begins b item rest text (inr (inr (inr (n, e)))) k = inr (inr (inr (n, k ∙ ap (λ t. t ++ rest) e)))

-- two lists whose heads differ
pub apart : (c d : ℕ) (text x y : List ℕ) → text ≡ c ∷ x → text ≡ d ∷ y → (c ≡ d → ⊥) → ⊥
apart c d text x y e k n = let h : c ≡ d = cc in n h

one-beginning : (b c : ℕ) (text x y : List ℕ) → Begins b text x → Begins c text y → (b ≡ c) × (x ≡ y)
one-beginning b c text x y (inl (n, e)) (inl (m, k)) = (cc, cc)
one-beginning b c text x y (inl (n, e)) (inr (inl (m, k))) = absurd (apart 34 92 text (34 ∷ x) (92 ∷ y) e k (λ h. omega arith))
one-beginning b c text x y (inl (n, e)) (inr (inr (inl (m, k)))) = absurd (apart 34 92 text (34 ∷ x) (hex_digit (c / 16) ∷ hex_digit (c % 16) ∷ y) e k (λ h. omega arith))
one-beginning b c text x y (inl (n, e)) (inr (inr (inr (m, k)))) = absurd (apart 34 c text (34 ∷ x) y e k (λ h. m.1 (sym h)))
one-beginning b c text x y (inr (inl (n, e))) (inl (m, k)) = absurd (apart 92 34 text (92 ∷ x) (34 ∷ y) e k (λ h. omega arith))
one-beginning b c text x y (inr (inl (n, e))) (inr (inl (m, k))) = (cc, cc)
one-beginning b c text x y (inr (inl (n, e))) (inr (inr (inl (m, k)))) = let h : 92 ≡ hex_digit (c / 16) = cc in absurd (no-backslash (c / 16) (omega arith) h)
one-beginning b c text x y (inr (inl (n, e))) (inr (inr (inr (m, k)))) = absurd (apart 92 c text (92 ∷ x) y e k (λ h. m.2 (sym h)))
one-beginning b c text x y (inr (inr (inl (n, e)))) (inl (m, k)) = absurd (apart 92 34 text (hex_digit (b / 16) ∷ hex_digit (b % 16) ∷ x) (34 ∷ y) e k (λ h. omega arith))
one-beginning b c text x y (inr (inr (inl (n, e)))) (inr (inl (m, k))) = let h : 92 ≡ hex_digit (b / 16) = cc in absurd (no-backslash (b / 16) (omega arith) h)
one-beginning b c text x y (inr (inr (inl (n, e)))) (inr (inr (inl (m, k)))) =
    let high : hex_digit (b / 16) ≡ hex_digit (c / 16) = cc in
    let low : hex_digit (b % 16) ≡ hex_digit (c % 16) = cc in
    let first : b / 16 ≡ c / 16 = one-hex (b / 16) (c / 16) (omega arith) (omega arith) high in
    let second : b % 16 ≡ c % 16 = one-hex (b % 16) (c % 16) (omega arith) (omega arith) low in
    (omega arith, cc)
one-beginning b c text x y (inr (inr (inl (n, e)))) (inr (inr (inr (m, k)))) = absurd (apart 92 c text (hex_digit (b / 16) ∷ hex_digit (b % 16) ∷ x) y e k (λ h. m.2 (sym h)))
one-beginning b c text x y (inr (inr (inr (n, e)))) (inl (m, k)) = absurd (apart b 34 text x (34 ∷ y) e k n.1)
one-beginning b c text x y (inr (inr (inr (n, e)))) (inr (inl (m, k))) = absurd (apart b 92 text x (92 ∷ y) e k n.2)
one-beginning b c text x y (inr (inr (inr (n, e)))) (inr (inr (inl (m, k)))) = absurd (apart b 92 text x (hex_digit (c / 16) ∷ hex_digit (c % 16) ∷ y) e k n.2)
one-beginning b c text x y (inr (inr (inr (n, e)))) (inr (inr (inr (m, k)))) = (cc, cc)

-- an item is found in one way
pub one-item : (b c : ℕ) (i j x y : List ℕ) → IsItem b i → IsItem c j → i ++ x ≡ j ++ y → (b ≡ c) × (x ≡ y)
one-item b c i j x y p q e = one-beginning b c (i ++ x) x y (begins b i x (i ++ x) p refl) (begins c j y (i ++ x) q e)

-- no item stands at a quote that isn't doubled
pub no-item-at-quote : (rest : List ℕ) → BeginsOtherwise (λ b. b == 34) rest → NoItem (34 ∷ rest)
no-item-at-quote rest n b item more p e = elim (begins b item more (34 ∷ rest) p e) [
  | inl (m, k) ↦ quoted rest more n (let same : rest ≡ 34 ∷ more = cc in same)
  | inr (inl (m, k)) ↦ apart 34 92 (34 ∷ rest) rest (92 ∷ more) refl k (λ h. omega arith)
  | inr (inr (inl (m, k))) ↦ apart 34 92 (34 ∷ rest) rest (hex_digit (b / 16) ∷ hex_digit (b % 16) ∷ more) refl k (λ h. omega arith)
  | inr (inr (inr (m, k))) ↦ apart 34 b (34 ∷ rest) rest more refl k (λ h. m.1 (sym h))
]
  where
    quoted : (rest more : List ℕ) → BeginsOtherwise (λ b. b == 34) rest → rest ≡ 34 ∷ more → ⊥
    quoted [] more n e = cc
    quoted (c ∷ rest) more n e = let h : c ≡ 34 = cc in n (eq-eqb c 34 h)

-- nor where the line ends
pub no-item-at-end : (rest : List ℕ) → IsLineEnd rest → NoItem rest
no-item-at-end [] end b item more p e = elim (begins b item more [] p e) [
  | inl (m, k) ↦ cc
  | inr (inl (m, k)) ↦ cc
  | inr (inr (inl (m, k))) ↦ cc
  | inr (inr (inr (m, k))) ↦ cc
]
no-item-at-end (c ∷ rest) end b item more p e = elim (begins b item more (c ∷ rest) p e) [
  | inl (m, k) ↦ let h : c ≡ 34 = cc in absurd (omega arith)
  | inr (inl (m, k)) ↦ let h : c ≡ 92 = cc in absurd (omega arith)
  | inr (inr (inl (m, k))) ↦ let h : c ≡ 92 = cc in absurd (omega arith)
  | inr (inr (inr (m, k))) ↦ let h : c ≡ b = cc in m.0 (sym h ∙ end)
]
