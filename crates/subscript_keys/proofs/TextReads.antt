-- Reading a text in a key: what was read and what is left.
use Rattle.std.proofs.Common.{◌≡◌, ◌≢◌, ◌⊎◌, ℕ, ◌<◌, List, [], ◌∷◌, ◌++◌, length, refl, sym, ap, subst, ◌∙◌, inl, inr, arith, append_assoc}
use Rattle.std.proofs.lemmas.Bool.{cases_eq, eqb-false}
use Rattle.subscript_keys.specs.Key.{escaped}
use Rattle.subscript_keys.proofs.Orders.{escaped-zero, escaped-more}

escaped-append : (s t : List ℕ) → escaped (s ++ t) ≡ escaped s ++ escaped t
escaped-append [] t = refl
escaped-append (c ∷ s) t =
    let rest : escaped (s ++ t) ≡ escaped s ++ escaped t = escaped-append s t in
    elim (cases_eq c 0) [
      | inl e ↦ escaped-zero c (s ++ t) e ∙ ap (λ r. 0 ∷ 0xFF ∷ r) rest ∙ ap (λ r. r ++ escaped t) (sym (escaped-zero c s e))
      | inr n ↦ escaped-more c (s ++ t) n ∙ ap (λ r. c ∷ r) rest ∙ ap (λ r. r ++ escaped t) (sym (escaped-more c s n))
    ]

pub push-plain : (text after bytes rest : List ℕ) (c : ℕ) → c ≢ 0 → rest ≡ c ∷ after → escaped text ++ rest ≡ bytes → escaped (text ++ c ∷ []) ++ after ≡ bytes
push-plain text after bytes rest c n r e =
    ap (λ x. x ++ after) (escaped-append text (c ∷ []) ∙ ap (λ x. escaped text ++ x) (escaped-more c [] n))
    ∙ append_assoc (escaped text) (c ∷ []) after ∙ ap (λ x. escaped text ++ x) (sym r) ∙ e

pub push-zero : (text after tail bytes rest : List ℕ) (c d : ℕ) → c ≡ 0 → d ≡ 0xFF → rest ≡ c ∷ after → after ≡ d ∷ tail → escaped text ++ rest ≡ bytes → escaped (text ++ 0 ∷ []) ++ tail ≡ bytes
push-zero text after tail bytes rest c d z f r s e =
    let whole : rest ≡ 0 ∷ 0xFF ∷ tail = cc in
    ap (λ x. x ++ tail) (escaped-append text (0 ∷ []))
    ∙ append_assoc (escaped text) (0 ∷ 0xFF ∷ []) tail ∙ ap (λ x. escaped text ++ x) (sym whole) ∙ e

-- a text that begins like another one that ends
pub more-text : (s t r q : List ℕ) → escaped s ++ r ≡ escaped t ++ 0 ∷ 1 ∷ q → (u : List ℕ) × (r ≡ escaped u ++ 0 ∷ 1 ∷ q)
more-text [] t r q e = (t, e)
more-text (c ∷ s) [] r q e = elim (cases_eq c 0) [
  | inl z ↦ let f : 0 ∷ 0xFF ∷ (escaped s ++ r) ≡ 0 ∷ 1 ∷ q = ap (λ x. x ++ r) (sym (escaped-zero c s z)) ∙ e in let same : 0xFF ≡ 1 = cc in absurd (eqb-false 0xFF 1 refl same)
  | inr n ↦ let f : c ∷ (escaped s ++ r) ≡ 0 ∷ 1 ∷ q = ap (λ x. x ++ r) (sym (escaped-more c s n)) ∙ e in let same : c ≡ 0 = cc in absurd (n same)
]
more-text (c ∷ s) (d ∷ t) r q e = elim (cases_eq c 0) [
  | inl z ↦ elim (cases_eq d 0) [
    | inl y ↦ let f : 0 ∷ 0xFF ∷ (escaped s ++ r) ≡ 0 ∷ 0xFF ∷ (escaped t ++ 0 ∷ 1 ∷ q) = ap (λ x. x ++ r) (sym (escaped-zero c s z)) ∙ e ∙ ap (λ x. x ++ 0 ∷ 1 ∷ q) (escaped-zero d t y) in let rest : escaped s ++ r ≡ escaped t ++ 0 ∷ 1 ∷ q = cc in more-text s t r q rest
    | inr m ↦ let f : 0 ∷ 0xFF ∷ (escaped s ++ r) ≡ d ∷ (escaped t ++ 0 ∷ 1 ∷ q) = ap (λ x. x ++ r) (sym (escaped-zero c s z)) ∙ e ∙ ap (λ x. x ++ 0 ∷ 1 ∷ q) (escaped-more d t m) in let same : d ≡ 0 = cc in absurd (m same)
  ]
  | inr n ↦ elim (cases_eq d 0) [
    | inl y ↦ let f : c ∷ (escaped s ++ r) ≡ 0 ∷ 0xFF ∷ (escaped t ++ 0 ∷ 1 ∷ q) = ap (λ x. x ++ r) (sym (escaped-more c s n)) ∙ e ∙ ap (λ x. x ++ 0 ∷ 1 ∷ q) (escaped-zero d t y) in let same : c ≡ 0 = cc in absurd (n same)
    | inr m ↦ let f : c ∷ (escaped s ++ r) ≡ d ∷ (escaped t ++ 0 ∷ 1 ∷ q) = ap (λ x. x ++ r) (sym (escaped-more c s n)) ∙ e ∙ ap (λ x. x ++ 0 ∷ 1 ∷ q) (escaped-more d t m) in let rest : escaped s ++ r ≡ escaped t ++ 0 ∷ 1 ∷ q = cc in more-text s t r q rest
  ]
]

-- what follows a 00 in a text that ends
mark : (u after q : List ℕ) → 0 ∷ after ≡ escaped u ++ 0 ∷ 1 ∷ q → (x : ℕ) × (tail : List ℕ) × (after ≡ x ∷ tail) × ((x ≡ 1) ⊎ (x ≡ 0xFF))
mark [] after q e = (1, q, let same : after ≡ 1 ∷ q = cc in same, inl refl)
mark (c ∷ u) after q e = elim (cases_eq c 0) [
  | inl z ↦ let f : 0 ∷ after ≡ 0 ∷ 0xFF ∷ (escaped u ++ 0 ∷ 1 ∷ q) = e ∙ ap (λ x. x ++ 0 ∷ 1 ∷ q) (escaped-zero c u z) in (0xFF, escaped u ++ 0 ∷ 1 ∷ q, let same : after ≡ 0xFF ∷ (escaped u ++ 0 ∷ 1 ∷ q) = cc in same, inr refl)
  | inr n ↦ let f : 0 ∷ after ≡ c ∷ (escaped u ++ 0 ∷ 1 ∷ q) = e ∙ ap (λ x. x ++ 0 ∷ 1 ∷ q) (escaped-more c u n) in let same : c ≡ 0 = cc in absurd (n same)
]

some-left : (u q : List ℕ) → 0 < length (escaped u ++ 0 ∷ 1 ∷ q)
some-left [] q = omega arith
some-left (c ∷ u) q = elim (cases_eq c 0) [
  | inl z ↦ subst (λ (s : List ℕ). 0 < length (s ++ 0 ∷ 1 ∷ q)) (sym (escaped-zero c u z)) (omega arith)
  | inr n ↦ subst (λ (s : List ℕ). 0 < length (s ++ 0 ∷ 1 ∷ q)) (sym (escaped-more c u n)) (omega arith)
]

-- nothing left, and no end
pub no-end : (text rest bytes t q : List ℕ) → length rest ≡ 0 → escaped text ++ rest ≡ bytes → bytes ≡ escaped t ++ 0 ∷ 1 ∷ q → ⊥
no-end text rest bytes t q h e k =
    let more = more-text text t rest q (e ∙ k) in
    absurd (omega (arith, ap length more.1, some-left more.0 q))

-- a 00 that neither ends the text nor stands for one
pub no-mark : (text rest after bytes t q : List ℕ) (c : ℕ) → c ≡ 0 → rest ≡ c ∷ after → ((x : ℕ) (tail : List ℕ) → after ≡ x ∷ tail → (x ≢ 1) × (x ≢ 0xFF)) → escaped text ++ rest ≡ bytes → bytes ≡ escaped t ++ 0 ∷ 1 ∷ q → ⊥
no-mark text rest after bytes t q c z r not e k =
    let more = more-text text t rest q (e ∙ k) in
    let zero' : 0 ∷ after ≡ escaped more.0 ++ 0 ∷ 1 ∷ q = ap (λ x. x ∷ after) (sym z) ∙ sym r ∙ more.1 in
    let m = mark more.0 after q zero' in
    let n = not m.0 m.1 m.2 in
    elim m.3 [ inl one ↦ n.0 one | inr last ↦ n.1 last ]
