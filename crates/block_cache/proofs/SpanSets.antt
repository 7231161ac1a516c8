-- Lists as what they have.
use Rattle.std.proofs.Common.{◌≡◌, ◌≤◌, ◌+◌, ℕ, zero, suc, Bool, true, false, cond, ◌⊎◌, inl, inr, List, [], ◌∷◌, ◌++◌, filter, take, length, slice_get, Some, None, refl, ap, subst, ◌∙◌, arith}
use Rattle.std.specs.List.{AllByRecursion, find, list_any}
use Rattle.std.proofs.lemmas.Bool.{or_cases, or_parts}
use Rattle.block_cache.specs.Numbering.{Has}

module _ {X : Type 0} where
  pub has-left : (x : X) (xs ys : List X) → Has x xs → Has x (xs ++ ys)
  has-left x [] ys h = absurd h
  has-left x (z ∷ xs) ys h = elim h [ inl s ↦ inl s | inr g ↦ inr (has-left x xs ys g) ]

  pub has-right : (x : X) (xs ys : List X) → Has x ys → Has x (xs ++ ys)
  has-right x [] ys h = h
  has-right x (z ∷ xs) ys h = inr (has-right x xs ys h)

  pub has-cases : (x : X) (xs ys : List X) → Has x (xs ++ ys) → Has x xs ⊎ Has x ys
  has-cases x [] ys h = inr h
  has-cases x (z ∷ xs) ys h = elim h [
    | inl s ↦ inl (inl s)
    | inr g ↦ elim (has-cases x xs ys g) [ inl k ↦ inl (inr k) | inr k ↦ inr k ]
  ]

  pub has-all : (P : X → Type 0) (x : X) (xs : List X) → AllByRecursion P xs → Has x xs → P x
  has-all P x [] a h = absurd h
  has-all P x (z ∷ xs) a h = elim h [ inl s ↦ subst P s a.0 | inr g ↦ has-all P x xs a.1 g ]

  module _ (t : X → Bool) where
    apart : (x z : X) → z ≡ x → t z ≡ false → t x ≡ true → ⊥
    apart x z s p e = let f : t x ≡ false = subst (λ y. t y ≡ false) s p in cc

    pub has-filter-in : (x : X) (xs : List X) → Has x xs → t x ≡ true → Has x (filter t xs)
    has-filter-in x [] h e = absurd h
    has-filter-in x (z ∷ xs) h e = (elim (t z) as (λ b. t z ≡ b → Has x (cond b (z ∷ filter t xs) (filter t xs))) [
      | true ↦ λ p. elim h [ inl s ↦ inl s | inr g ↦ inr (has-filter-in x xs g e) ]
      | false ↦ λ p. elim h [ inl s ↦ absurd (apart x z s p e) | inr g ↦ has-filter-in x xs g e ]
    ]) refl

    pub has-filter-from : (x : X) (xs : List X) → Has x (filter t xs) → Has x xs × (t x ≡ true)
    has-filter-from x [] h = absurd h
    has-filter-from x (z ∷ xs) h = (elim (t z) as (λ b. t z ≡ b → Has x (cond b (z ∷ filter t xs) (filter t xs)) → Has x (z ∷ xs) × (t x ≡ true)) [
      | true ↦ λ p g. elim g [ inl s ↦ (inl s, subst (λ y. t y ≡ true) s p) | inr k ↦ let r = has-filter-from x xs k in (inr r.0, r.1) ]
      | false ↦ λ p g. let r = has-filter-from x xs g in (inr r.0, r.1)
    ]) refl h

    pub any-none : (x : X) (xs : List X) → list_any t xs ≡ false → Has x xs → t x ≡ false
    any-none x [] e h = absurd h
    any-none x (z ∷ xs) e h = let parts = or_parts (t z) (list_any t xs) e in elim h [ inl s ↦ subst (λ y. t y ≡ false) s parts.0 | inr g ↦ any-none x xs parts.1 g ]

    pub any-some : (xs : List X) → list_any t xs ≡ true → (x : X) × Has x xs × (t x ≡ true)
    any-some [] e = absurd (cc)
    any-some (z ∷ xs) e = elim (or_cases (t z) (list_any t xs) e) [
      | inl p ↦ (z, inl refl, p)
      | inr p ↦ let r = any-some xs p in (r.0, inr r.1, r.2)
    ]

    pub find-has : (x : X) (xs : List X) → find t xs ≡ Some x → Has x xs × (t x ≡ true)
    find-has x [] e = absurd (cc)
    find-has x (z ∷ xs) e = (elim (t z) as (λ b. t z ≡ b → cond b (Some z) (find t xs) ≡ Some x → Has x (z ∷ xs) × (t x ≡ true)) [
      | true ↦ λ p f. let same : z ≡ x = cc in (inl same, subst (λ y. t y ≡ true) same p)
      | false ↦ λ p f. let r = find-has x xs f in (inr r.0, r.1)
    ]) refl e

    pub has-find : (x : X) (xs : List X) → Has x xs → t x ≡ true → (z : X) × (find t xs ≡ Some z)
    has-find x [] h e = absurd h
    has-find x (z ∷ xs) h e = (elim (t z) as (λ b. t z ≡ b → (y : X) × (cond b (Some z) (find t xs) ≡ Some y)) [
      | true ↦ λ p. (z, refl)
      | false ↦ λ p. elim h [ inl s ↦ absurd (apart x z s p e) | inr g ↦ has-find x xs g e ]
    ]) refl

  -- short enough to be kept whole
  pub take-short : (k : ℕ) (xs : List X) → slice_get xs k ≡ None → take k xs ≡ xs
  take-short zero [] e = refl
  take-short (suc k) [] e = refl
  take-short zero (x ∷ xs) e = cc
  take-short (suc k) (x ∷ xs) e = ap (λ ys. x ∷ ys) (take-short k xs e)

  nothing : (xs : List X) → length xs ≤ 0 → xs ≡ []
  nothing [] h = refl
  nothing (x ∷ xs) h = absurd (omega arith)

  -- one more than is kept
  pub take-last : (k : ℕ) (xs : List X) (d : X) → slice_get xs k ≡ Some d → length xs ≤ k + 1 → xs ≡ take k xs ++ d ∷ []
  take-last zero [] d e h = cc
  take-last (suc k) [] d e h = cc
  take-last zero (x ∷ xs) d e h = let same : x ≡ d = cc in ap (λ ys. x ∷ ys) (nothing xs (omega arith)) ∙ ap (λ y. y ∷ []) same
  take-last (suc k) (x ∷ xs) d e h = ap (λ ys. x ∷ ys) (take-last k xs d e (omega arith))
