-- Whose spans hold a key, by how many there are.
use Rattle.std.proofs.Common.{◌≡◌, ◌≤◌, ◌<◌, ◌+◌, ◌-◌, ℕ, Bool, true, false, cond, nat_lt, List, [], ◌∷◌, ◌++◌, map, filter, length, get_or, Some, None, refl, sym, ap, ◌∙◌, arith, length-append}
use Rattle.std.specs.List.{find}
use Rattle.std.proofs.lemmas.List.Elements.{filter-append}
use Rattle.span_index.specs.declared.owned.Owned.{Owned}
use Rattle.span_index.specs.declared.numbered.Numbered.{Numbered}
use Rattle.span_index.specs.declared.found.Found.TheVariants.{Nowhere, Once, Often}
use Rattle.span_index.specs.SpanWords.{found_of, holds, in_order, owned_in, owned_of, put_in}
use Rattle.span_index.specs.Ranges.{IsRange, holds_it}
use Rattle.span_index.proofs.NumberLemmas.{numbered_passes, filter-owned_in}
use Rattle.span_index.proofs.LookLemmas.{range-first, range-none}
use Rattle.span_index.proofs.TakeLemmas.{range-length}

length-put_in : (x : Numbered) (ys : List Numbered) → length (put_in x ys) ≡ length ys + 1
length-put_in x [] = refl
length-put_in x (y ∷ ys) = elim (nat_lt y.number x.number) as (λ b. length (cond b (y ∷ put_in x ys) (x ∷ y ∷ ys)) ≡ length (y ∷ ys) + 1) [ true ↦ omega (arith, length-put_in x ys) | false ↦ omega arith ]

length-owned : (xs : List Numbered) → length (map owned_of xs) ≡ length xs
length-owned [] = refl
length-owned (x ∷ xs) = omega (arith, length-owned xs)

length-in_order : (xs : List Numbered) → length (in_order xs) ≡ length xs
length-in_order [] = refl
length-in_order (x ∷ xs) = omega (arith, length-put_in x (in_order xs), length-in_order xs)

found-often : (xs : List Owned) → 1 < length xs → found_of xs ≡ Often
found-often [] h = absurd (omega arith)
found-often (x ∷ []) h = absurd (omega arith)
found-often (x ∷ y ∷ ys) h = refl

found-once : (xs : List Numbered) (x : Numbered) (ys : List Numbered) → xs ≡ x ∷ ys → length xs ≤ 1 → found_of (owned_in xs) ≡ Once x.owner
found-once xs x [] e h = ap (λ zs. found_of (owned_in zs)) e
found-once xs x (y ∷ ys) e h = absurd (omega (arith, ap length e))

found-filter : (m : Numbered → Bool) (xs : List Numbered) (x : Numbered) → find m xs ≡ Some x → (ys : List Numbered) × (filter m xs ≡ x ∷ ys)
found-filter m [] x e = cc
found-filter m (z ∷ zs) x e = (elim (m z) as (λ b. cond b (Some z) (find m zs) ≡ Some x → (ys : List Numbered) × (cond b (z ∷ filter m zs) (filter m zs) ≡ x ∷ ys)) [
  | true ↦ λ f. let same : z ≡ x = cc in (filter m zs, ap (λ y. y ∷ filter m zs) same)
  | false ↦ λ f. found-filter m zs x f
]) e

found-nothing : (m : Numbered → Bool) (xs : List Numbered) → find m xs ≡ None → filter m xs ≡ []
found-nothing m [] e = refl
found-nothing m (z ∷ zs) e = (elim (m z) as (λ b. cond b (Some z) (find m zs) ≡ None → cond b (z ∷ filter m zs) (filter m zs) ≡ []) [ true ↦ λ f. cc | false ↦ λ f. found-nothing m zs f ]) e

module _ (key : List ℕ) (ordered others : List Numbered) (first last : ℕ) (range : IsRange (holds_it key) ordered first last) where
  abbrev all : List Numbered
  all = filter (holds_it key) (ordered ++ others)

  abbrev far : List Numbered
  far = filter (holds_it key) others

  all-length : length all ≡ (last - first) + length far
  all-length =
      let near = range-length (holds_it key) ordered first last range in
      ap length (filter-append (holds_it key) ordered others) ∙ omega (arith, near, length-append (filter (holds_it key) ordered) far)

  held : filter (holds key) (owned_in (ordered ++ others)) ≡ owned_in all
  held = filter-owned_in (holds key) (ordered ++ others)

  pub holder-often : 1 < (last - first) + length far → Often ≡ found_of (filter (holds key) (owned_in (ordered ++ others)))
  holder-often h = sym (ap found_of held ∙ found-often (owned_in all) (omega (arith, h, all-length, length-owned (in_order all), length-in_order all)))

  pub holder-near : (x : Numbered) → (last - first) + length far ≤ 1 → first < last → x ≡ get_or ordered first x → Once x.owner ≡ found_of (filter (holds key) (owned_in (ordered ++ others)))
  holder-near x h l e =
      let parts = filter-append (holds_it key) ordered others ∙ ap (λ ys. ys ++ far) (range-first (holds_it key) ordered first last range x l e) in
      sym (ap found_of held ∙ found-once all x _ parts (omega (arith, h, all-length)))

  none-near : last ≤ first → all ≡ far
  none-near h = filter-append (holds_it key) ordered others ∙ ap (λ ys. ys ++ far) (range-none (holds_it key) ordered first last range h)

  pub holder-far : (x : Numbered) → (last - first) + length far ≤ 1 → last ≤ first → find (holds_it key) others ≡ Some x → Once x.owner ≡ found_of (filter (holds key) (owned_in (ordered ++ others)))
  holder-far x h l e =
      let parts = found-filter (holds_it key) others x e in
      sym (ap found_of held ∙ found-once all x parts.0 (none-near l ∙ parts.1) (omega (arith, h, all-length)))

  pub holder-none : last ≤ first → find (holds_it key) others ≡ None → Nowhere ≡ found_of (filter (holds key) (owned_in (ordered ++ others)))
  holder-none l e = sym (ap found_of (held ∙ ap owned_in (none-near l ∙ found-nothing (holds_it key) others e)))

-- how many of all pass a test
pub length-kept : (t : Owned → Bool) (ordered others : List Numbered) → length (filter t (owned_in (ordered ++ others))) ≡ length (filter (numbered_passes t) ordered) + length (filter (numbered_passes t) others)
length-kept t ordered others =
    let kept = filter (numbered_passes t) (ordered ++ others) in
    ap length (filter-owned_in t (ordered ++ others))
    ∙ length-owned (in_order kept)
    ∙ length-in_order kept
    ∙ ap length (filter-append (numbered_passes t) ordered others)
    ∙ length-append (filter (numbered_passes t) ordered) (filter (numbered_passes t) others)
