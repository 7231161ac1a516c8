-- How often a test finds something in a list that goes on.
use Rattle.std.proofs.Common.{◌≡◌, ◌+◌, ◌||◌, ℕ, Bool, true, false, cond, List, [], ◌∷◌, ◌++◌, length, filter, refl, ◌∙◌, ap, arith}
use Rattle.std.specs.List.{list_any}
use Rattle.std.proofs.lemmas.Bool.{or_parts, true≢false}
use Rattle.std.proofs.lemmas.List.{length-append}
use Rattle.std.proofs.lemmas.List.Elements.{filter-append}
use Rattle.std.proofs.lemmas.List.Folds.{list_any-append}
use Rattle.cluster_runs.specs.Written.{count_of}

module _ {X : Type 0} (p : X → Bool) where
  -- of two lists, one behind the other
  pub count_joined : (xs ys : List X) → count_of p (xs ++ ys) ≡ count_of p xs + count_of p ys
  count_joined xs ys = ap (λ (zs : List X). length zs) (filter-append p xs ys) ∙ length-append (filter p xs) (filter p ys)

  -- none where it finds none
  pub none_counted : (xs : List X) → list_any p xs ≡ false → count_of p xs ≡ 0
  none_counted [] none = refl
  none_counted (x ∷ xs) none = go (p x) (or_parts (p x) (list_any p xs) none) (none_counted xs)
    where
      go : (b : Bool) → (b ≡ false) × (list_any p xs ≡ false) → (list_any p xs ≡ false → count_of p xs ≡ 0)
          → length (cond b (x ∷ filter p xs) (filter p xs)) ≡ 0
      go true parts more = absurd (true≢false parts.0)
      go false parts more = more parts.1

  -- one more that it finds
  pub count_found : (xs : List X) (x : X) → p x ≡ true → count_of p (xs ++ x ∷ []) ≡ count_of p xs + 1
  count_found xs x is = count_joined xs (x ∷ []) ∙ ap (λ (b : Bool). count_of p xs + length (cond b (x ∷ []) [])) is

  -- one more that it doesn't find
  pub count_passed : (xs : List X) (x : X) → p x ≡ false → count_of p (xs ++ x ∷ []) ≡ count_of p xs
  count_passed xs x not = count_joined xs (x ∷ []) ∙ ap (λ (b : Bool). count_of p xs + length (cond b (x ∷ []) [])) not ∙ none_more (count_of p xs)
    where
      none_more : (n : ℕ) → n + 0 ≡ n
      none_more n = omega arith

  -- it finds none in two lists
  pub none_joined : (xs ys : List X) → list_any p xs ≡ false → list_any p ys ≡ false → list_any p (xs ++ ys) ≡ false
  none_joined xs ys first second = list_any-append p xs ys ∙ ap (λ (b : Bool). b || list_any p ys) first ∙ second

  -- nor with one more
  pub none_pushed : (xs : List X) (x : X) → list_any p xs ≡ false → p x ≡ false → list_any p (xs ++ x ∷ []) ≡ false
  none_pushed xs x none not = none_joined xs (x ∷ []) none (ap (λ (b : Bool). b || false) not)
