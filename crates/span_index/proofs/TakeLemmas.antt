-- What is taken out span by span.
use Rattle.std.proofs.Common.{◌≡◌, ◌≤◌, ◌<◌, ◌+◌, ◌-◌, ℕ, zero, suc, Bool, true, false, not, cond, nat_eq, ◌||◌, List, [], ◌∷◌, ◌++◌, map, filter, length, take, drop, get_or, refl, sym, ap, subst, ◌∙◌, arith, length-take, length-drop, length-append}
use Rattle.std.specs.List.{IsDistinct, list_any}
use Rattle.std.specs.List.Sorted.{IsPermutation, IsNonDecreasingBy}
use Rattle.std.proofs.lemmas.Bool.Decides.{nat_tests}
use Rattle.std.proofs.lemmas.List.Elements.{filter-append, recursion_from_All}
use Rattle.std.proofs.lemmas.List.Folds.{list_any_more}
use Rattle.std.proofs.lemmas.List.Sorted.{IsPermutation-filter_both, IsPermutation-append_left, IsPermutation-trans, IsPermutation-map, length_permutation}
use Rattle.std.proofs.lemmas.Map.Keys.{IsDistinct-IsPermutation}
use Rattle.subscript_keys.specs.declared.span.Span.{Span}
use Rattle.end_words.specs.Runs.{meets}
use Rattle.span_index.specs.declared.owned.Owned.{Owned}
use Rattle.span_index.specs.declared.numbered.Numbered.{Numbered}
use Rattle.span_index.specs.SpanWords.{owned_of, in_order, owned_in}
use Rattle.span_index.specs.Ranges.{IsRange, meets_it, stays, touches}
use Rattle.span_index.specs.Indexes.{number_of, IsNumbered}
use Rattle.span_index.proofs.OrderLemmas.{Sorted, in_order-sorted, in_order-permutation}
use Rattle.span_index.proofs.NumberLemmas.{numbered_passes, filter-owned_in, IsNumbered-filter}

module _ (before m after : Numbered → Bool) (e : (x : Numbered) → after x ≡ (before x || m x)) where
  abbrev not_before : Numbered → Bool
  not_before x = not (before x)

  abbrev not_m : Numbered → Bool
  not_m x = not (m x)

  abbrev not_after : Numbered → Bool
  not_after x = not (after x)

  -- what stays after one span more
  pub kept-more : (xs : List Numbered) → filter not_m (filter not_before xs) ≡ filter not_after xs
  kept-more [] = refl
  kept-more (x ∷ xs) =
      (elim (before x) as (λ a. filter not_m (cond (not a) (x ∷ filter not_before xs) (filter not_before xs)) ≡ cond (not (a || m x)) (x ∷ filter not_m (filter not_before xs)) (filter not_m (filter not_before xs))) [ true ↦ refl | false ↦ refl ])
      ∙ ap (λ b. cond (not b) (x ∷ filter not_m (filter not_before xs)) (filter not_m (filter not_before xs))) (sym (e x))
      ∙ ap (λ ys. cond (not (after x)) (x ∷ ys) ys) (kept-more xs)

  met-step : (x : Numbered) (xs : List Numbered) (a b : Bool) → before x ≡ a → m x ≡ b → filter m (filter not_before xs) ≡ filter not_before (filter after xs) → filter m (filter not_before (x ∷ xs)) ≡ filter not_before (filter after (x ∷ xs))
  met-step x xs true b p q h = let c : after x ≡ true = e x ∙ ap (λ v. v || m x) p in rw (c, p) h
  met-step x xs false true p q h = let c : after x ≡ true = e x ∙ ap (λ v. v || m x) p ∙ q in rw (c, p, q) (ap (λ ys. x ∷ ys) h)
  met-step x xs false false p q h = let c : after x ≡ false = e x ∙ ap (λ v. v || m x) p ∙ q in rw (c, p, q) h

  met-more : (xs : List Numbered) → filter m (filter not_before xs) ≡ filter not_before (filter after xs)
  met-more [] = refl
  met-more (x ∷ xs) = met-step x xs (before x) (m x) refl refl (met-more xs)

  before-step : (x : Numbered) (xs : List Numbered) (a b : Bool) → before x ≡ a → m x ≡ b → filter before (filter after xs) ≡ filter before xs → filter before (filter after (x ∷ xs)) ≡ filter before (x ∷ xs)
  before-step x xs true b p q h = let c : after x ≡ true = e x ∙ ap (λ v. v || m x) p in rw (c, p) (ap (λ ys. x ∷ ys) h)
  before-step x xs false true p q h = let c : after x ≡ true = e x ∙ ap (λ v. v || m x) p ∙ q in rw (c, p) h
  before-step x xs false false p q h = let c : after x ≡ false = e x ∙ ap (λ v. v || m x) p ∙ q in rw (c, p) h

  before-more : (xs : List Numbered) → filter before (filter after xs) ≡ filter before xs
  before-more [] = refl
  before-more (x ∷ xs) = before-step x xs (before x) (m x) refl refl (before-more xs)

  -- what was taken after one span more
  pub taken-more : (xs hits : List Numbered) → IsPermutation (filter before xs) hits → IsPermutation (filter after xs) (hits ++ filter m (filter not_before xs))
  taken-more xs hits p =
      let both = IsPermutation-filter_both before not_before (λ x. refl) (filter after xs) in
      let parts : IsPermutation (filter after xs) (filter before xs ++ filter m (filter not_before xs)) = rw (before-more xs, ← met-more xs) at both in
      IsPermutation-trans _ _ _ parts (IsPermutation-append_left (filter m (filter not_before xs)) _ _ p)

  length-step : (x : Numbered) (xs : List Numbered) (a b : Bool) → before x ≡ a → m x ≡ b → length (filter after xs) ≤ length (filter before xs) + length (filter m xs) → length (filter after (x ∷ xs)) ≤ length (filter before (x ∷ xs)) + length (filter m (x ∷ xs))
  length-step x xs true true p q h = let c : after x ≡ true = e x ∙ ap (λ v. v || m x) p in rw (c, p, q) (omega arith)
  length-step x xs true false p q h = let c : after x ≡ true = e x ∙ ap (λ v. v || m x) p in rw (c, p, q) (omega arith)
  length-step x xs false true p q h = let c : after x ≡ true = e x ∙ ap (λ v. v || m x) p ∙ q in rw (c, p, q) (omega arith)
  length-step x xs false false p q h = let c : after x ≡ false = e x ∙ ap (λ v. v || m x) p ∙ q in rw (c, p, q) (omega arith)

  -- at most those before and those that meet one span more
  pub length-more : (xs : List Numbered) → length (filter after xs) ≤ length (filter before xs) + length (filter m xs)
  length-more [] = omega arith
  length-more (x ∷ xs) = length-step x xs (before x) (m x) refl refl (length-more xs)

weaker-step : (p q : Numbered → Bool) (a : Bool) (x : Numbered) (xs : List Numbered) → (p x ≡ true → q x ≡ true) → p x ≡ a → length (filter p xs) ≤ length (filter q xs) → length (filter p (x ∷ xs)) ≤ length (filter q (x ∷ xs))
weaker-step p q true x xs w e h = let f = w e in rw (e, f) (omega arith)
weaker-step p q false x xs w e h = rw e (elim (q x) as (λ b. length (filter p xs) ≤ length (cond b (x ∷ filter q xs) (filter q xs))) [ true ↦ omega arith | false ↦ h ])

pub length-weaker : (p q : Numbered → Bool) → ((x : Numbered) → p x ≡ true → q x ≡ true) → (xs : List Numbered) → length (filter p xs) ≤ length (filter q xs)
length-weaker p q w [] = omega arith
length-weaker p q w (x ∷ xs) = weaker-step p q (p x) x xs (w x) refl (length-weaker p q w xs)

any-take : {X : Type 0} (t : X → Bool) (n : ℕ) (xs : List X) → list_any t (take n xs) ≡ true → list_any t xs ≡ true
any-take t zero xs e = cc
any-take t (suc n) [] e = cc
any-take t (suc n) (x ∷ xs) e = (elim (t x) as (λ b. (b || list_any t (take n xs)) ≡ true → (b || list_any t xs) ≡ true) [ true ↦ λ h. refl | false ↦ λ h. any-take t n xs h ]) e

-- those of the first so many spans
pub touches-more : (spans : List Span) (i : ℕ) (d : Span) → i < length spans → (x : Numbered) → touches (take (i + 1) spans) x ≡ (touches (take i spans) x || meets_it (get_or spans i d) x)
touches-more spans i d h x = list_any_more (meets x.span) spans i d h

pub touches-first : (spans : List Span) (n : ℕ) (x : Numbered) → touches (take n spans) x ≡ true → touches spans x ≡ true
touches-first spans n x e = any-take (meets x.span) n spans e

pub stays-none : (xs : List Numbered) → filter (stays []) xs ≡ xs
stays-none [] = refl
stays-none (x ∷ xs) = ap (λ ys. x ∷ ys) (stays-none xs)

pub touches-none : (xs : List Numbered) → filter (touches []) xs ≡ []
touches-none [] = refl
touches-none (x ∷ xs) = touches-none xs

stretch-length : (xs : List Numbered) (first last : ℕ) → first ≤ last → last ≤ length xs → length (take (last - first) (drop first xs)) ≡ last - first
stretch-length xs first last h l = omega (arith, length-take (last - first) (drop first xs), length-drop first xs)

-- how long a stretch is
pub range-length : (test : Numbered → Bool) (xs : List Numbered) (first last : ℕ) → IsRange test xs first last → length (filter test xs) ≡ last - first
range-length test xs first last r = ap length r.inside ∙ stretch-length xs first last r.order r.fits

-- where none is touched all stay
pub untouched_all : (t : Numbered → Bool) (xs : List Numbered) → length (filter t xs) ≡ 0 → (filter (λ x. not (t x)) xs ≡ xs) × (filter t xs ≡ [])
untouched_all t [] h = (refl, refl)
untouched_all t (x ∷ xs) h = (elim (t x) as (λ b. length (cond b (x ∷ filter t xs) (filter t xs)) ≡ 0 → (cond (not b) (x ∷ filter (λ y. not (t y)) xs) (filter (λ y. not (t y)) xs) ≡ x ∷ xs) × (cond b (x ∷ filter t xs) (filter t xs) ≡ [])) [
  | true ↦ λ s. absurd (omega arith)
  | false ↦ λ s. let rest = untouched_all t xs s in (ap (λ ys. x ∷ ys) rest.0, rest.1)
]) h

sorted-from : (xs : List Numbered) → IsNonDecreasingBy number_of xs → Sorted xs
sorted-from [] h = tt
sorted-from (x ∷ xs) h =
    (recursion_from_All (λ y. x.number ≤ y.number) xs (λ k d l. h 0 (suc k) d (omega arith) (omega arith)), sorted-from xs (λ i j d l m. h (suc i) (suc j) d (omega arith) (omega arith)))

eq-swapped : (m n : ℕ) → nat_eq m n ≡ nat_eq n m
eq-swapped m n = grind (arith, nat_tests)

-- what was taken from both, by its numbers, is what was to be taken in the order in which it was put
pub taken-in_order : (t : Owned → Bool) (n : ℕ) (ordered others hits sorted : List Numbered) → IsNumbered n (ordered ++ others) → IsPermutation (filter (numbered_passes t) ordered) hits → IsPermutation (hits ++ filter (numbered_passes t) others) sorted → IsNonDecreasingBy number_of sorted → map owned_of sorted ≡ filter t (owned_in (ordered ++ others))
taken-in_order t n ordered others hits sorted i p q s =
    let test = numbered_passes t in
    let all = filter test (ordered ++ others) in
    let joined : IsPermutation (filter test ordered ++ filter test others) sorted = IsPermutation-trans _ _ _ (IsPermutation-append_left (filter test others) _ _ p) q in
    let perm : IsPermutation all sorted = subst (λ ys. IsPermutation ys sorted) (sym (filter-append test ordered others)) joined in
    let kept : IsNumbered n all = IsNumbered-filter n test (ordered ++ others) i in
    let apart : IsDistinct nat_eq (map number_of sorted) = IsDistinct-IsPermutation nat_eq eq-swapped (map number_of all) (map number_of sorted) (IsPermutation-map number_of all sorted perm) kept.distinct in
    let same : in_order all ≡ sorted = in_order-permutation all sorted kept.distinct apart perm ∙ in_order-sorted sorted (sorted-from sorted s) in
    sym (filter-owned_in t (ordered ++ others) ∙ ap (map owned_of) same)

module _ (spans : List Span) (i : ℕ) (span : Span) (h : i < length spans) (item : span ≡ get_or spans i span) where
  -- those of the spans so far, and of this one
  touches-step : (x : Numbered) → touches (take (i + 1) spans) x ≡ (touches (take i spans) x || meets_it span x)
  touches-step x = touches-more spans i span h x ∙ ap (λ s. touches (take i spans) x || meets_it s x) (sym item)

  pub count-step : (xs : List Numbered) (count first last : ℕ) → length (filter (touches (take i spans)) xs) ≤ count → IsRange (meets_it span) xs first last → length (filter (touches (take (i + 1) spans)) xs) ≤ count + (last - first)
  count-step xs count first last l range =
      let more = length-more (touches (take i spans)) (meets_it span) (touches (take (i + 1) spans)) touches-step xs in
      let stretch = range-length (meets_it span) xs first last range in
      omega (arith, more, stretch, l)

  module _ (xs places : List Numbered) (kept : places ≡ filter (stays (take i spans)) xs) where
    pub kept-step : (first last : ℕ) → IsRange (meets_it span) places first last → take first places ++ drop last places ≡ filter (stays (take (i + 1) spans)) xs
    kept-step first last range =
        sym range.outside ∙ ap (filter (λ x. not (meets_it span x))) kept ∙ kept-more (touches (take i spans)) (meets_it span) (touches (take (i + 1) spans)) touches-step xs

    module _ (hits : List Numbered) (taken : IsPermutation (filter (touches (take i spans)) xs) hits) where
      taken-all : IsPermutation (filter (touches (take (i + 1) spans)) xs) (hits ++ filter (meets_it span) places)
      taken-all = subst (λ ys. IsPermutation (filter (touches (take (i + 1) spans)) xs) (hits ++ filter (meets_it span) ys)) (sym kept) (taken-more (touches (take i spans)) (meets_it span) (touches (take (i + 1) spans)) touches-step xs hits taken)

      pub taken-step : (first last : ℕ) → IsRange (meets_it span) places first last → IsPermutation (filter (touches (take (i + 1) spans)) xs) (hits ++ take (last - first) (drop first places))
      taken-step first last range = subst (λ ys. IsPermutation (filter (touches (take (i + 1) spans)) xs) (hits ++ ys)) range.inside taken-all

      pub room-step : (first last : ℕ) → IsRange (meets_it span) places first last → length hits + (last - first) ≤ length (filter (touches spans) xs)
      room-step first last range =
          let all = length_permutation _ _ taken-all in
          let stretch = range-length (meets_it span) places first last range in
          let most = length-weaker (touches (take (i + 1) spans)) (touches spans) (touches-first spans (i + 1)) xs in
          omega (arith, all, stretch, most, length-append hits (filter (meets_it span) places))

module _ (t : Owned → Bool) (ordered others : List Numbered) (none : length (filter (numbered_passes t) ordered) + length (filter (numbered_passes t) others) ≤ 0) where
  none-in : length (filter (numbered_passes t) (ordered ++ others)) ≡ 0
  none-in = ap length (filter-append (numbered_passes t) ordered others) ∙ omega (arith, none, length-append (filter (numbered_passes t) ordered) (filter (numbered_passes t) others))

  -- nothing is touched
  pub none-touched : filter t (owned_in (ordered ++ others)) ≡ []
  none-touched = filter-owned_in t (ordered ++ others) ∙ ap owned_in (untouched_all (numbered_passes t) (ordered ++ others) none-in).1

  -- and all stay
  pub none-left : owned_in (ordered ++ others) ≡ filter (λ x. not (t x)) (owned_in (ordered ++ others))
  none-left = sym (filter-owned_in (λ x. not (t x)) (ordered ++ others) ∙ ap owned_in (untouched_all (numbered_passes t) (ordered ++ others) none-in).0)
