-- What is put, and what is kept, by its numbers.
use Rattle.std.proofs.Common.{◌≡◌, ◌<◌, ◌+◌, ℕ, Bool, true, false, cond, nat_eq, ◌||◌, List, [], ◌∷◌, ◌++◌, map, filter, take, drop, refl, sym, ap, subst, ◌∙◌, append_assoc, append-nil, arith}
use Rattle.std.specs.List.{AllByRecursion, IsDistinct, list_any, insert}
use Rattle.std.proofs.lemmas.Bool.Decides.{nat_tests}
use Rattle.std.proofs.lemmas.List.{take-append-drop}
use Rattle.std.proofs.lemmas.List.Elements.{filter-append}
use Rattle.span_index.specs.declared.owned.Owned.{Owned}
use Rattle.span_index.specs.declared.numbered.Numbered.{Numbered}
use Rattle.span_index.specs.SpanWords.{owned_of, in_order, owned_in}
use Rattle.span_index.specs.Ranges.{IsBefore, Rises, is_full}
use Rattle.span_index.specs.Indexes.{number_of, IsNumbered, IsIndex}
use Rattle.span_index.proofs.RangeLemmas.{all-insert}
use Rattle.span_index.proofs.OrderLemmas.{all-weaker, all-filter, filter-in_order, in_order-last, any-in_order}

map-append : (xs ys : List Numbered) → map owned_of (xs ++ ys) ≡ map owned_of xs ++ map owned_of ys
map-append [] ys = refl
map-append (x ∷ xs) ys = ap (λ zs. owned_of x ∷ zs) (map-append xs ys)

module _ (t : Owned → Bool) where
  -- the same test before the number is left out
  abbrev pub numbered_passes : Numbered → Bool
  numbered_passes x = t (owned_of x)

  filter-owned : (xs : List Numbered) → filter t (map owned_of xs) ≡ map owned_of (filter numbered_passes xs)
  filter-owned [] = refl
  filter-owned (x ∷ xs) = elim (t (owned_of x)) as (λ b. cond b (owned_of x ∷ filter t (map owned_of xs)) (filter t (map owned_of xs)) ≡ map owned_of (cond b (x ∷ filter numbered_passes xs) (filter numbered_passes xs))) [
    | true ↦ ap (λ zs. owned_of x ∷ zs) (filter-owned xs)
    | false ↦ filter-owned xs
  ]

  any-owned : (xs : List Numbered) → list_any t (map owned_of xs) ≡ list_any numbered_passes xs
  any-owned [] = refl
  any-owned (x ∷ xs) = ap (λ b. t (owned_of x) || b) (any-owned xs)

  -- a filter of what was put is a filter of the places
  pub filter-owned_in : (xs : List Numbered) → filter t (owned_in xs) ≡ owned_in (filter numbered_passes xs)
  filter-owned_in xs = filter-owned (in_order xs) ∙ ap (map owned_of) (filter-in_order numbered_passes xs)

  pub any-owned_in : (xs : List Numbered) → list_any t (owned_in xs) ≡ list_any numbered_passes xs
  any-owned_in xs = any-owned (in_order xs) ∙ any-in_order numbered_passes xs

other_number : (m n : ℕ) → m < n → nat_eq m n ≡ false
other_number m n h = grind (arith, nat_tests)

higher_number : (m n : ℕ) → m < n → nat_eq n m ≡ false
higher_number m n h = grind (arith, nat_tests)

all-map : (P : ℕ → Type 0) (xs : List Numbered) → AllByRecursion (λ x. P x.number) xs → AllByRecursion P (map number_of xs)
all-map P [] a = tt
all-map P (x ∷ xs) a = (a.0, all-map P xs a.1)

all-one_more : {X : Type 0} (P : X → Type 0) (xs : List X) (x : X) (ys : List X) → AllByRecursion P (xs ++ ys) → P x → AllByRecursion P (xs ++ x ∷ ys)
all-one_more P [] x ys a p = (p, a)
all-one_more P (y ∷ xs) x ys a p = (a.0, all-one_more P xs x ys a.1 p)

map-one_more : (P : ℕ → Type 0) (xs : List Numbered) (x : Numbered) (ys : List Numbered) → AllByRecursion P (map number_of (xs ++ ys)) → P x.number → AllByRecursion P (map number_of (xs ++ x ∷ ys))
map-one_more P [] x ys a p = (p, a)
map-one_more P (y ∷ xs) x ys a p = (a.0, map-one_more P xs x ys a.1 p)

distinct-one_more : (xs : List Numbered) (x : Numbered) (ys : List Numbered) → AllByRecursion (λ y. y.number < x.number) (xs ++ ys) → IsDistinct nat_eq (map number_of (xs ++ ys)) → IsDistinct nat_eq (map number_of (xs ++ x ∷ ys))
unfolding IsDistinct
distinct-one_more [] x ys a d = (all-map (λ n. nat_eq x.number n ≡ false) ys (all-weaker (λ y. y.number < x.number) (λ y. nat_eq x.number y.number ≡ false) (λ y h. higher_number y.number x.number h) ys a), d)
distinct-one_more (y ∷ xs) x ys a d =
    (map-one_more (λ n. nat_eq y.number n ≡ false) xs x ys d.0 (other_number y.number x.number a.0), distinct-one_more xs x ys a.1 d.1)

all-map-filter : (P : ℕ → Type 0) (t : Numbered → Bool) (xs : List Numbered) → AllByRecursion P (map number_of xs) → AllByRecursion P (map number_of (filter t xs))
all-map-filter P t [] a = tt
all-map-filter P t (x ∷ xs) a = elim (t x) as (λ b. AllByRecursion P (map number_of (cond b (x ∷ filter t xs) (filter t xs)))) [ true ↦ (a.0, all-map-filter P t xs a.1) | false ↦ all-map-filter P t xs a.1 ]

distinct-filter : (t : Numbered → Bool) (xs : List Numbered) → IsDistinct nat_eq (map number_of xs) → IsDistinct nat_eq (map number_of (filter t xs))
unfolding IsDistinct
distinct-filter t [] d = tt
distinct-filter t (x ∷ xs) d = elim (t x) as (λ b. IsDistinct nat_eq (map number_of (cond b (x ∷ filter t xs) (filter t xs)))) [
  | true ↦ (all-map-filter (λ n. nat_eq x.number n ≡ false) t xs d.0, distinct-filter t xs d.1)
  | false ↦ distinct-filter t xs d.1
]

-- what is kept is numbered
pub IsNumbered-filter : (n : ℕ) (t : Numbered → Bool) (xs : List Numbered) → IsNumbered n xs → IsNumbered n (filter t xs)
IsNumbered-filter n t xs i = record { below = all-filter (λ x. x.number < n) t xs i.below; distinct = distinct-filter t xs i.distinct }

-- one more with the next number
pub IsNumbered-one_more : (n : ℕ) (xs : List Numbered) (x : Numbered) (ys : List Numbered) → x.number ≡ n → IsNumbered n (xs ++ ys) → IsNumbered (n + 1) (xs ++ x ∷ ys)
IsNumbered-one_more n xs x ys e i = record {
  below = all-one_more (λ y. y.number < n + 1) xs x ys (all-weaker (λ y. y.number < n) (λ y. y.number < n + 1) (λ y h. omega (arith, h)) (xs ++ ys) i.below) (omega (arith, e));
  distinct = distinct-one_more xs x ys (subst (λ m. AllByRecursion (λ y. y.number < m) (xs ++ ys)) (sym e) i.below) i.distinct;
}

pub owned_in-one_more : (n : ℕ) (xs : List Numbered) (x : Numbered) (ys : List Numbered) → x.number ≡ n → IsNumbered n (xs ++ ys) → owned_in (xs ++ x ∷ ys) ≡ owned_in (xs ++ ys) ++ owned_of x ∷ []
owned_in-one_more n xs x ys e i =
    ap (map owned_of) (in_order-last xs x ys (subst (λ m. AllByRecursion (λ y. y.number < m) (xs ++ ys)) (sym e) i.below)) ∙ map-append (in_order (xs ++ ys)) (x ∷ [])

pub rises-filter : (t : Numbered → Bool) (xs : List Numbered) → Rises xs → Rises (filter t xs)
rises-filter t [] r = tt
rises-filter t (x ∷ xs) r = elim (t x) as (λ b. Rises (cond b (x ∷ filter t xs) (filter t xs))) [ true ↦ (all-filter (IsBefore x) t xs r.0, rises-filter t xs r.1) | false ↦ rises-filter t xs r.1 ]

-- what is kept of both parts
pub IsIndex-filter : (n : ℕ) (t : Numbered → Bool) (ordered others : List Numbered) → IsIndex n ordered others → IsIndex n (filter t ordered) (filter t others)
IsIndex-filter n t ordered others i = record {
  rises = rises-filter t ordered i.rises;
  full = all-filter (λ x. is_full x.span ≡ true) t ordered i.full;
  numbered = subst (IsNumbered n) (filter-append t ordered others) (IsNumbered-filter n t (ordered ++ others) i.numbered);
}

pub owned_in-filter : (t : Owned → Bool) (ordered others : List Numbered) → owned_in (filter (numbered_passes t) ordered ++ filter (numbered_passes t) others) ≡ filter t (owned_in (ordered ++ others))
owned_in-filter t ordered others = ap owned_in (sym (filter-append (numbered_passes t) ordered others)) ∙ sym (filter-owned_in t (ordered ++ others))

pub IsIndex-none : (n : ℕ) (ordered others : List Numbered) → ordered ≡ [] → others ≡ [] → IsIndex n ordered others
unfolding IsDistinct
IsIndex-none n ordered others e f =
    let none : IsIndex n [] [] = record { rises = tt; full = tt; numbered = record { below = tt; distinct = tt } } in
    rw (e, f) none

module _ (x : Numbered) (ordered others : List Numbered) where
  abbrev before : ℕ → List Numbered
  before at = take at ordered

  abbrev behind : ℕ → List Numbered
  behind at = drop at ordered ++ others

  halves : (at : ℕ) → before at ++ behind at ≡ ordered ++ others
  halves at = sym (append_assoc (take at ordered) (drop at ordered) others) ∙ ap (λ zs. zs ++ others) (take-append-drop at ordered)

  inserted : (at : ℕ) → insert ordered at x ++ others ≡ before at ++ x ∷ behind at
  inserted at = append_assoc (take at ordered) (x ∷ drop at ordered) others

  -- one more among those that follow one another
  pub insert-owned : (at : ℕ) → IsIndex x.number ordered others → owned_in (insert ordered at x ++ others) ≡ owned_in (ordered ++ others) ++ owned_of x ∷ []
  insert-owned at i =
      ap owned_in (inserted at) ∙ owned_in-one_more x.number (before at) x (behind at) refl (subst (IsNumbered x.number) (sym (halves at)) i.numbered) ∙ ap (λ zs. owned_in zs ++ owned_of x ∷ []) (halves at)

  pub insert-index : (at : ℕ) → IsIndex x.number ordered others → is_full x.span ≡ true → Rises (insert ordered at x) → IsIndex (x.number + 1) (insert ordered at x) others
  insert-index at i f r = record {
    rises = r;
    full = all-insert (λ y. is_full y.span ≡ true) ordered at x i.full f;
    numbered = subst (IsNumbered (x.number + 1)) (sym (inserted at)) (IsNumbered-one_more x.number (before at) x (behind at) refl (subst (IsNumbered x.number) (sym (halves at)) i.numbered));
  }

  at_end : (ordered ++ others) ++ [] ≡ ordered ++ others
  at_end = append-nil (ordered ++ others)

  pushed : ordered ++ (others ++ x ∷ []) ≡ (ordered ++ others) ++ x ∷ []
  pushed = sym (append_assoc ordered others (x ∷ []))

  -- one more among the others
  pub push-owned : IsIndex x.number ordered others → owned_in (ordered ++ (others ++ x ∷ [])) ≡ owned_in (ordered ++ others) ++ owned_of x ∷ []
  push-owned i =
      ap owned_in pushed ∙ owned_in-one_more x.number (ordered ++ others) x [] refl (subst (IsNumbered x.number) (sym at_end) i.numbered) ∙ ap (λ zs. owned_in zs ++ owned_of x ∷ []) at_end

  pub push-index : IsIndex x.number ordered others → IsIndex (x.number + 1) ordered (others ++ x ∷ [])
  push-index i = record {
    rises = i.rises;
    full = i.full;
    numbered = subst (IsNumbered (x.number + 1)) (sym pushed) (IsNumbered-one_more x.number (ordered ++ others) x [] refl (subst (IsNumbered x.number) (sym at_end) i.numbered));
  }
