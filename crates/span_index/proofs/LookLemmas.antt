-- What a look at the range and at the others says of all.
use Rattle.std.proofs.Common.{◌≡◌, ◌≤◌, ◌<◌, ◌-◌, ℕ, suc, Bool, true, false, cond, nat_eq, ◌&&◌, ◌||◌, ◌==◌, List, [], ◌∷◌, ◌++◌, filter, length, take, drop, get_or, Some, None, refl, sym, ap, subst, ◌∙◌, arith}
use Rattle.std.specs.List.{AllByRecursion, list_any, find}
use Rattle.std.specs.Cmp.Lexicographic.{same_text}
use Rattle.std.specs.Ordering.{is_lt}
use Rattle.std.proofs.lemmas.Bool.{and_parts}
use Rattle.std.proofs.lemmas.Bool.Decides.{nat_tests}
use Rattle.std.proofs.Math.Seq.{drop-cons}
use Rattle.plain_orders.specs.PairMap.{key_cmp}
use Rattle.subscript_keys.specs.declared.span.Span.{Span}
use Rattle.end_words.specs.Runs.{meets, same_span}
use Rattle.span_index.specs.declared.owned.Owned.{Owned}
use Rattle.span_index.specs.declared.numbered.Numbered.{Numbered}
use Rattle.span_index.specs.SpanWords.{is_owned_at, owned_of, owned_in}
use Rattle.span_index.specs.Ranges.{AllFull, IsRange, is_full, meets_it}
use Rattle.span_index.proofs.NumberLemmas.{any-owned_in}

or_joined : (a b c : Bool) → (a || (b || c)) ≡ ((a || b) || c)
or_joined true b c = refl
or_joined false b c = refl

pub any-append : {X : Type 0} (t : X → Bool) (xs ys : List X) → list_any t (xs ++ ys) ≡ (list_any t xs || list_any t ys)
any-append t [] ys = refl
any-append t (x ∷ xs) ys = ap (λ b. t x || b) (any-append t xs ys) ∙ or_joined (t x) (list_any t xs) (list_any t ys)

left-out : (t : Bool) → (t ≡ true → false ≡ true) → (r : Bool) → (t || r) ≡ r
left-out true h r = let e = h refl in cc
left-out false h r = refl

-- a test that another one follows from finds its elements among those that pass the other one
any-filter : (t m : Numbered → Bool) (xs : List Numbered) → AllByRecursion (λ x. t x ≡ true → m x ≡ true) xs → list_any t xs ≡ list_any t (filter m xs)
any-filter t m [] a = refl
any-filter t m (x ∷ xs) a = elim (m x) as (λ b. (t x ≡ true → b ≡ true) → (t x || list_any t xs) ≡ list_any t (cond b (x ∷ filter m xs) (filter m xs))) [
  | true ↦ λ h. ap (λ b. t x || b) (any-filter t m xs a.1)
  | false ↦ λ h. left-out (t x) h (list_any t xs) ∙ any-filter t m xs a.1
] a.0

same-keys : (s s' : Span) → same_span s s' ≡ true → (s.lo ≡ s'.lo) × (s.hi ≡ s'.hi)
same-keys s s' e = let parts = and_parts _ _ e in (same_text s.lo s'.lo (sym parts.0), same_text s.hi s'.hi (sym parts.1))

-- a span that isn't empty meets itself
same-meets : (s s' : Span) → is_full s ≡ true → same_span s s' ≡ true → meets s s' ≡ true
same-meets s s' f e =
    let keys = same-keys s s' e in
    let lo : s.lo ≡ s'.lo = keys.0 in
    let hi : s.hi ≡ s'.hi = keys.1 in
    let here : is_lt (key_cmp s.lo s.hi) ≡ true = f in
    rw (← lo, ← hi, here) refl

owned-meets : (owner : ℕ) (span : Span) (xs : List Numbered) → AllFull xs → AllByRecursion (λ x. is_owned_at owner span (owned_of x) ≡ true → meets_it span x ≡ true) xs
owned-meets owner span [] f = tt
owned-meets owner span (x ∷ xs) f = ((λ e. same-meets x.span span f.0 (and_parts _ _ e).1), owned-meets owner span xs f.1)

module _ (owner : ℕ) (span : Span) (ordered others : List Numbered) (first last : ℕ) (full : AllFull ordered) (range : IsRange (meets_it span) ordered first last) where
  abbrev is_it : Numbered → Bool
  is_it x = is_owned_at owner span (owned_of x)

  -- the very span is among those of the range or among the others
  pub there-all : (list_any is_it (take (last - first) (drop first ordered)) || list_any is_it others) ≡ list_any (is_owned_at owner span) (owned_in (ordered ++ others))
  there-all =
      ap (λ ys. list_any is_it ys || list_any is_it others) (sym range.inside)
      ∙ ap (λ b. b || list_any is_it others) (sym (any-filter is_it (meets_it span) ordered (owned-meets owner span ordered full)))
      ∙ sym (any-append is_it ordered others)
      ∙ sym (any-owned_in (is_owned_at owner span) (ordered ++ others))

  pub there-near : true ≡ list_any is_it (take (last - first) (drop first ordered)) → true ≡ list_any (is_owned_at owner span) (owned_in (ordered ++ others))
  there-near e = ap (λ b. b || list_any is_it others) e ∙ there-all

  pub there-far : (r : Bool) → false ≡ list_any is_it (take (last - first) (drop first ordered)) → r ≡ list_any is_it others → r ≡ list_any (is_owned_at owner span) (owned_in (ordered ++ others))
  there-far r e h = h ∙ ap (λ b. b || list_any is_it others) e ∙ there-all

number_itself : (n : ℕ) → nat_eq n n ≡ true
number_itself n = grind (arith, nat_tests)

or_right : (a b : Bool) → b ≡ true → (a || b) ≡ true
or_right true b e = refl
or_right false b e = e

-- one of the owner that passes the test
abbrev pub is_of : ℕ → (Numbered → Bool) → Numbered → Bool
is_of owner m x = x.owner == owner && m x

is_of-itself : (m : Numbered → Bool) (z x : Numbered) → z ≡ x → m z ≡ true → is_of x.owner m z ≡ true
is_of-itself m z x e h = subst (λ y. is_of y.owner m z ≡ true) e (rw (number_itself z.owner, h) refl)

module _ (m : Numbered → Bool) where
  -- the owner of the first that passes
  pub first-passes : (xs : List Numbered) (x : Numbered) (ys : List Numbered) → filter m xs ≡ x ∷ ys → list_any (is_of x.owner m) xs ≡ true
  first-passes [] x ys e = cc
  first-passes (z ∷ zs) x ys e = (elim (m z) as (λ b. m z ≡ b → cond b (z ∷ filter m zs) (filter m zs) ≡ x ∷ ys → (is_of x.owner m z || list_any (is_of x.owner m) zs) ≡ true) [
    | true ↦ λ h f. let same : z ≡ x = cc in rw (is_of-itself m z x same h) refl
    | false ↦ λ h f. or_right (is_of x.owner m z) (list_any (is_of x.owner m) zs) (first-passes zs x ys f)
  ]) refl e

  pub found-passes : (xs : List Numbered) (x : Numbered) → find m xs ≡ Some x → list_any (is_of x.owner m) xs ≡ true
  found-passes [] x e = cc
  found-passes (z ∷ zs) x e = (elim (m z) as (λ b. m z ≡ b → cond b (Some z) (find m zs) ≡ Some x → (is_of x.owner m z || list_any (is_of x.owner m) zs) ≡ true) [
    | true ↦ λ h f. let same : z ≡ x = cc in rw (is_of-itself m z x same h) refl
    | false ↦ λ h f. or_right (is_of x.owner m z) (list_any (is_of x.owner m) zs) (found-passes zs x f)
  ]) refl e

  pub none-found : (xs : List Numbered) → find m xs ≡ None → list_any m xs ≡ false
  none-found [] e = refl
  none-found (z ∷ zs) e = (elim (m z) as (λ b. cond b (Some z) (find m zs) ≡ None → (b || list_any m zs) ≡ false) [ true ↦ λ f. cc | false ↦ λ f. none-found zs f ]) e

  pub none-filtered : (xs : List Numbered) → filter m xs ≡ [] → list_any m xs ≡ false
  none-filtered [] e = refl
  none-filtered (z ∷ zs) e = (elim (m z) as (λ b. cond b (z ∷ filter m zs) (filter m zs) ≡ [] → (b || list_any m zs) ≡ false) [ true ↦ λ f. cc | false ↦ λ f. none-filtered zs f ]) e

  module _ (xs : List Numbered) (first last : ℕ) (range : IsRange m xs first last) where
    -- the first of a range
    pub range-first : (x : Numbered) → first < last → x ≡ get_or xs first x → filter m xs ≡ x ∷ take (last - suc first) (drop (suc first) xs)
    range-first x h e =
        let within : first < length xs = omega (arith, range.fits) in
        let count : last - first ≡ suc (last - suc first) = omega arith in
        range.inside ∙ ap (λ n. take n (drop first xs)) count ∙ ap (take (suc (last - suc first))) (drop-cons xs first x within) ∙ ap (λ y. y ∷ take (last - suc first) (drop (suc first) xs)) (sym e)

    pub range-none : last ≤ first → filter m xs ≡ []
    range-none h = let none : last - first ≡ 0 = omega arith in range.inside ∙ ap (λ n. take n (drop first xs)) none

module _ (span : Span) (ordered others : List Numbered) where
  abbrev is_met : Owned → Bool
  is_met x = meets x.span span

  abbrev is_met_of : ℕ → Owned → Bool
  is_met_of owner x = x.owner == owner && meets x.span span

  pub met-near : (first last : ℕ) → IsRange (meets_it span) ordered first last → (x : Numbered) → first < last → x ≡ get_or ordered first x → list_any (is_met_of x.owner) (owned_in (ordered ++ others)) ≡ true
  met-near first last range x h e =
      let near = first-passes (meets_it span) ordered x _ (range-first (meets_it span) ordered first last range x h e) in
      any-owned_in (is_met_of x.owner) (ordered ++ others) ∙ any-append (is_of x.owner (meets_it span)) ordered others ∙ ap (λ b. b || list_any (is_of x.owner (meets_it span)) others) near

  pub met-far : (x : Numbered) → find (meets_it span) others ≡ Some x → list_any (is_met_of x.owner) (owned_in (ordered ++ others)) ≡ true
  met-far x e =
      any-owned_in (is_met_of x.owner) (ordered ++ others) ∙ any-append (is_of x.owner (meets_it span)) ordered others ∙ or_right _ _ (found-passes (meets_it span) others x e)

  pub met-none : (first last : ℕ) → IsRange (meets_it span) ordered first last → last ≤ first → find (meets_it span) others ≡ None → list_any is_met (owned_in (ordered ++ others)) ≡ false
  met-none first last range h e =
      any-owned_in is_met (ordered ++ others)
      ∙ any-append (meets_it span) ordered others
      ∙ ap (λ b. b || list_any (meets_it span) others) (none-filtered (meets_it span) ordered (range-none (meets_it span) ordered first last range h))
      ∙ none-found (meets_it span) others e
