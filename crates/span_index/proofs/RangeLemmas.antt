-- Lists of which a stretch passes a test.
use Rattle.std.proofs.Common.{◌≡◌, ◌≤◌, ◌-◌, max, ℕ, zero, suc, Bool, true, false, not, ◌&&◌, List, [], ◌∷◌, ◌++◌, filter, length, take, drop, get_or, refl, sym, ap, subst, ◌∙◌, arith}
use Rattle.std.specs.List.{AllByRecursion, AllWithin, All, insert}
use Rattle.std.specs.Ordering.{is_lt, is_gt}
use Rattle.std.proofs.lemmas.List.Elements.{All-from_recursion}
use Rattle.plain_orders.specs.PairMap.{key_cmp}
use Rattle.subscript_keys.specs.declared.span.Span.{Span}
use Rattle.span_index.specs.declared.numbered.Numbered.{Numbered}
use Rattle.span_index.specs.Ranges.{begins_before, begins_by, ends_before, ends_by, holds_it, is_full, meets_it, AllFull, IsBefore, IsFront, IsRange, Rises}
use Rattle.span_index.proofs.KeyLemmas.{is_lt-is_gt, not_true}

module _ (test : Numbered → Bool) where
  abbrev fails : Numbered → Bool
  fails x = not (test x)

  -- all from here on fail
  none-passes : (xs : List Numbered) → AllWithin (λ x. test x ≡ false) xs 0 (length xs) → (filter test xs ≡ []) × (filter fails xs ≡ xs)
  none-passes [] h = (refl, refl)
  none-passes (x ∷ xs) h =
      let first : test x ≡ false = h 0 x (omega arith) (omega arith) in
      let rest = none-passes xs (λ k d l m. h (suc k) d (omega arith) (omega arith)) in
      rw first (rest.0, ap (λ ys. x ∷ ys) rest.1)

  pub filter-stretch : (xs : List Numbered) (i j : ℕ) → i ≤ j → j ≤ length xs → AllWithin (λ x. test x ≡ false) xs 0 i → AllWithin (λ x. test x ≡ true) xs i j → AllWithin (λ x. test x ≡ false) xs j (length xs) → (filter test xs ≡ take (j - i) (drop i xs)) × (filter fails xs ≡ take i xs ++ drop j xs)
  filter-stretch xs zero zero h l a b c = let none = none-passes xs c in (none.0, none.1)
  filter-stretch [] zero (suc j) h l a b c = absurd (omega arith)
  filter-stretch [] (suc i) j h l a b c = absurd (omega arith)
  filter-stretch (x ∷ xs) zero (suc j) h l a b c =
      let first : test x ≡ true = b 0 x (omega arith) (omega arith) in
      let more : suc j - 0 ≡ suc (j - 0) = omega arith in
      let rest = filter-stretch xs 0 j (omega arith) (omega arith) (λ k d m n. absurd (omega arith)) (λ k d m n. b (suc k) d (omega arith) (omega arith)) (λ k d m n. c (suc k) d (omega arith) (omega arith)) in
      rw (first, more) (ap (λ ys. x ∷ ys) rest.0, rest.1)
  filter-stretch (x ∷ xs) (suc i) zero h l a b c = absurd (omega arith)
  filter-stretch (x ∷ xs) (suc i) (suc j) h l a b c =
      let first : test x ≡ false = a 0 x (omega arith) (omega arith) in
      let less : suc j - suc i ≡ j - i = omega arith in
      let rest = filter-stretch xs i j (omega arith) (omega arith) (λ k d m n. a (suc k) d (omega arith) (omega arith)) (λ k d m n. b (suc k) d (omega arith) (omega arith)) (λ k d m n. c (suc k) d (omega arith) (omega arith)) in
      rw (first, less) (rest.0, ap (λ ys. x ∷ ys) rest.1)

module _ (test ended begun : Numbered → Bool) (xs : List Numbered) (agrees : All (λ x. test x ≡ (not (ended x) && begun x)) xs) where
  ended-fails : (x : Numbered) → test x ≡ (not (ended x) && begun x) → ended x ≡ true → test x ≡ false
  ended-fails x e h = e ∙ ap (λ b. not b && begun x) h

  not_begun-fails : (x : Numbered) → test x ≡ (not (ended x) && begun x) → begun x ≡ false → test x ≡ false
  not_begun-fails x e h = e ∙ ap (λ b. not (ended x) && b) h ∙ (elim (ended x) as (λ b. (not b && false) ≡ false) [ true ↦ refl | false ↦ refl ])

  between-passes : (x : Numbered) → test x ≡ (not (ended x) && begun x) → ended x ≡ false → begun x ≡ true → test x ≡ true
  between-passes x e h m = e ∙ ap (λ b. not b && begun x) h ∙ m

  -- what has begun and hasn't ended is a stretch
  pub IsRange-between : (first last : ℕ) → IsFront ended xs first → IsFront begun xs last → IsRange test xs first (max first last)
  IsRange-between first last e b =
      let order : first ≤ max first last = omega arith in
      let fits : max first last ≤ length xs = omega (arith, e.0, b.0) in
      let parts = filter-stretch test xs first (max first last) order fits
      (λ k d l h. ended-fails (get_or xs k d) (agrees k d (omega (arith, e.0))) (e.1 k d l h))
      (λ k d l h. between-passes (get_or xs k d) (agrees k d (omega arith)) (e.2 k d l (omega arith)) (b.1 k d (omega arith) (omega arith)))
      (λ k d l h. not_begun-fails (get_or xs k d) (agrees k d h) (b.2 k d (omega arith) h)) in
      record { order = order; fits = fits; inside = parts.0; outside = parts.1 }

and-swapped : (a b : Bool) → (a && b) ≡ (b && a)
and-swapped true true = refl
and-swapped true false = refl
and-swapped false true = refl
and-swapped false false = refl

not_not : (b : Bool) → not (not b) ≡ b
not_not true = refl
not_not false = refl

holds-cases : (key : List ℕ) (x : Numbered) → holds_it key x ≡ (not (ends_by key x) && begins_by key x)
holds-cases key x =
    ap (λ b. begins_by key x && b) (is_lt-is_gt key x.span.hi ∙ sym (not_not (is_gt (key_cmp x.span.hi key)))) ∙ and-swapped (begins_by key x) (not (ends_by key x))

meets-cases : (span : Span) (x : Numbered) → is_full span ≡ true → is_full x.span ≡ true → meets_it span x ≡ (not (ends_by span.lo x) && begins_before span.hi x)
meets-cases span x f g =
    ap (λ b. b && is_full span && begins_before span.hi x && is_lt (key_cmp span.lo x.span.hi)) g
    ∙ ap (λ b. true && b && begins_before span.hi x && is_lt (key_cmp span.lo x.span.hi)) f
    ∙ ap (λ b. begins_before span.hi x && b) (is_lt-is_gt span.lo x.span.hi ∙ sym (not_not (is_gt (key_cmp x.span.hi span.lo))))
    ∙ and-swapped (begins_before span.hi x) (not (ends_by span.lo x))

-- a span that isn't empty meets those that have begun before its end and haven't ended at its begin
pub meets-agrees : (span : Span) (xs : List Numbered) → is_full span ≡ true → AllFull xs → All (λ x. meets_it span x ≡ (not (ends_by span.lo x) && begins_before span.hi x)) xs
meets-agrees span xs f full = λ k d h. meets-cases span (get_or xs k d) f (All-from_recursion (λ x. is_full x.span ≡ true) xs full k d h)

-- an empty span meets none
empty-meets : (span : Span) (x : Numbered) → is_full span ≡ false → meets_it span x ≡ false
empty-meets span x e = ap (λ b. is_full x.span && b && begins_before span.hi x && is_lt (key_cmp span.lo x.span.hi)) e ∙ (elim (is_full x.span) as (λ b. (b && false && begins_before span.hi x && is_lt (key_cmp span.lo x.span.hi)) ≡ false) [ true ↦ refl | false ↦ refl ])

pub IsRange-empty : (span : Span) (xs : List Numbered) → is_full span ≡ false → IsRange (meets_it span) xs 0 0
IsRange-empty span xs e =
    let parts = filter-stretch (meets_it span) xs 0 0 (omega arith) (omega arith) (λ k d l h. absurd (omega arith)) (λ k d l h. absurd (omega arith)) (λ k d l h. empty-meets span (get_or xs k d) e) in
    record { order = omega arith; fits = omega arith; inside = parts.0; outside = parts.1 }

pub all-insert : (P : Numbered → Type 0) (xs : List Numbered) (i : ℕ) (x : Numbered) → AllByRecursion P xs → P x → AllByRecursion P (insert xs i x)
all-insert P xs zero x a p = (p, a)
all-insert P [] (suc i) x a p = (p, tt)
all-insert P (y ∷ ys) (suc i) x a p = (a.0, all-insert P ys i x a.1 p)

all-of-front : (P : Numbered → Type 0) (xs : List Numbered) → AllWithin P xs 0 (length xs) → AllByRecursion P xs
all-of-front P [] h = tt
all-of-front P (x ∷ xs) h = (h 0 x (omega arith) (omega arith), all-of-front P xs (λ k d l m. h (suc k) d (omega arith) (omega arith)))

-- one that follows those before a place, and that those from there on follow, can stand there
pub Rises-insert : (xs : List Numbered) (i : ℕ) (x : Numbered) → i ≤ length xs → Rises xs → AllWithin (λ y. IsBefore y x) xs 0 i → AllWithin (λ y. IsBefore x y) xs i (length xs) → Rises (insert xs i x)
Rises-insert xs zero x h r a b = (all-of-front (IsBefore x) xs b, r)
Rises-insert [] (suc i) x h r a b = absurd (omega arith)
Rises-insert (y ∷ ys) (suc i) x h r a b =
    (all-insert (IsBefore y) ys i x r.0 (a 0 y (omega arith) (omega arith)), Rises-insert ys i x (omega arith) r.1 (λ k d l m. a (suc k) d (omega arith) (omega arith)) (λ k d l m. b (suc k) d (omega arith) (omega arith)))

-- where it can stand: not before those that it begins or ends behind, and before those that begin or end behind it
pub Rises-place : (xs : List Numbered) (span : Span) (at a b c d : ℕ) → at ≡ max a b → at ≤ c → at ≤ d → IsFront (begins_before span.lo) xs a → IsFront (ends_before span.hi) xs b → IsFront (begins_by span.lo) xs c → IsFront (ends_by span.hi) xs d → Rises xs → (x : Numbered) → x.span ≡ span → Rises (insert xs at x)
Rises-place xs span at a b c d e lc ld fa fb fc fd r x same =
    Rises-insert xs at x (omega (arith, fc.0)) r
    (λ k y l h. subst (λ s. (is_gt (key_cmp (get_or xs k y).span.lo s.lo) ≡ false) × (is_gt (key_cmp (get_or xs k y).span.hi s.hi) ≡ false)) (sym same) (not_true _ (fc.1 k y l (omega arith)), not_true _ (fd.1 k y l (omega arith))))
    (λ k y l h. subst (λ s. (is_gt (key_cmp s.lo (get_or xs k y).span.lo) ≡ false) × (is_gt (key_cmp s.hi (get_or xs k y).span.hi) ≡ false)) (sym same) (sym (is_lt-is_gt (get_or xs k y).span.lo span.lo) ∙ fa.2 k y (omega arith) h, sym (is_lt-is_gt (get_or xs k y).span.hi span.hi) ∙ fb.2 k y (omega arith) h))

-- a key is in a span that has begun and hasn't ended
pub holds-agrees : (key : List ℕ) (xs : List Numbered) → All (λ x. holds_it key x ≡ (not (ends_by key x) && begins_by key x)) xs
holds-agrees key xs = λ k d h. holds-cases key (get_or xs k d)

pub front_is : (test : Numbered → Bool) (xs : List Numbered) → (n : ℕ) → n ≤ length xs → AllWithin (λ x. test x ≡ true) xs 0 n × AllWithin (λ x. test x ≡ false) xs n (length xs) → IsFront test xs n
front_is test xs n h p = (h, p.0, p.1)
