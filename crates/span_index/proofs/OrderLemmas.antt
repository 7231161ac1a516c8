-- The order of the numbers: what putting in, filtering and changing places make of it.
use Rattle.std.proofs.Common.{◌≡◌, ◌≤◌, ◌<◌, ℕ, zero, suc, Bool, true, false, cond, nat_eq, nat_lt, ◌||◌, ◌⊎◌, inl, inr, ◌↔◌, List, [], ◌∷◌, ◌++◌, map, filter, length, get_or, Contains, refl, sym, ap, subst, ◌∙◌, arith}
use Rattle.std.specs.List.{AllByRecursion, IsDistinct, list_any}
use Rattle.std.specs.List.Sorted.{IsPermutation}
use Rattle.std.proofs.lemmas.Bool.Decides.{nat_tests}
use Rattle.std.proofs.lemmas.List.Sorted.{IsPermutation-sym, Contains-permutation}
use Rattle.span_index.specs.declared.numbered.Numbered.{Numbered}
use Rattle.span_index.specs.SpanWords.{put_in, in_order}
use Rattle.span_index.specs.Indexes.{number_of}

-- no number is below an earlier one
abbrev pub Sorted : List Numbered → Type 0
Sorted [] = Unit {0}
Sorted (x ∷ xs) = AllByRecursion (λ y. x.number ≤ y.number) xs × Sorted xs

-- each number is below all later ones
abbrev pub Strict : List Numbered → Type 0
Strict [] = Unit {0}
Strict (x ∷ xs) = AllByRecursion (λ y. x.number < y.number) xs × Strict xs

lt-from : (m n : ℕ) → nat_lt m n ≡ true → m < n
lt-from m n e = grind (arith, nat_tests)

le-from : (m n : ℕ) → nat_lt m n ≡ false → n ≤ m
le-from m n e = grind (arith, nat_tests)

not_lt : (m n : ℕ) → n ≤ m → nat_lt m n ≡ false
not_lt m n h = grind (arith, nat_tests)

is_lt : (m n : ℕ) → m < n → nat_lt m n ≡ true
is_lt m n h = grind (arith, nat_tests)

other : (m n : ℕ) → nat_eq m n ≡ false → nat_lt n m ≡ false → m < n
other m n e f = grind (arith, nat_tests)

pub all-weaker : {X : Type 0} (P Q : X → Type 0) → ((x : X) → P x → Q x) → (xs : List X) → AllByRecursion P xs → AllByRecursion Q xs
all-weaker P Q f [] a = tt
all-weaker P Q f (x ∷ xs) a = (f x a.0, all-weaker P Q f xs a.1)

pub all-filter : {X : Type 0} (P : X → Type 0) (t : X → Bool) (xs : List X) → AllByRecursion P xs → AllByRecursion P (filter t xs)
all-filter P t [] a = tt
all-filter P t (x ∷ xs) a = elim (t x) as (λ b. AllByRecursion P (cond b (x ∷ filter t xs) (filter t xs))) [ true ↦ (a.0, all-filter P t xs a.1) | false ↦ all-filter P t xs a.1 ]

all-put_in : (P : Numbered → Type 0) (x : Numbered) (ys : List Numbered) → P x → AllByRecursion P ys → AllByRecursion P (put_in x ys)
all-put_in P x [] p a = (p, tt)
all-put_in P x (y ∷ ys) p a = elim (nat_lt y.number x.number) as (λ b. AllByRecursion P (cond b (y ∷ put_in x ys) (x ∷ y ∷ ys))) [ true ↦ (a.0, all-put_in P x ys p a.1) | false ↦ (p, a) ]

pub all-in_order : (P : Numbered → Type 0) (xs : List Numbered) → AllByRecursion P xs → AllByRecursion P (in_order xs)
all-in_order P [] a = tt
all-in_order P (x ∷ xs) a = all-put_in P x (in_order xs) a.0 (all-in_order P xs a.1)

sorted-put_in : (x : Numbered) (ys : List Numbered) → Sorted ys → Sorted (put_in x ys)
sorted-put_in x [] s = (tt, tt)
sorted-put_in x (y ∷ ys) s = (elim (nat_lt y.number x.number) as (λ b. nat_lt y.number x.number ≡ b → Sorted (cond b (y ∷ put_in x ys) (x ∷ y ∷ ys))) [
  | true ↦ λ e. (all-put_in (λ z. y.number ≤ z.number) x ys (let l = lt-from y.number x.number e in omega arith) s.0, sorted-put_in x ys s.1)
  | false ↦ λ e. let l = le-from y.number x.number e in ((l, all-weaker (λ z. y.number ≤ z.number) (λ z. x.number ≤ z.number) (λ z h. omega (arith, l, h)) ys s.0), s)
]) refl

sorted-in_order : (xs : List Numbered) → Sorted (in_order xs)
sorted-in_order [] = tt
sorted-in_order (x ∷ xs) = sorted-put_in x (in_order xs) (sorted-in_order xs)

-- one that is behind none goes first
put_in-first : (x : Numbered) (ys : List Numbered) → AllByRecursion (λ y. x.number ≤ y.number) ys → put_in x ys ≡ x ∷ ys
put_in-first x [] a = refl
put_in-first x (y ∷ ys) a = rw (not_lt y.number x.number a.0) refl

-- what is in order stays
pub in_order-sorted : (xs : List Numbered) → Sorted xs → in_order xs ≡ xs
in_order-sorted [] s = refl
in_order-sorted (x ∷ xs) s = ap (put_in x) (in_order-sorted xs s.1) ∙ put_in-first x xs s.0

-- a filter before and after
module _ (t : Numbered → Bool) where
  behind : (b d : Bool) (x y : Numbered) (F : List Numbered) → nat_lt y.number x.number ≡ true → cond d (y ∷ cond b (put_in x F) F) (cond b (put_in x F) F) ≡ cond b (put_in x (cond d (y ∷ F) F)) (cond d (y ∷ F) F)
  behind true true x y F e = rw e refl
  behind true false x y F e = refl
  behind false true x y F e = refl
  behind false false x y F e = refl

  filter-put_in : (x : Numbered) (ys : List Numbered) → Sorted ys → filter t (put_in x ys) ≡ cond (t x) (put_in x (filter t ys)) (filter t ys)
  filter-put_in x [] s = elim (t x) as (λ b. cond b (x ∷ []) [] ≡ cond b (x ∷ []) []) [ true ↦ refl | false ↦ refl ]
  filter-put_in x (y ∷ ys) s = (elim (nat_lt y.number x.number) as (λ b. nat_lt y.number x.number ≡ b → filter t (cond b (y ∷ put_in x ys) (x ∷ y ∷ ys)) ≡ cond (t x) (put_in x (filter t (y ∷ ys))) (filter t (y ∷ ys))) [
    | true ↦ λ e. ap (λ F. cond (t y) (y ∷ F) F) (filter-put_in x ys s.1) ∙ behind (t x) (t y) x y (filter t ys) e
    | false ↦ λ e.
        let l = le-from y.number x.number e in
        let all = all-filter (λ z. x.number ≤ z.number) t (y ∷ ys) (l, all-weaker (λ z. y.number ≤ z.number) (λ z. x.number ≤ z.number) (λ z h. omega (arith, l, h)) ys s.0) in
        ap (λ F. cond (t x) F (filter t (y ∷ ys))) (sym (put_in-first x (filter t (y ∷ ys)) all))
  ]) refl

  pub filter-in_order : (xs : List Numbered) → filter t (in_order xs) ≡ in_order (filter t xs)
  filter-in_order [] = refl
  filter-in_order (x ∷ xs) =
      filter-put_in x (in_order xs) (sorted-in_order xs)
      ∙ ap (λ F. cond (t x) (put_in x F) F) (filter-in_order xs)
      ∙ (elim (t x) as (λ b. cond b (put_in x (in_order (filter t xs))) (in_order (filter t xs)) ≡ in_order (cond b (x ∷ filter t xs) (filter t xs))) [ true ↦ refl | false ↦ refl ])

-- one above all goes last
put_in-last : (x : Numbered) (ys : List Numbered) → AllByRecursion (λ y. y.number < x.number) ys → put_in x ys ≡ ys ++ x ∷ []
put_in-last x [] a = refl
put_in-last x (y ∷ ys) a = rw (is_lt y.number x.number a.0) (ap (λ zs. y ∷ zs) (put_in-last x ys a.1))

put_in-before : (z x : Numbered) (ws : List Numbered) → z.number < x.number → put_in z (ws ++ x ∷ []) ≡ put_in z ws ++ x ∷ []
put_in-before z x [] h = let l : z.number ≤ x.number = omega arith in rw (not_lt x.number z.number l) refl
put_in-before z x (w ∷ ws) h = elim (nat_lt w.number z.number) as (λ b. cond b (w ∷ put_in z (ws ++ x ∷ [])) (z ∷ w ∷ (ws ++ x ∷ [])) ≡ cond b (w ∷ put_in z ws) (z ∷ w ∷ ws) ++ x ∷ []) [
  | true ↦ ap (λ zs. w ∷ zs) (put_in-before z x ws h)
  | false ↦ refl
]

pub in_order-last : (xs : List Numbered) (x : Numbered) (ys : List Numbered) → AllByRecursion (λ y. y.number < x.number) (xs ++ ys) → in_order (xs ++ x ∷ ys) ≡ in_order (xs ++ ys) ++ x ∷ []
in_order-last [] x ys a = put_in-last x (in_order ys) (all-in_order (λ y. y.number < x.number) ys a)
in_order-last (z ∷ xs) x ys a = ap (put_in z) (in_order-last xs x ys a.1) ∙ put_in-before z x (in_order (xs ++ ys)) a.0

-- whether one of them passes
or-swapped : (a b c : Bool) → (a || (b || c)) ≡ (b || (a || c))
or-swapped true true c = refl
or-swapped true false c = refl
or-swapped false true c = refl
or-swapped false false c = refl

module _ (t : Numbered → Bool) where
  any-put_in : (x : Numbered) (ys : List Numbered) → list_any t (put_in x ys) ≡ (t x || list_any t ys)
  any-put_in x [] = refl
  any-put_in x (y ∷ ys) = elim (nat_lt y.number x.number) as (λ b. list_any t (cond b (y ∷ put_in x ys) (x ∷ y ∷ ys)) ≡ (t x || (t y || list_any t ys))) [
    | true ↦ ap (λ b. t y || b) (any-put_in x ys) ∙ or-swapped (t y) (t x) (list_any t ys)
    | false ↦ refl
  ]

  pub any-in_order : (xs : List Numbered) → list_any t (in_order xs) ≡ list_any t xs
  any-in_order [] = refl
  any-in_order (x ∷ xs) = any-put_in x (in_order xs) ∙ ap (λ b. t x || b) (any-in_order xs)

-- it is one of them
abbrev pub Has : Numbered → List Numbered → Type 0
Has x [] = ⊥
Has x (y ∷ ys) = (y ≡ x) ⊎ Has x ys

contains-has : (x : Numbered) (xs : List Numbered) (k : ℕ) → k < length xs → get_or xs k x ≡ x → Has x xs
contains-has x [] k l e = absurd (omega arith)
contains-has x (y ∷ ys) zero l e = inl e
contains-has x (y ∷ ys) (suc k) l e = inr (contains-has x ys k (omega arith) e)

has-contains : (x : Numbered) (xs : List Numbered) → Has x xs → Contains xs x
has-contains x [] h = absurd h
has-contains x (y ∷ ys) h = elim h [
  | inl e ↦ (0, omega arith, e)
  | inr g ↦ let c = has-contains x ys g in (suc c.0, omega (arith, c.1), c.2)
]

pub has-permutation : (xs ys : List Numbered) → IsPermutation xs ys → (x : Numbered) → Has x xs → Has x ys
has-permutation xs ys p x h = let c = Contains-permutation xs ys x p (has-contains x xs h) in contains-has x ys c.0 c.1 c.2

has-all : (P : Numbered → Type 0) (x : Numbered) (xs : List Numbered) → AllByRecursion P xs → Has x xs → P x
has-all P x [] a h = absurd h
has-all P x (y ∷ ys) a h = elim h [ inl e ↦ subst P e a.0 | inr g ↦ has-all P x ys a.1 g ]

has-put_in : (z x : Numbered) (ys : List Numbered) → Has z (put_in x ys) ↔ Has z (x ∷ ys)
has-put_in z x [] = (λ h. h, λ h. h)
has-put_in z x (y ∷ ys) = elim (nat_lt y.number x.number) as (λ b. Has z (cond b (y ∷ put_in x ys) (x ∷ y ∷ ys)) ↔ Has z (x ∷ y ∷ ys)) [
  | true ↦
      let on = has-put_in z x ys in (
        λ h. elim h [ inl e ↦ inr (inl e) | inr g ↦ elim (on.0 g) [ inl e ↦ inl e | inr k ↦ inr (inr k) ] ],
        λ h. elim h [ inl e ↦ inr (on.1 (inl e)) | inr g ↦ elim g [ inl e ↦ inl e | inr k ↦ inr (on.1 (inr k)) ] ],
      )
  | false ↦ (λ h. h, λ h. h)
]

has-in_order : (z : Numbered) (xs : List Numbered) → Has z (in_order xs) ↔ Has z xs
has-in_order z [] = (λ h. h, λ h. h)
has-in_order z (x ∷ xs) =
    let on = has-in_order z xs in
    let put = has-put_in z x (in_order xs) in
    (λ h. elim (put.0 h) [ inl e ↦ inl e | inr g ↦ inr (on.0 g) ], λ h. elim h [ inl e ↦ put.1 (inl e) | inr g ↦ put.1 (inr (on.1 g)) ])

strict-put_in : (x : Numbered) (ys : List Numbered) → AllByRecursion (λ y. nat_eq x.number y.number ≡ false) ys → Strict ys → Strict (put_in x ys)
strict-put_in x [] a s = (tt, tt)
strict-put_in x (y ∷ ys) a s = (elim (nat_lt y.number x.number) as (λ b. nat_lt y.number x.number ≡ b → Strict (cond b (y ∷ put_in x ys) (x ∷ y ∷ ys))) [
  | true ↦ λ e. (all-put_in (λ z. y.number < z.number) x ys (lt-from y.number x.number e) s.0, strict-put_in x ys a.1 s.1)
  | false ↦ λ e. let l = other x.number y.number a.0 e in ((l, all-weaker (λ z. y.number < z.number) (λ z. x.number < z.number) (λ z h. omega (arith, l, h)) ys s.0), s)
]) refl

all-from_map : (P : ℕ → Type 0) (xs : List Numbered) → AllByRecursion P (map number_of xs) → AllByRecursion (λ x. P x.number) xs
all-from_map P [] a = tt
all-from_map P (x ∷ xs) a = (a.0, all-from_map P xs a.1)

strict-in_order : (xs : List Numbered) → IsDistinct nat_eq (map number_of xs) → Strict (in_order xs)
unfolding IsDistinct
strict-in_order [] d = tt
strict-in_order (x ∷ xs) d =
    strict-put_in x (in_order xs) (all-in_order (λ y. nat_eq x.number y.number ≡ false) xs (all-from_map (λ n. nat_eq x.number n ≡ false) xs d.0)) (strict-in_order xs d.1)

-- two lists in order with the same elements
strict_heads : (u v : Numbered) (us vs : List Numbered) → Strict (u ∷ us) → Strict (v ∷ vs) → Has u (v ∷ vs) → Has v (u ∷ us) → u ≡ v
strict_heads u v us vs s r h g = elim h [
  | inl e ↦ sym e
  | inr k ↦ elim g [
    | inl e ↦ e
    | inr m ↦
        let below : v.number < u.number = has-all (λ z. v.number < z.number) u vs r.0 k in
        let above : u.number < v.number = has-all (λ z. u.number < z.number) v us s.0 m in
        absurd (omega arith)
  ]
]

strict_tail : (u v : Numbered) (us vs : List Numbered) → u ≡ v → Strict (u ∷ us) → ((x : Numbered) → Has x (u ∷ us) → Has x (v ∷ vs)) → (x : Numbered) → Has x us → Has x vs
strict_tail u v us vs e s there x h = elim (there x (inr h)) [
  | inl same ↦
      let above : u.number < x.number = has-all (λ z. u.number < z.number) x us s.0 h in
      let even : u.number ≡ x.number = ap number_of (e ∙ same) in
      absurd (omega arith)
  | inr g ↦ g
]

strict_same : (us vs : List Numbered) → Strict us → Strict vs → ((x : Numbered) → Has x us → Has x vs) → ((x : Numbered) → Has x vs → Has x us) → us ≡ vs
strict_same [] [] s r there back = refl
strict_same [] (v ∷ vs) s r there back = absurd (back v (inl refl))
strict_same (u ∷ us) [] s r there back = absurd (there u (inl refl))
strict_same (u ∷ us) (v ∷ vs) s r there back =
    let head : u ≡ v = strict_heads u v us vs s r (there u (inl refl)) (back v (inl refl)) in
    let tail : us ≡ vs = strict_same us vs s.1 r.1 (strict_tail u v us vs head s there) (strict_tail v u vs us (sym head) r back) in
    ap (λ w. w ∷ us) head ∙ ap (λ ws. v ∷ ws) tail

-- numbers that differ have one order, whatever their places are
pub in_order-permutation : (xs ys : List Numbered) → IsDistinct nat_eq (map number_of xs) → IsDistinct nat_eq (map number_of ys) → IsPermutation xs ys → in_order xs ≡ in_order ys
in_order-permutation xs ys d f p =
    strict_same (in_order xs) (in_order ys) (strict-in_order xs d) (strict-in_order ys f)
    (λ x h. (has-in_order x ys).1 (has-permutation xs ys p x ((has-in_order x xs).0 h)))
    (λ x h. (has-in_order x xs).1 (has-permutation ys xs (IsPermutation-sym xs ys p) x ((has-in_order x ys).0 h)))
