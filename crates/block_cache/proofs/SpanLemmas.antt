-- The spans of a cache's runs by their numbers.
use Rattle.std.proofs.Common.{◌≡◌, ◌<◌, ℕ, Bool, true, false, not, cond, nat_eq, ◌==◌, ◌&&◌, ◌⊎◌, inl, inr, List, [], ◌∷◌, ◌++◌, map, filter, length, Option, Some, None, refl, sym, ap, subst, ◌∙◌, arith}
use Rattle.std.specs.List.{AllByRecursion, IsDistinct, find, list_any}
use Rattle.std.specs.Option.{option_map}
use Rattle.std.specs.Map.{keys_of, values_of, lookup, lookup_entry, remove_entry}
use Rattle.std.proofs.lemmas.Bool.{and_parts}
use Rattle.std.proofs.lemmas.Bool.Decides.{nat_tests}
use Rattle.subscript_keys.specs.declared.run.Run.{Run}
use Rattle.subscript_keys.specs.declared.span.Span.{Span}
use Rattle.end_words.specs.Runs.{covers, meets}
use Rattle.span_index.specs.declared.owned.Owned.{Owned}
use Rattle.span_index.specs.declared.found.Found.TheVariants.{Nowhere, Once}
use Rattle.span_index.specs.SpanWords.{found_of, holds, is_of_other, without_owner}
use Rattle.lru.specs.LruCache.{promoted}
use Rattle.block_cache.specs.Numbering.{number_of, owned_by, run_of, Has, IsNumberedBelow, SameSpans}
use Rattle.block_cache.proofs.CacheLemmas.{passes, same_number, filter-found_none, find_none, find-values, found-lookup_entry}
use Rattle.block_cache.proofs.SpanSets.{has-cases, has-filter-from, has-filter-in, has-find, has-left, has-right, any-none, any-some, find-has}

pub has-owned : (e : ℕ × Run) (es : List (ℕ × Run)) → Has e es → Has (owned_by e) (map owned_by es)
has-owned e [] h = absurd h
has-owned e (f ∷ es) h = elim h [ inl s ↦ inl (ap owned_by s) | inr g ↦ inr (has-owned e es g) ]

pub owned-has : (x : Owned) (es : List (ℕ × Run)) → Has x (map owned_by es) → (e : ℕ × Run) × Has e es × (owned_by e ≡ x)
owned-has x [] h = absurd h
owned-has x (f ∷ es) h = elim h [
  | inl s ↦ (f, inl refl, s)
  | inr g ↦ let r = owned-has x es g in (r.0, inr r.1, r.2)
]

same-from : (m n : ℕ) → nat_eq m n ≡ true → m ≡ n
same-from m n e = grind (arith, nat_tests)

not_same : (m n : ℕ) → nat_eq m n ≡ true → nat_eq m n ≡ false → ⊥
not_same m n e f = cc

flipped : (m n : ℕ) → nat_eq m n ≡ nat_eq n m
flipped m n = grind (arith, nat_tests)

below_apart : (m n : ℕ) → m < n → nat_eq m n ≡ false
below_apart m n h = grind (arith, nat_tests)

is_other : (b : Bool) → b ≡ false → not b ≡ true
is_other true e = absurd (cc)
is_other false e = refl

not_other : (b : Bool) → not b ≡ true → b ≡ false
not_other true e = absurd (cc)
not_other false e = refl

found-nowhere : (xs : List Owned) → Nowhere ≡ found_of xs → xs ≡ []
found-nowhere [] e = refl
found-nowhere (x ∷ []) e = cc
found-nowhere (x ∷ y ∷ ys) e = cc

found-once : (n : ℕ) (xs : List Owned) → Once n ≡ found_of xs → (x : Owned) × (xs ≡ x ∷ []) × (x.owner ≡ n)
found-once n [] e = absurd (cc)
found-once n (x ∷ []) e = (x, refl, cc)
found-once n (x ∷ y ∷ ys) e = absurd (cc)

module _ (es : List (ℕ × Run)) (os : List Owned) (same : SameSpans es os) where
  found-among : (key : List ℕ) (f : ℕ × Run) → find (passes (covers key)) es ≡ Some f → Has (owned_by f) (filter (holds key) os)
  found-among key f e =
      let found = find-has (passes (covers key)) f es e in
      has-filter-in (holds key) (owned_by f) os (same.there (owned_by f) (has-owned f es found.0)) found.1

  none-covers : (key : List ℕ) (o : Option (ℕ × Run)) → find (passes (covers key)) es ≡ o → filter (holds key) os ≡ [] → None ≡ option_map number_of o
  none-covers key None e n = refl
  none-covers key (Some f) e n = absurd (subst (Has (owned_by f)) n (found-among key f e))

  -- where the index has none, no run covers the key
  pub cover-nowhere : (key : List ℕ) → Nowhere ≡ found_of (filter (holds key) os) → None ≡ option_map number_of (find (passes (covers key)) es)
  cover-nowhere key e = none-covers key (find (passes (covers key)) es) refl (found-nowhere (filter (holds key) os) e)

  only : (x y : Owned) → Has y (x ∷ []) → x ≡ y
  only x y h = elim h [ inl s ↦ s | inr g ↦ absurd g ]

  -- where it has one, that run is the first
  pub cover-once : (key : List ℕ) (n : ℕ) → Once n ≡ found_of (filter (holds key) os) → Some n ≡ option_map number_of (find (passes (covers key)) es)
  cover-once key n e =
      let one = found-once n (filter (holds key) os) e in
      let kept : Has one.0 (filter (holds key) os) = subst (Has one.0) (sym one.1) (inl refl) in
      let part = has-filter-from (holds key) one.0 os kept in
      let entry = owned-has one.0 es (same.back one.0 part.0) in
      let covered : covers key entry.0.1 ≡ true = subst (λ x. holds key x ≡ true) (sym entry.2) part.1 in
      let first = has-find (passes (covers key)) entry.0 es entry.1 covered in
      let it : one.0 ≡ owned_by first.0 = only one.0 (owned_by first.0) (subst (Has (owned_by first.0)) one.1 (found-among key first.0 first.1)) in
      ap Some (sym one.2 ∙ ap (λ x. x.owner) it) ∙ ap (option_map number_of) (sym first.1)

  none-meets : (span : Span) (o : Option (ℕ × Run)) → find (passes (λ r. meets r.span span)) es ≡ o → list_any (λ x. meets x.span span) os ≡ false → o ≡ None
  none-meets span None e n = refl
  none-meets span (Some f) e n =
      let found = find-has (passes (λ r. meets r.span span)) f es e in
      let not_met : meets f.1.span span ≡ false = any-none (λ x. meets x.span span) (owned_by f) os n (same.there (owned_by f) (has-owned f es found.0)) in
      absurd (let is_met : meets f.1.span span ≡ true = found.1 in cc)

  -- where the index has none that meets the span, all stay
  pub met-none : (span : Span) → list_any (λ x. meets x.span span) os ≡ false → filter (λ r. not (meets r.span span)) (values_of es) ≡ values_of es
  met-none span n = filter-found_none (λ r. meets r.span span) (values_of es) (find_none (λ r. meets r.span span) es (none-meets span (find (passes (λ r. meets r.span span)) es) refl n))

  -- the number of one that meets it is a run's that does
  pub met-some : (span : Span) (n : ℕ) → list_any (λ x. x.owner == n && meets x.span span) os ≡ true → (e : ℕ × Run) × Has e es × (e.0 ≡ n) × (meets e.1.span span ≡ true)
  met-some span n a =
      let one = any-some (λ x. x.owner == n && meets x.span span) os a in
      let parts = and_parts (one.0.owner == n) (meets one.0.span span) one.2 in
      let entry = owned-has one.0 es (same.back one.0 one.1) in
      (entry.0, entry.1, ap (λ x. x.owner) entry.2 ∙ same-from one.0.owner n parts.0, subst (λ x. meets x.span span ≡ true) (sym entry.2) parts.1)

key-all : (P : ℕ → Type 0) (e : ℕ × Run) (es : List (ℕ × Run)) → AllByRecursion P (keys_of es) → Has e es → P e.0
key-all P e [] a h = absurd h
key-all P e (f ∷ es) a h = elim h [ inl s ↦ subst (λ g. P g.0) s a.0 | inr g ↦ key-all P e es a.1 g ]

-- a key is once there
head-apart : (e f : ℕ × Run) (es : List (ℕ × Run)) → AllByRecursion (λ k. nat_eq f.0 k ≡ false) (keys_of es) → nat_eq e.0 f.0 ≡ true → Has e es → ⊥
head-apart e f es a t h = not_same e.0 f.0 t (flipped e.0 f.0 ∙ key-all (λ k. nat_eq f.0 k ≡ false) e es a h)

head-same : (e f : ℕ × Run) → f ≡ e → nat_eq e.0 f.0 ≡ false → ⊥
head-same e f s t = not_same e.0 f.0 (subst (λ g. nat_eq g.0 f.0 ≡ true) s (same_number f.0)) t

module _ (t : Run → Bool) where
  removed-step : (e f : ℕ × Run) (es : List (ℕ × Run)) → AllByRecursion (λ k. nat_eq f.0 k ≡ false) (keys_of es) → nat_eq e.0 f.0 ≡ true → Has e (f ∷ es) → t e.1 ≡ true → t f.1 ≡ true
  removed-step e f es a n h p = elim h [ inl s ↦ subst (λ g. t g.1 ≡ true) (sym s) p | inr g ↦ absurd (head-apart e f es a n g) ]

  rest-has : (e f : ℕ × Run) (es : List (ℕ × Run)) → nat_eq e.0 f.0 ≡ false → Has e (f ∷ es) → Has e es
  rest-has e f es n h = elim h [ inl s ↦ absurd (head-same e f s n) | inr g ↦ g ]

  -- one that passes goes, and what the opposite test keeps stays
  pub filter-removed : (e : ℕ × Run) (es : List (ℕ × Run)) → IsDistinct nat_eq (keys_of es) → Has e es → t e.1 ≡ true → filter (λ r. not (t r)) (values_of (remove_entry (nat_eq e.0) es)) ≡ filter (λ r. not (t r)) (values_of es)
  unfolding IsDistinct
  filter-removed e [] d h p = absurd h
  filter-removed e (f ∷ es) d h p = (elim (nat_eq e.0 f.0) as (λ b. nat_eq e.0 f.0 ≡ b → filter (λ r. not (t r)) (values_of (cond b es (f ∷ remove_entry (nat_eq e.0) es))) ≡ cond (not (t f.1)) (f.1 ∷ filter (λ r. not (t r)) (values_of es)) (filter (λ r. not (t r)) (values_of es))) [
    | true ↦ λ n. rw (removed-step e f es d.0 n h p) refl
    | false ↦ λ n. ap (λ ys. cond (not (t f.1)) (f.1 ∷ ys) ys) (filter-removed e es d.1 (rest-has e f es n h) p)
  ]) refl

pub removed-shorter : (e : ℕ × Run) (es : List (ℕ × Run)) → Has e es → length (remove_entry (nat_eq e.0) es) < length es
removed-shorter e [] h = absurd h
removed-shorter e (f ∷ es) h = (elim (nat_eq e.0 f.0) as (λ b. nat_eq e.0 f.0 ≡ b → length (cond b es (f ∷ remove_entry (nat_eq e.0) es)) < length (f ∷ es)) [
  | true ↦ λ n. omega arith
  | false ↦ λ n. elim h [ inl s ↦ absurd (head-same e f s n) | inr g ↦ omega (arith, removed-shorter e es g) ]
]) refl

module _ (test : ℕ → Bool) where
  pub removed-from : (x : Owned) (es : List (ℕ × Run)) → Has x (map owned_by (remove_entry test es)) → Has x (map owned_by es)
  removed-from x [] h = h
  removed-from x (f ∷ es) h = (elim (test f.0) as (λ b. Has x (map owned_by (cond b es (f ∷ remove_entry test es))) → Has x (map owned_by (f ∷ es))) [
    | true ↦ λ g. inr g
    | false ↦ λ g. elim g [ inl s ↦ inl s | inr k ↦ inr (removed-from x es k) ]
  ]) h

  removed-or : (x : Owned) (e : ℕ × Run) (es : List (ℕ × Run)) → lookup_entry test es ≡ Some e → Has x (map owned_by es) → (owned_by e ≡ x) ⊎ Has x (map owned_by (remove_entry test es))
  removed-or x e [] l h = absurd h
  removed-or x e (f ∷ es) l h = (elim (test f.0) as (λ b. cond b (Some f) (lookup_entry test es) ≡ Some e → (owned_by e ≡ x) ⊎ Has x (map owned_by (cond b es (f ∷ remove_entry test es)))) [
    | true ↦ λ m. let same : f ≡ e = cc in elim h [ inl s ↦ inl (ap owned_by (sym same) ∙ s) | inr g ↦ inr g ]
    | false ↦ λ m. elim h [ inl s ↦ inr (inl s) | inr g ↦ elim (removed-or x e es m g) [ inl s ↦ inl s | inr k ↦ inr (inr k) ] ]
  ]) l

  lookup-entry_value : (e : ℕ × Run) (es : List (ℕ × Run)) → lookup_entry test es ≡ Some e → lookup test es ≡ Some e.1
  lookup-entry_value e [] l = cc
  lookup-entry_value e (f ∷ es) l = (elim (test f.0) as (λ b. cond b (Some f) (lookup_entry test es) ≡ Some e → cond b (Some f.1) (lookup test es) ≡ Some e.1) [
    | true ↦ λ m. let same : f ≡ e = cc in ap (λ g. Some g.1) same
    | false ↦ λ m. lookup-entry_value e es m
  ]) l

removed-in : (n : ℕ) (x : Owned) (es : List (ℕ × Run)) → nat_eq n x.owner ≡ false → Has x (map owned_by es) → Has x (map owned_by (remove_entry (nat_eq n) es))
removed-in n x [] a h = absurd h
removed-in n x (f ∷ es) a h = (elim (nat_eq n f.0) as (λ b. nat_eq n f.0 ≡ b → Has x (map owned_by (cond b es (f ∷ remove_entry (nat_eq n) es)))) [
  | true ↦ λ m. elim h [ inl s ↦ absurd (let same : nat_eq n f.0 ≡ nat_eq n x.owner = ap (λ y. nat_eq n y.owner) s in cc) | inr g ↦ g ]
  | false ↦ λ m. elim h [ inl s ↦ inl s | inr g ↦ inr (removed-in n x es a g) ]
]) refl

removed-other : (n : ℕ) (x : Owned) (es : List (ℕ × Run)) → IsDistinct nat_eq (keys_of es) → Has x (map owned_by (remove_entry (nat_eq n) es)) → nat_eq n x.owner ≡ false
unfolding IsDistinct
removed-other n x [] d h = absurd h
removed-other n x (f ∷ es) d h = (elim (nat_eq n f.0) as (λ b. nat_eq n f.0 ≡ b → Has x (map owned_by (cond b es (f ∷ remove_entry (nat_eq n) es))) → nat_eq n x.owner ≡ false) [
  | true ↦ λ m g.
      let entry = owned-has x es g in
      let is : n ≡ f.0 = same-from n f.0 m in
      ap (λ k. nat_eq k x.owner) is ∙ ap (λ y. nat_eq f.0 y.owner) (sym entry.2) ∙ key-all (λ k. nat_eq f.0 k ≡ false) entry.0 es d.0 entry.1
  | false ↦ λ m g. elim g [ inl s ↦ ap (λ y. nat_eq n y.owner) (sym s) ∙ m | inr k ↦ removed-other n x es d.1 k ]
]) refl h

-- without a number on both sides
pub SameSpans-removed : (n : ℕ) (es : List (ℕ × Run)) (os : List Owned) → IsDistinct nat_eq (keys_of es) → SameSpans es os → SameSpans (remove_entry (nat_eq n) es) (without_owner n os)
SameSpans-removed n es os d same = record {
  there = λ x h. has-filter-in (is_of_other n) x os (same.there x (removed-from (nat_eq n) x es h)) (is_other (x.owner == n) (flipped x.owner n ∙ removed-other n x es d h));
  back = λ x h. let kept = has-filter-from (is_of_other n) x os h in removed-in n x es (flipped n x.owner ∙ not_other (x.owner == n) kept.1) (same.back x kept.0);
}

module _ (t : Run → Bool) (es : List (ℕ × Run)) (e : ℕ × Run) (distinct : IsDistinct nat_eq (keys_of es)) (found : find (passes t) es ≡ Some e) where
  -- a use changes the order alone
  pub SameSpans-promoted : (os : List Owned) → SameSpans es os → SameSpans (promoted (nat_eq e.0) es) os
  SameSpans-promoted os same =
      let it = found-lookup_entry t es e distinct found in
      let moved : SameSpans (e ∷ remove_entry (nat_eq e.0) es) os = record {
        there = λ x h. same.there x (elim h [ inl s ↦ subst (λ y. Has y (map owned_by es)) s (has-owned e es (find-has (passes t) e es found).0) | inr g ↦ removed-from (nat_eq e.0) x es g ]);
        back = λ x h. removed-or (nat_eq e.0) x e es it (same.back x h);
      } in
      rw it moved

  -- the run of the number that was found
  pub lookup-found : lookup (nat_eq e.0) es ≡ find t (values_of es)
  lookup-found = lookup-entry_value (nat_eq e.0) e es (found-lookup_entry t es e distinct found) ∙ sym (find-values t es ∙ ap (option_map run_of) found)

below-has : (n : ℕ) (x : Owned) (es : List (ℕ × Run)) → IsNumberedBelow n es → Has x (map owned_by es) → x.owner < n
below-has n x es b h = let entry = owned-has x es h in subst (λ y. y.owner < n) entry.2 (key-all (λ k. k < n) entry.0 es b entry.1)

has-front : (x : Owned) (xs : List (ℕ × Run)) (d : ℕ × Run) → Has x (map owned_by xs) → Has x (map owned_by (xs ++ d ∷ []))
has-front x [] d h = absurd h
has-front x (f ∷ xs) d h = elim h [ inl s ↦ inl s | inr g ↦ inr (has-front x xs d g) ]

has-last : (x : Owned) (xs : List (ℕ × Run)) (d : ℕ × Run) → Has x (map owned_by (xs ++ d ∷ [])) → Has x (map owned_by xs) ⊎ (owned_by d ≡ x)
has-last x [] d h = elim h [ inl s ↦ inr s | inr g ↦ absurd g ]
has-last x (f ∷ xs) d h = elim h [ inl s ↦ inl (inl s) | inr g ↦ elim (has-last x xs d g) [ inl k ↦ inl (inr k) | inr s ↦ inr s ] ]

last-all : (P : ℕ → Type 0) (xs : List (ℕ × Run)) (d : ℕ × Run) → AllByRecursion P (keys_of (xs ++ d ∷ [])) → P d.0
last-all P [] d a = a.0
last-all P (f ∷ xs) d a = last-all P xs d a.1

last-apart : (x : Owned) (xs : List (ℕ × Run)) (d : ℕ × Run) → IsDistinct nat_eq (keys_of (xs ++ d ∷ [])) → Has x (map owned_by xs) → nat_eq x.owner d.0 ≡ false
unfolding IsDistinct
last-apart x [] d i h = absurd h
last-apart x (f ∷ xs) d i h = elim h [ inl s ↦ ap (λ y. nat_eq y.owner d.0) (sym s) ∙ last-all (λ k. nat_eq f.0 k ≡ false) xs d i.0 | inr g ↦ last-apart x xs d i.1 g ]

module _ (es : List (ℕ × Run)) (os : List Owned) (n : ℕ) (run : Run) (same : SameSpans es os) (below : IsNumberedBelow n es) where
  abbrev pub put : List Owned
  put = os ++ record { owner = n; span = run.span } ∷ []

  put-cases : (x : Owned) → Has x put → Has x os ⊎ (owned_by (n, run) ≡ x)
  put-cases x h = elim (has-cases x os (owned_by (n, run) ∷ []) h) [ inl g ↦ inl g | inr g ↦ elim g [ inl s ↦ inr s | inr k ↦ absurd k ] ]

  -- one more on both sides
  pub SameSpans-put : SameSpans ((n, run) ∷ es) put
  SameSpans-put = record {
    there = λ x h. elim h [ inl s ↦ has-right x os (owned_by (n, run) ∷ []) (inl s) | inr g ↦ has-left x os (owned_by (n, run) ∷ []) (same.there x g) ];
    back = λ x h. elim (put-cases x h) [ inl g ↦ inr (same.back x g) | inr s ↦ inl s ];
  }

  -- one that couldn't be put is let go
  pub SameSpans-kept : SameSpans es (without_owner n put)
  SameSpans-kept = record {
    there = λ x h. has-filter-in (is_of_other n) x put (has-left x os (owned_by (n, run) ∷ []) (same.there x h)) (is_other (x.owner == n) (below_apart x.owner n (below-has n x es below h)));
    back = λ x h.
        let kept = has-filter-from (is_of_other n) x put h in
        elim (put-cases x kept.0) [
          | inl g ↦ same.back x g
          | inr s ↦ absurd (not_same n n (same_number n) (ap (λ y. nat_eq y.owner n) s ∙ not_other (x.owner == n) kept.1))
        ];
  }

  module _ (front : List (ℕ × Run)) (d : ℕ × Run) (whole : es ≡ front ++ d ∷ []) (distinct : IsDistinct nat_eq (keys_of es)) where
    apart-last : IsDistinct nat_eq (keys_of (front ++ d ∷ []))
    apart-last = subst (λ fs. IsDistinct nat_eq (keys_of fs)) whole distinct

    last-below : d.0 < n
    last-below = last-all (λ k. k < n) front d (subst (IsNumberedBelow n) whole below)

    -- one more, and the last one goes
    pub SameSpans-evicted : SameSpans ((n, run) ∷ front) (without_owner d.0 put)
    SameSpans-evicted = record {
      there = λ x h. elim h [
        | inl s ↦ has-filter-in (is_of_other d.0) x put (has-right x os (owned_by (n, run) ∷ []) (inl s)) (is_other (x.owner == d.0) (ap (λ y. nat_eq y.owner d.0) (sym s) ∙ flipped n d.0 ∙ below_apart d.0 n last-below))
        | inr g ↦ has-filter-in (is_of_other d.0) x put (has-left x os (owned_by (n, run) ∷ []) (same.there x (subst (λ fs. Has x (map owned_by fs)) (sym whole) (has-front x front d g)))) (is_other (x.owner == d.0) (last-apart x front d apart-last g))
      ];
      back = λ x h.
          let kept = has-filter-from (is_of_other d.0) x put h in
          elim (put-cases x kept.0) [
            | inl g ↦ elim (has-last x front d (subst (λ fs. Has x (map owned_by fs)) whole (same.back x g))) [
              | inl k ↦ inr k
              | inr s ↦ absurd (not_same d.0 d.0 (same_number d.0) (ap (λ y. nat_eq y.owner d.0) s ∙ not_other (x.owner == d.0) kept.1))
            ]
            | inr s ↦ inl s
          ];
    }
