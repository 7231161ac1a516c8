-- The pairs of a span, removed one after another by their keys, are those pairs, and what is left is what is out of the span.
use Rattle.std.proofs.Common.{◌≡◌, ◌<◌, ◌+◌, ◌-◌, ◌++◌, ℕ, Bool, true, false, not, cond, List, [], ◌∷◌, Some, length, drop, refl, sym, ap, ◌∙◌, arith}
use Rattle.std.specs.List.{filter}
use Rattle.std.specs.Map.{keys_of}
use Rattle.std.specs.Ordering.{is_eq, is_lt, is_gt}
use Rattle.std.proofs.lemmas.Bool.{and_parts, and_from}
use Rattle.std.proofs.lemmas.List.Filters.{sum_by-filter_both}
use Rattle.subscript_keys.specs.declared.span.Span.{Span}
use Rattle.subscript_keys.proofs.Ties.{itself}
use Rattle.plain_orders.specs.PairMap.{Map, key_cmp, value_at, remove, is_in, within}
use Rattle.plain_orders.proofs.Values.{its_key}
use Rattle.span_index.proofs.KeyLemmas.{is_lt-is_gt, not_true, not_above_along, below_along}
use Rattle.block_tree.specs.declared.leaf.Leaf.{Leaf}
use Rattle.block_tree.specs.TreeWords.{is_out, without, size, size_of}
use Rattle.block_tree.specs.LeafWords.{begin_of, first_bytes, span_from, united, IsLeaf, AreLeaves, IsInLeaf, AreFreed}
use Rattle.block_tree.proofs.LeafLemmas.{leaf_there, counted_leaves}
use Rattle.block_tree.specs.Removals.{all_removed, all_found, found_with, bytes_left, bytes_without}
use Rattle.block_tree.proofs.SizeLemmas.{more, fewer}

-- below one that isn't above another
below_by : (x y z : List ℕ) → is_lt (key_cmp x y) ≡ true → is_gt (key_cmp y z) ≡ false → is_lt (key_cmp x z) ≡ true
below_by x y z l h = is_lt-is_gt x z ∙ go (is_gt (key_cmp z x)) refl
  where
    go : (b : Bool) → is_gt (key_cmp z x) ≡ b → b ≡ true
    go true e = refl
    go false e = let up = not_above_along y z x h e in absurd (let t = sym (is_lt-is_gt x y) ∙ l in cc)

no_true : (b : Bool) → (b ≡ true → ⊥) → b ≡ false
no_true true f = absurd (f refl)
no_true false f = refl

first_passes : (f : List ℕ × List ℕ → Bool) (m : Map) (p : List ℕ × List ℕ) (ps : Map) → filter f m ≡ p ∷ ps → f p ≡ true
first_passes f [] p ps e = absurd (cc)
first_passes f (q ∷ qs) p ps e = go (f q) refl e (first_passes f qs p ps)
  where
    go : (b : Bool) → f q ≡ b → cond b (q ∷ filter f qs) (filter f qs) ≡ p ∷ ps → (filter f qs ≡ p ∷ ps → f p ≡ true) → f p ≡ true
    go true t e rest = let same : q ≡ p = cc in ap f (sym same) ∙ t
    go false t e rest = rest e

module _ (span : Span) where
  -- the first pair of the span, removed by its key
  step : (m : Map) (p : List ℕ × List ℕ) (ps : Map) → within m span ≡ p ∷ ps
      → (value_at m p.0 ≡ Some p.1) × (within (remove m p.0) span ≡ ps) × (without (remove m p.0) span ≡ without m span)
  step [] p ps e = absurd (cc)
  step (q ∷ qs) p ps e = go (is_in span q) refl e (step qs p ps)
    where
      go : (b : Bool) → is_in span q ≡ b → cond b (q ∷ within qs span) (within qs span) ≡ p ∷ ps
          → (within qs span ≡ p ∷ ps → (value_at qs p.0 ≡ Some p.1) × (within (remove qs p.0) span ≡ ps) × (without (remove qs p.0) span ≡ without qs span))
          → (value_at (q ∷ qs) p.0 ≡ Some p.1) × (within (remove (q ∷ qs) p.0) span ≡ ps) × (without (remove (q ∷ qs) p.0) span ≡ without (q ∷ qs) span)
      go true t e rest =
          let same : q ≡ p = cc in
          let others : within qs span ≡ ps = cc in
          let here : is_eq (key_cmp p.0 q.0) ≡ true = ap (λ k. is_eq (key_cmp p.0 k.0)) same ∙ ap is_eq (itself p.0) in
          rw (here, t) (ap (λ x. Some x.1) same, others, refl)
      go false t e rest =
          let r = rest e in
          let passes = first_passes (is_in span) qs p ps e in
          let apart : is_eq (key_cmp p.0 q.0) ≡ false = no_true (is_eq (key_cmp p.0 q.0)) (λ x. clash passes (its_key p.0 q.0 x)) in
          rw (apart, t) (r.0, r.1, ap (λ xs. q ∷ xs) r.2)
        where
          clash : is_in span p ≡ true → p.0 ≡ q.0 → ⊥
          clash x y = let z : is_in span p ≡ is_in span q = ap (λ k. is_in span (k, [])) y in cc

  none_in : (m : Map) → within m span ≡ [] → m ≡ without m span
  none_in [] e = refl
  none_in (q ∷ qs) e = go (is_in span q) e (none_in qs)
    where
      go : (b : Bool) → cond b (q ∷ within qs span) (within qs span) ≡ [] → (within qs span ≡ [] → qs ≡ without qs span)
          → q ∷ qs ≡ cond (not b) (q ∷ without qs span) (without qs span)
      go true e rest = absurd (cc)
      go false e rest = ap (λ xs. q ∷ xs) (rest e)

  -- all of them
  removals : (m ps : Map) → within m span ≡ ps → (all_removed m (keys_of ps) ≡ without m span) × (all_found m (keys_of ps) ≡ ps)
  removals m [] e = (none_in m e, refl)
  removals m (p ∷ ps) e =
      let s = step m p ps e in
      let r = removals (remove m p.0) ps s.1 in
      (r.0 ∙ s.2, ap (λ o. found_with p.0 o ++ all_found (remove m p.0) (keys_of ps)) s.0 ∙ ap (λ xs. p ∷ xs) r.1)

  left_from : (bytes : ℕ) (m ps : Map) → within m span ≡ ps → bytes_left bytes m (keys_of ps) ≡ bytes - size ps
  left_from bytes m [] e = omega arith
  left_from bytes m (p ∷ ps) e =
      let s = step m p ps e in
      let r = left_from (bytes - size_of p) (remove m p.0) ps s.1 in
      let less : bytes - size_of p - size ps ≡ bytes - size (p ∷ ps) = omega (arith, more p ps) in
      ap (λ o. bytes_left (bytes_without bytes p.0 o) (remove m p.0) (keys_of ps)) s.0 ∙ r ∙ less

  -- so the pairs of a span are found and removed by these keys, and the count is that of what is left
  module _ (m : Map) (keys : List (List ℕ)) (e : keys ≡ keys_of (within m span)) where
    pub span_removed : all_removed m keys ≡ without m span
    span_removed = ap (all_removed m) e ∙ (removals m (within m span) refl).0

    pub span_found : all_found m keys ≡ within m span
    span_found = ap (all_found m) e ∙ (removals m (within m span) refl).1

    pub count_left : (bytes : ℕ) → bytes ≡ size m → bytes_left bytes m keys ≡ size (without m span)
    count_left bytes f =
        let both = sum_by-filter_both (is_in span) (is_out span) (λ p. refl) size_of m in
        ap (bytes_left bytes m) e ∙ omega (arith, left_from bytes m (within m span) refl, both, f)

-- no pair is in an empty span
pub empty_span : (span : Span) (m : Map) → is_lt (key_cmp span.lo span.hi) ≡ false → (within m span ≡ []) × (without m span ≡ m)
empty_span span [] e = (refl, refl)
empty_span span (p ∷ ps) e =
    let rest = empty_span span ps e in
    let out : is_in span p ≡ false = no_true (is_in span p) none in
    rw out (rest.0, ap (λ xs. p ∷ xs) rest.1)
  where
    none : is_in span p ≡ true → ⊥
    none t =
        let parts = and_parts (not (is_gt (key_cmp span.lo p.0))) (is_lt (key_cmp p.0 span.hi)) t in
        let full = below_along span.lo p.0 span.hi (not_true (is_gt (key_cmp span.lo p.0)) parts.0) parts.1 in
        cc (full, e)

-- leaves of fewer pairs
pub fewer_leaves : (f : List ℕ × List ℕ → Bool) (m : Map) (ls : List Leaf) → AreLeaves m ls → AreLeaves (filter f m) ls
fewer_leaves f m [] a = tt
fewer_leaves f m (l ∷ ls) a =
    let leaf : IsLeaf (filter f m) l (begin_of ls) = record {
      full = a.0.full;
      short = a.0.short;
      counted = omega (arith, a.0.counted, fewer f (is_in (record { lo = l.lo; hi = begin_of ls })) m);
      fits = a.0.fits;
    } in
    (leaf, fewer_leaves f m ls a.1)

-- what is freed in a span that holds another
freed_within : (span leaf : Span) → ((p : List ℕ × List ℕ) → is_in span p ≡ true → is_in leaf p ≡ true) → (m : Map)
    → size (within (without m span) leaf) + size (within m span) ≡ size (within m leaf)
freed_within span leaf h [] = omega arith
freed_within span leaf h (p ∷ ps) = go (is_in span p) (is_in leaf p) refl refl (freed_within span leaf h ps)
  where
    go : (a b : Bool) → is_in span p ≡ a → is_in leaf p ≡ b → size (within (without ps span) leaf) + size (within ps span) ≡ size (within ps leaf)
        → size (within (cond (not a) (p ∷ without ps span) (without ps span)) leaf) + size (cond a (p ∷ within ps span) (within ps span)) ≡ size (cond b (p ∷ within ps leaf) (within ps leaf))
    go true true e f ih = omega (arith, ih, more p (within ps span), more p (within ps leaf))
    go true false e f ih = absurd (let t = h p e in cc)
    go false true e f ih = rw f (omega (arith, ih, more p (within (without ps span) leaf), more p (within ps leaf)))
    go false false e f ih = rw f ih

pub all_freed : (m : Map) (ls : List Leaf) (span : Span) (freed : ℕ) → AreLeaves m ls → freed ≡ size (within m span) → AreFreed (without m span) ls span freed
all_freed m ls span freed a e at h inside =
    let leaf = leaf_there m ls at h a in
    let s : Span = span_from ls at (at + 1) in
    omega (arith, leaf.counted, e, freed_within span s wider m)
  where
    wider : (p : List ℕ × List ℕ) → is_in span p ≡ true → is_in (span_from ls at (at + 1)) p ≡ true
    wider p t =
        let parts = and_parts (not (is_gt (key_cmp span.lo p.0))) (is_lt (key_cmp p.0 span.hi)) t in
        and_from _ _ (ap not (not_above_along (begin_of (drop at ls)) span.lo p.0 inside.from (not_true (is_gt (key_cmp span.lo p.0)) parts.0)))
        (below_by p.0 span.hi (begin_of (drop (at + 1) ls)) parts.1 inside.to)

-- the bytes that are freed are those of the pairs of the span
pub freed_bytes : (m : Map) (span : Span) (before after : ℕ) → before ≡ size m → after ≡ size (without m span) → before - after ≡ size (within m span)
freed_bytes m span before after e f = omega (arith, e, f, sum_by-filter_both (is_in span) (is_out span) (λ p. refl) size_of m)

-- fewer bytes are taken where so many are freed
pub freed_leaves : (m : Map) (ls : List Leaf) (span : Span) (freed at bytes : ℕ) → AreLeaves m ls → AreFreed m ls span freed → at < length ls
    → IsInLeaf span ls at → bytes ≡ first_bytes (drop at ls) - freed → AreLeaves m (united ls at (at + 1) bytes)
freed_leaves m ls span freed at bytes a f h inside e =
    let leaf = leaf_there m ls at h a in
    counted_leaves m ls at bytes h a (omega (arith, f at h inside, e)) (omega (arith, leaf.fits, e))
