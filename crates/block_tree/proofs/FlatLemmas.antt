-- A walk over pairs that are cut into runs from their front, and pairs that stay within their limits.
use Rattle.std.proofs.Common.{◌≡◌, ◌≤◌, ◌+◌, ◌++◌, ◌∙◌, ℕ, Bool, true, false, not, cond, ◌&&◌, List, [], ◌∷◌, length, Option, Some, None, Bor, refl, sym, ap, subst, arith, append_assoc}
use Rattle.std.specs.List.{filter}
use Rattle.std.specs.Ordering.{is_lt, is_gt, match_ordering}
use Rattle.std.specs.Prelude.{nat_lt}
use Rattle.std.proofs.lemmas.Bool.{false≢true, ltb-false}
use Rattle.std.specs.declared.cmp.Ordering.{Ordering}
use Rattle.std.specs.declared.cmp.Ordering.TheVariants.{Less, Equal, Greater}
use Rattle.subscript_keys.specs.declared.limits.TheConstants.{KEY_LIMIT, VALUE_LIMIT}
use Rattle.plain_orders.specs.PairMap.{Map, key_cmp, put, is_in, within, IsBeforeAll, IsRising}
use Rattle.plain_orders.proofs.RisingLemmas.{before_behind}
use Rattle.span_index.proofs.KeyLemmas.{is_lt-is_gt, not_above_along, not_above_itself}
use Rattle.block_tree.specs.TreeWords.{end_of_keys, size, size_of}
use Rattle.block_tree.specs.FlatWords.{AreShort, IsEdge, IsShort, StandsAt, size_between}
use Rattle.block_tree.proofs.RemovalLemmas.{empty_span}
use Rattle.block_tree.proofs.SizeLemmas.{more}

-- pairs within their limits, with one more
pub put_short : (k v : List ℕ) (m : Map) → length k ≤ KEY_LIMIT → length v ≤ VALUE_LIMIT → AreShort m → AreShort (put m k v)
put_short k v [] a b h = (record { key = a; value = b }, tt)
put_short k v (p ∷ ps) a b h = go (key_cmp k p.0) (put_short k v ps a b h.1)
  where
    go : (o : Ordering) → AreShort (put ps k v) → AreShort (match_ordering o ((k, v) ∷ p ∷ ps) ((p.0, v) ∷ ps) (p ∷ put ps k v))
    go Less rest = (record { key = a; value = b }, h)
    go Equal rest = (record { key = h.0.key; value = b }, h.1)
    go Greater rest = (h.0, rest)

-- and a part of them
pub part_short : (f : List ℕ × List ℕ → Bool) (m : Map) → AreShort m → AreShort (filter f m)
part_short f [] h = tt
part_short f (p ∷ ps) h = go (f p) (part_short f ps h.1)
  where
    go : (t : Bool) → AreShort (filter f ps) → AreShort (cond t (p ∷ filter f ps) (filter f ps))
    go true rest = (h.0, rest)
    go false rest = rest

-- one of them
pub one_short : (front : Map) (p : List ℕ × List ℕ) (rest : Map) → AreShort (front ++ p ∷ rest) → IsShort p
one_short [] p rest h = h.0
one_short (q ∷ qs) p rest h = one_short qs p rest h.1

-- no pair stands below the first
none_below : (lo key : List ℕ) (m : Map) → IsBeforeAll key m → IsRising m → within m (record { lo = lo; hi = key }) ≡ []
none_below lo key [] b r = refl
none_below lo key (p ∷ ps) b r = rw out (none_below lo key ps (before_behind key p.0 ps b r.0) r.1)
  where
    and_false : (t : Bool) → (t && false) ≡ false
    and_false true = refl
    and_false false = refl

    out : (not (is_gt (key_cmp lo p.0)) && is_lt (key_cmp p.0 key)) ≡ false
    out = ap (λ t. not (is_gt (key_cmp lo p.0)) && t) (is_lt-is_gt p.0 key ∙ ap is_gt b) ∙ and_false (not (is_gt (key_cmp lo p.0)))

from_first : (lo : List ℕ) (p : List ℕ × List ℕ) (ps : Map) → IsRising (p ∷ ps) → within (p ∷ ps) (record { lo = lo; hi = p.0 }) ≡ []
from_first lo p ps r = rw out (none_below lo p.0 ps r.0 r.1)
  where
    and_false : (t : Bool) → (t && false) ≡ false
    and_false true = refl
    and_false false = refl

    out : (not (is_gt (key_cmp lo p.0)) && is_lt (key_cmp p.0 p.0)) ≡ false
    out = ap (λ t. not (is_gt (key_cmp lo p.0)) && t) (is_lt-is_gt p.0 p.0 ∙ not_above_itself p.0) ∙ and_false (not (is_gt (key_cmp lo p.0)))

rest_rises : (front rest : Map) → IsRising (front ++ rest) → IsRising rest
rest_rises [] rest r = r
rest_rises (q ∷ qs) rest r = rest_rises qs rest r.1

-- a pair is before the one behind it
before_it : (q : List ℕ × List ℕ) (front : Map) (p : List ℕ × List ℕ) (rest : Map) → IsBeforeAll q.0 (front ++ p ∷ rest) → IsRising (front ++ p ∷ rest) → key_cmp q.0 p.0 ≡ Less
before_it q [] p rest b r = b
before_it q (x ∷ xs) p rest b r = before_it q xs p rest (before_behind q.0 x.0 (xs ++ p ∷ rest) b r.0) r.1

-- Up to the end of a span in which nothing stands behind a pair, there is what stands before that pair, and itself.
step_over : (lo hi : List ℕ) (front : Map) (p : List ℕ × List ℕ) (rest : Map) → IsRising (front ++ p ∷ rest) → within rest (record { lo = lo; hi = hi }) ≡ []
    → size_between (front ++ p ∷ rest) lo hi ≤ size_between (front ++ p ∷ rest) lo p.0 + size_of p
step_over lo hi [] p rest r none = go (is_in (record { lo = lo; hi = hi }) p)
  where
    go : (t : Bool) → size (cond t (p ∷ within rest (record { lo = lo; hi = hi })) (within rest (record { lo = lo; hi = hi }))) ≤ size_between (p ∷ rest) lo p.0 + size_of p
    go true = rw none (omega (arith, more p []))
    go false = rw none (omega arith)
step_over lo hi (q ∷ qs) p rest r none =
    go (is_in (record { lo = lo; hi = hi }) q) (is_in (record { lo = lo; hi = p.0 }) q) refl refl (step_over lo hi qs p rest r.1 none)
  where
    low : is_lt (key_cmp q.0 p.0) ≡ true
    low = ap is_lt (before_it q qs p rest r.0 r.1)

    from : (s t : Bool) → (s && t) ≡ true → s ≡ true
    from true t e = refl
    from false t e = e

    go : (s t : Bool) → is_in (record { lo = lo; hi = hi }) q ≡ s → is_in (record { lo = lo; hi = p.0 }) q ≡ t
        → size_between (qs ++ p ∷ rest) lo hi ≤ size_between (qs ++ p ∷ rest) lo p.0 + size_of p
        → size (cond s (q ∷ within (qs ++ p ∷ rest) (record { lo = lo; hi = hi })) (within (qs ++ p ∷ rest) (record { lo = lo; hi = hi })))
        ≤ size (cond t (q ∷ within (qs ++ p ∷ rest) (record { lo = lo; hi = p.0 })) (within (qs ++ p ∷ rest) (record { lo = lo; hi = p.0 }))) + size_of p
    go true true e f ih = omega (arith, ih, more q (within (qs ++ p ∷ rest) (record { lo = lo; hi = hi })), more q (within (qs ++ p ∷ rest) (record { lo = lo; hi = p.0 })))
    go true false e f ih =
        (let at = from (not (is_gt (key_cmp lo q.0))) (is_lt (key_cmp q.0 hi)) e in
        absurd (false≢true (sym f ∙ ap (λ s. s && is_lt (key_cmp q.0 p.0)) at ∙ low)))
    go false true e f ih = omega (arith, ih, more q (within (qs ++ p ∷ rest) (record { lo = lo; hi = p.0 })))
    go false false e f ih = ih

not_greater : (x y : List ℕ) → key_cmp x y ≡ Less → is_gt (key_cmp x y) ≡ false
not_greater x y e = ap is_gt e

least : (key : List ℕ) → is_gt (key_cmp [] key) ≡ false
least [] = refl
least (b ∷ bs) = refl

-- nothing is from a key up to itself
none_between : (key : List ℕ) (m : Map) → size_between m key key ≡ 0
none_between key m = ap size (empty_span (record { lo = key; hi = key }) m (is_lt-is_gt key key ∙ not_above_itself key)).0

module _ (m : Map) (rises : IsRising m) (short : AreShort m) where
  module _ (next : List ℕ × List ℕ) (rest : Map) where
    -- the first pair
    pub first_edge : (lo : List ℕ) (before : ℕ) → (m ≡ next ∷ rest) × ((lo ≡ []) × (before ≡ 0)) → IsEdge m rest lo before next.0 (size_of next)
    first_edge lo before at =
        (let none : size_between m lo next.0 ≡ 0 = ap (λ (q : Map). size_between q lo next.0) at.0 ∙ ap size (from_first lo next rest (subst IsRising at.0 rises)) in
        let key : length next.0 ≤ KEY_LIMIT = (one_short [] next rest (subst AreShort at.0 short)).key in record {
          front = [];
          value = next.1;
          walked = at.0;
          from = ap (λ (k : List ℕ). is_gt (key_cmp k next.0)) at.1.0 ∙ least next.0;
          its = refl;
          counted = omega (arith, none);
          fits = omega (arith, key, ap length at.1.0, at.1.1);
        })

    module _ (lo : List ℕ) (before : ℕ) (edge : List ℕ) (bytes : ℕ) (at : IsEdge m (next ∷ rest) lo before edge bytes) where
      rises_there : IsRising (at.front ++ (edge, at.value) ∷ next ∷ rest)
      rises_there = subst IsRising at.walked rises

      short_there : AreShort (at.front ++ (edge, at.value) ∷ next ∷ rest)
      short_there = subst AreShort at.walked short

      behind : IsRising ((edge, at.value) ∷ next ∷ rest)
      behind = rest_rises at.front ((edge, at.value) ∷ next ∷ rest) rises_there

      edge_short : IsShort (edge, at.value)
      edge_short = one_short at.front (edge, at.value) (next ∷ rest) short_there

      further : m ≡ (at.front ++ (edge, at.value) ∷ []) ++ next ∷ rest
      further = at.walked ∙ sym (append_assoc at.front ((edge, at.value) ∷ []) (next ∷ rest))

      next_short : IsShort next
      next_short = one_short (at.front ++ (edge, at.value) ∷ []) next rest (subst AreShort further short)

      over : (k : List ℕ) → size_between m k next.0 ≤ size_between m k edge + size_of (edge, at.value)
      over k =
          subst (λ (q : Map). size_between q k next.0 ≤ size_between q k edge + size_of (edge, at.value)) (sym at.walked)
          (step_over k next.0 at.front (edge, at.value) (next ∷ rest) rises_there (from_first k next rest behind.1))

      -- the run goes on over one pair more
      pub edge_on : 7 + length lo + length next.0 + (before + bytes) ≤ 8192 → IsEdge m rest lo (before + bytes) next.0 (size_of next)
      edge_on fits = record {
        front = at.front ++ (edge, at.value) ∷ [];
        value = next.1;
        walked = further;
        from = not_above_along lo edge next.0 at.from (not_greater edge next.0 behind.0);
        its = refl;
        counted = omega (arith, over lo, at.counted, at.its);
        fits = fits;
      }

      -- or is cut before it
      pub edge_cut : IsEdge m rest edge (0 + bytes) next.0 (size_of next)
      edge_cut = record {
        front = at.front ++ (edge, at.value) ∷ [];
        value = next.1;
        walked = further;
        from = not_greater edge next.0 behind.0;
        its = refl;
        counted = omega (arith, over edge, none_between edge m, at.its);
        fits = omega (arith, edge_short.key, edge_short.value, next_short.key, at.its);
      }

  -- behind the last pair

  module _ (lo : List ℕ) (before : ℕ) where
    pub none_left : (m ≡ []) × ((lo ≡ []) × (before ≡ 0)) → 7 + length lo + length end_of_keys + size_between m lo end_of_keys ≤ 8192
    none_left at = omega (arith, ap length at.1.0, ap (λ (q : Map). size_between q lo end_of_keys) at.0)

    module _ (edge : List ℕ) (bytes : ℕ) (at : IsEdge m [] lo before edge bytes) where
      left : (k : List ℕ) → size_between m k end_of_keys ≤ size_between m k edge + size_of (edge, at.value)
      left k =
          subst (λ (q : Map). size_between q k end_of_keys ≤ size_between q k edge + size_of (edge, at.value)) (sym at.walked)
          (step_over k end_of_keys at.front (edge, at.value) [] (subst IsRising at.walked rises) refl)

      pub last_fits : 7 + length lo + length end_of_keys + (before + bytes) ≤ 8192 → 7 + length lo + length end_of_keys + size_between m lo end_of_keys ≤ 8192
      last_fits fits = omega (arith, fits, left lo, at.counted, at.its)

      pub last_cut : 7 + length edge + length end_of_keys + size_between m edge end_of_keys ≤ 8192
      last_cut =
          (let one : IsShort (edge, at.value) = one_short at.front (edge, at.value) [] (subst AreShort at.walked short) in
          omega (arith, left edge, none_between edge m, one.key, one.value))

-- where a walk stands behind a pair
pub behind_edge : (m rest : Map) (lo : List ℕ) (before : ℕ) (last : Option (Bor (List ℕ) × ℕ)) (edge : Bor (List ℕ)) (bytes : ℕ) → StandsAt m rest lo before last
    → last ≡ Some (edge, bytes) → IsEdge m rest lo before edge.now bytes
behind_edge m rest lo before last edge bytes at is = subst (StandsAt m rest lo before) is at

-- its bytes are few
pub few_bytes : (m rest : Map) (lo : List ℕ) (before : ℕ) (edge : List ℕ) (bytes : ℕ) → AreShort m → IsEdge m rest lo before edge bytes → before + bytes ≤ 12000
few_bytes m rest lo before edge bytes short at =
    (let one : IsShort (edge, at.value) = one_short at.front (edge, at.value) rest (subst AreShort at.walked short) in
    omega (arith, at.fits, at.its, one.key, one.value))

-- the next pair is short, wherever the walk stands
pub next_is_short : (m rest : Map) (lo : List ℕ) (before : ℕ) (last : Option (Bor (List ℕ) × ℕ)) (next : List ℕ × List ℕ) → AreShort m
    → StandsAt m (next ∷ rest) lo before last → IsShort next
next_is_short m rest lo before None next short at = one_short [] next rest (subst AreShort at.0 short)
next_is_short m rest lo before (Some last) next short at = one_short at.front next rest (tail_short at.front (last.0.now, at.value) (subst AreShort at.walked short))
  where
    tail_short : (front : Map) (p : List ℕ × List ℕ) → AreShort (front ++ p ∷ next ∷ rest) → AreShort (front ++ next ∷ rest)
    tail_short [] p h = h.1
    tail_short (q ∷ qs) p h = (h.0, tail_short qs p h.1)

-- a block isn't full
pub not_full : (bytes : ℕ) → nat_lt 8192 bytes ≡ false → bytes ≤ 8192
not_full bytes e = ltb-false 8192 bytes e

-- a key that isn't below another stands at it or behind it
pub not_above : (key edge : List ℕ) → is_lt (key_cmp key edge) ≡ false → is_gt (key_cmp edge key) ≡ false
not_above key edge e = sym (is_lt-is_gt key edge) ∙ e
