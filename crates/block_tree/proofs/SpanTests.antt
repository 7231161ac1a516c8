-- What a range of the map holds are the pairs of a span, and the first pair above a key.
use Rattle.std.proofs.Common.{◌≡◌, ℕ, Bool, true, false, not, cond, ◌&&◌, List, [], ◌∷◌, Option, Some, None, Bor, refl, sym, ap, ◌∙◌}
use Rattle.std.specs.Prelude.{slice_get}
use Rattle.std.specs.List.{filter}
use Rattle.std.specs.List.Sorted.{IsStrictlySortedBy}
use Rattle.std.specs.Map.{keys_of}
use Rattle.std.specs.Map.Iter.{TakesFirst, deref_pair}
use Rattle.std.specs.Option.{option_map}
use Rattle.std.specs.Ordering.{is_lt, is_gt, is_le}
use Rattle.std.specs.declared.cmp.Ordering.{Ordering}
use Rattle.std.specs.declared.cmp.Ordering.TheVariants.{Less, Equal, Greater}
use Rattle.std.specs.declared.ops.Bound.TheVariants.{Included, Excluded, Unbounded}
use Rattle.std.specs.BTreeMap.Range.{entries_between}
use Rattle.std.proofs.lemmas.List.Elements.{filter_agree}
use Rattle.plain_orders.specs.PairMap.{Map, key_cmp, within, IsBeforeAll, IsRising}
use Rattle.plain_orders.proofs.RisingLemmas.{before_behind}
use Rattle.span_index.proofs.KeyLemmas.{is_lt-is_gt}
use Rattle.block_tree.specs.TreeWords.{next_above}

le-not_gt : (o : Ordering) → is_le o ≡ not (is_gt o)
le-not_gt Less = refl
le-not_gt Equal = refl
le-not_gt Greater = refl

not_le-gt : (o : Ordering) → not (is_le o) ≡ is_gt o
not_le-gt Less = refl
not_le-gt Equal = refl
not_le-gt Greater = refl

-- a range from a key up to one that is without
pub between_is_within : (lo hi : List ℕ) (m : Map) → entries_between key_cmp (Included lo) (Excluded hi) m ≡ within m (record { lo = lo; hi = hi })
between_is_within lo hi m = filter_agree _ _ same m
  where
    same : (p : List ℕ × List ℕ) → (is_le (key_cmp lo p.0) && not (is_le (key_cmp hi p.0))) ≡ (not (is_gt (key_cmp lo p.0)) && is_lt (key_cmp p.0 hi))
    same p =
        ap (λ b. b && not (is_le (key_cmp hi p.0))) (le-not_gt (key_cmp lo p.0))
        ∙ ap (λ b. not (is_gt (key_cmp lo p.0)) && b) (not_le-gt (key_cmp hi p.0) ∙ sym (is_lt-is_gt p.0 hi))

and_true : (b : Bool) → (b && true) ≡ b
and_true true = refl
and_true false = refl

-- the first of a range behind a key
pub first_above : (key : List ℕ) (m : Map) → slice_get (entries_between key_cmp (Excluded key) Unbounded m) 0 ≡ next_above m key
first_above key [] = refl
first_above key (p ∷ ps) = go (is_lt (key_cmp key p.0)) (first_above key ps)
  where
    go : (b : Bool) → slice_get (entries_between key_cmp (Excluded key) Unbounded ps) 0 ≡ next_above ps key
        → slice_get (cond (b && true) (p ∷ entries_between key_cmp (Excluded key) Unbounded ps) (entries_between key_cmp (Excluded key) Unbounded ps)) 0 ≡ cond b (Some p) (next_above ps key)
    go true more = refl
    go false more = more

-- sorted keys rise
pub rising_from_sorted : (m : Map) → IsStrictlySortedBy key_cmp (keys_of m) → IsRising m
unfolding IsStrictlySortedBy
rising_from_sorted [] s = tt
rising_from_sorted (p ∷ []) s = (tt, tt)
rising_from_sorted (p ∷ q ∷ ps) s = (s.0.0, rising_from_sorted (q ∷ ps) s.1)

-- what the first step over some pairs gives
pub head_taken : (s t : Map) (r : Option (Bor (List ℕ) × Bor (List ℕ))) → TakesFirst deref_pair s r t → option_map deref_pair r ≡ slice_get s 0
head_taken s t None h = ap (λ es. slice_get es 0) (sym h.0)
head_taken s t (Some p) h = ap (λ es. slice_get es 0) (sym h)

-- and stands behind a key that all do
pub before_part : (f : List ℕ × List ℕ → Bool) (key : List ℕ) (m : Map) → IsRising m → IsBeforeAll key m → IsBeforeAll key (filter f m)
before_part f key [] r b = tt
before_part f key (p ∷ ps) r b = go (f p) (before_part f key ps r.1 (before_behind key p.0 ps b r.0))
  where
    go : (t : Bool) → IsBeforeAll key (filter f ps) → IsBeforeAll key (cond t (p ∷ filter f ps) (filter f ps))
    go true more = b
    go false more = more

-- a part of the pairs rises
pub part_rises : (f : List ℕ × List ℕ → Bool) (m : Map) → IsRising m → IsRising (filter f m)
part_rises f [] r = tt
part_rises f (p ∷ ps) r = go (f p) (part_rises f ps r.1)
  where
    go : (t : Bool) → IsRising (filter f ps) → IsRising (cond t (p ∷ filter f ps) (filter f ps))
    go true more = (before_part f p.0 ps r.1 r.0, more)
    go false more = more
