-- The first descendant after some bytes, by the first pair above them.
use Rattle.std.proofs.Common.{◌≡◌, ◌∙◌, ℕ, Bool, true, false, cond, List, [], ◌∷◌, Some, None, refl, ap}
use Rattle.std.specs.Prelude.{slice_get}
use Rattle.std.specs.List.{AllByRecursion}
use Rattle.std.specs.List.Sorted.{IsStrictlySortedBy}
use Rattle.std.specs.Map.{keys_of}
use Rattle.std.specs.declared.cmp.Ordering.TheVariants.{Less}
use Rattle.std.specs.declared.ops.Bound.TheVariants.{Excluded, Unbounded}
use Rattle.std.specs.BTreeMap.Range.{entries_between}
use Rattle.plain_orders.specs.PairMap.{Map, key_cmp, is_under, IsBeforeAll, IsRising}
use Rattle.plain_orders.proofs.RisingLemmas.{before_behind}
use Rattle.plain_programs.specs.Search.{descendant_behind}
use Rattle.plain_programs.proofs.SearchLemmas.{found_none, found_apart, found_first}
use Rattle.block_tree.specs.TreeWords.{next_above}
use Rattle.block_tree.proofs.SpanTests.{first_above}

all_behind : (k : List ℕ) (m : Map) → IsRising m → IsBeforeAll k m → AllByRecursion (λ q. key_cmp k q ≡ Less) (keys_of m)
all_behind k [] r b = tt
all_behind k (p ∷ ps) r b = (b, all_behind k ps r.1 (before_behind k p.0 ps b r.0))

-- keys that rise are sorted
sorted : (m : Map) → IsRising m → IsStrictlySortedBy key_cmp (keys_of m)
unfolding IsStrictlySortedBy
sorted [] r = tt
sorted (p ∷ ps) r = (all_behind p.0 ps r.1 r.0, sorted ps r.1)

module _ (n b : List ℕ) (under : is_under n b ≡ true) (m : Map) (r : IsRising m) where
  abbrev above : Map
  above = entries_between key_cmp (Excluded b) Unbounded m

  -- where no pair is above the bytes, none is a descendant's
  pub behind_none : next_above m b ≡ None → descendant_behind m n b ≡ None
  behind_none e = go above refl (first_above b m ∙ e)
    where
      go : (xs : Map) → above ≡ xs → slice_get xs 0 ≡ None → descendant_behind m n b ≡ None
      go [] f g = found_none n b under m above (sorted m r) refl f
      go (x ∷ xs) f g = absurd (cc)

  -- else the first one's key tells
  pub behind_some : (k v : List ℕ) → next_above m b ≡ Some (k, v) → descendant_behind m n b ≡ cond (is_under n k) (Some k) None
  behind_some k v e = go above refl (first_above b m ∙ e)
    where
      by : (xs : Map) → above ≡ (k, v) ∷ xs → (t : Bool) → is_under n k ≡ t → descendant_behind m n b ≡ cond t (Some k) None
      by xs f true h = found_first n b under m above xs k v (sorted m r) refl f h
      by xs f false h = found_apart n b under m above xs k v (sorted m r) refl f h

      go : (xs : Map) → above ≡ xs → slice_get xs 0 ≡ Some (k, v) → descendant_behind m n b ≡ cond (is_under n k) (Some k) None
      go [] f g = absurd (cc)
      go (x ∷ xs) f g = let same : x ≡ (k, v) = cc in by xs (f ∙ ap (λ y. y ∷ xs) same) (is_under n k) refl
