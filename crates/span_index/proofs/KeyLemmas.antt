-- The order of keys, and what it makes of spans that follow one another.
use Rattle.std.proofs.Common.{◌≡◌, ◌≤◌, ◌<◌, ℕ, zero, suc, Bool, true, false, not, List, [], ◌∷◌, length, get_or, refl, sym, ap, ◌∙◌, arith}
use Rattle.std.specs.List.Sorted.{IsPartitionedBy}
use Rattle.std.specs.Ordering.{is_lt, is_gt, ordering_reverse}
use Rattle.std.specs.declared.cmp.Ordering.{Ordering}
use Rattle.std.specs.declared.cmp.Ordering.TheVariants.{Less, Equal, Greater}
use Rattle.std.proofs.lemmas.Cmp.{nat_list_cmp_total, upto, tied_itself}
use Rattle.std.proofs.lemmas.List.Elements.{All-from_recursion}
use Rattle.plain_orders.specs.PairMap.{key_cmp}
use Rattle.span_index.specs.declared.numbered.Numbered.{Numbered}
use Rattle.span_index.specs.Ranges.{begins_before, begins_by, ends_before, ends_by, IsBefore, Rises}

is_gt-reverse : (o : Ordering) → is_gt (ordering_reverse o) ≡ is_lt o
is_gt-reverse Less = refl
is_gt-reverse Equal = refl
is_gt-reverse Greater = refl

-- below the one way is above the other way
pub is_lt-is_gt : (x y : List ℕ) → is_lt (key_cmp x y) ≡ is_gt (key_cmp y x)
is_lt-is_gt x y = sym (is_gt-reverse (key_cmp x y)) ∙ ap is_gt (sym (nat_list_cmp_total.antisymm y x))

pub not_above_itself : (x : List ℕ) → is_gt (key_cmp x x) ≡ false
not_above_itself x = ap is_gt (tied_itself nat_list_cmp_total x)

pub not_above_along : (x y z : List ℕ) → is_gt (key_cmp x y) ≡ false → is_gt (key_cmp y z) ≡ false → is_gt (key_cmp x z) ≡ false
not_above_along = upto nat_list_cmp_total

-- not behind one that is below, so below too
below-cases : (x y z : List ℕ) → (b : Bool) → is_gt (key_cmp z x) ≡ b → is_gt (key_cmp x y) ≡ false → is_lt (key_cmp y z) ≡ true → b ≡ true
below-cases x y z true e h l = refl
below-cases x y z false e h l = let up = not_above_along z x y e h in cc (is_lt-is_gt y z)

pub below_along : (x y z : List ℕ) → is_gt (key_cmp x y) ≡ false → is_lt (key_cmp y z) ≡ true → is_lt (key_cmp x z) ≡ true
below_along x y z h l = is_lt-is_gt x z ∙ below-cases x y z (is_gt (key_cmp z x)) refl h l

pub not_true : (b : Bool) → not b ≡ true → b ≡ false
not_true true e = cc
not_true false e = refl

pub not_false : (b : Bool) → not b ≡ false → b ≡ true
not_false true e = refl
not_false false e = cc

-- one that isn't above
pub by_along : (x y z : List ℕ) → is_gt (key_cmp x y) ≡ false → not (is_gt (key_cmp y z)) ≡ true → not (is_gt (key_cmp x z)) ≡ true
by_along x y z h l = ap not (not_above_along x y z h (not_true (is_gt (key_cmp y z)) l))

-- of spans that follow one another, any is before any later one
pub before_at : (xs : List Numbered) → Rises xs → (i j : ℕ) (d : Numbered) → i ≤ j → j < length xs → IsBefore (get_or xs i d) (get_or xs j d)
before_at [] r i j d h l = absurd (omega arith)
before_at (x ∷ xs) r zero zero d h l = (not_above_itself x.span.lo, not_above_itself x.span.hi)
before_at (x ∷ xs) r zero (suc j) d h l = All-from_recursion (IsBefore x) xs r.0 j d (omega arith)
before_at (x ∷ xs) r (suc i) zero d h l = absurd (omega arith)
before_at (x ∷ xs) r (suc i) (suc j) d h l = before_at xs r.1 i j d (omega arith) (omega arith)

module _ (key : List ℕ) (xs : List Numbered) (r : Rises xs) where
  pub parted-begins_before : IsPartitionedBy (begins_before key) xs
  parted-begins_before i j d h l t = below_along (get_or xs i d).span.lo (get_or xs j d).span.lo key (before_at xs r i j d h l).0 t

  pub parted-begins_by : IsPartitionedBy (begins_by key) xs
  parted-begins_by i j d h l t = by_along (get_or xs i d).span.lo (get_or xs j d).span.lo key (before_at xs r i j d h l).0 t

  pub parted-ends_before : IsPartitionedBy (ends_before key) xs
  parted-ends_before i j d h l t = below_along (get_or xs i d).span.hi (get_or xs j d).span.hi key (before_at xs r i j d h l).1 t

  pub parted-ends_by : IsPartitionedBy (ends_by key) xs
  parted-ends_by i j d h l t = by_along (get_or xs i d).span.hi (get_or xs j d).span.hi key (before_at xs r i j d h l).1 t
