-- The place of the leaf that holds a key, from a search by halving.
use Rattle.std.proofs.Common.{◌≡◌, ◌≤◌, ◌<◌, ◌+◌, ◌-◌, ◌⊎◌, ℕ, zero, suc, Bool, true, false, not, List, [], ◌∷◌, length, drop, get_or, refl, sym, ap, ◌∙◌, arith, inl, inr}
use Rattle.std.specs.List.{AllWithin}
use Rattle.std.specs.List.Sorted.{IsPartitionedBy}
use Rattle.std.specs.Ordering.{is_lt, is_gt}
use Rattle.std.specs.declared.cmp.Ordering.TheVariants.{Less}
use Rattle.std.proofs.lemmas.Bool.{and_from, cases_lt}
use Rattle.std.proofs.lemmas.List.{drop_all}
use Rattle.plain_orders.specs.PairMap.{key_cmp}
use Rattle.span_index.proofs.KeyLemmas.{is_lt-is_gt, not_above_itself, by_along, not_false}
use Rattle.block_tree.specs.declared.leaf.Leaf.{Leaf}
use Rattle.block_tree.specs.TreeWords.{end_of_keys}
use Rattle.block_tree.specs.LeafWords.{begin_of, EdgesRise, IsPlace}
use Rattle.block_tree.proofs.LeafLemmas.{from_first, begin_get}

-- a leaf begins at the key or before it
abbrev pub begun_by : List ℕ → Leaf → Bool
begun_by key l = not (is_gt (key_cmp l.lo key))

in_order : (ls : List Leaf) → EdgesRise ls → (i j : ℕ) (d : Leaf) → i ≤ j → j < length ls → is_gt (key_cmp (get_or ls i d).lo (get_or ls j d).lo) ≡ false
in_order [] r i j d h k = absurd (omega arith)
in_order (l ∷ ls) r zero zero d h k = not_above_itself l.lo
in_order (l ∷ ls) r zero (suc j) d h k =
    ap (λ x. is_gt (key_cmp l.lo x)) (sym (begin_get ls j d (omega arith))) ∙ ap is_gt (from_first l ls j (omega arith) r)
in_order (l ∷ ls) r (suc i) zero d h k = absurd (omega arith)
in_order (l ∷ ls) r (suc i) (suc j) d h k = in_order ls r.1 i j d (omega arith) (omega arith)

pub parted-begun_by : (key : List ℕ) (ls : List Leaf) → EdgesRise ls → IsPartitionedBy (begun_by key) ls
parted-begun_by key ls r i j d h l t = by_along (get_or ls i d).lo (get_or ls j d).lo key (in_order ls r i j d h l) t

least : (key : List ℕ) → not (is_gt (key_cmp [] key)) ≡ true
least [] = refl
least (b ∷ bs) = refl

-- the first leaf begins before each key
pub some_begun : (key : List ℕ) (ls : List Leaf) (n : ℕ) → begin_of ls ≡ [] → AllWithin (λ l. begun_by key l ≡ false) ls n (length ls) → 1 ≤ n
some_begun key [] n e h = absurd (cc)
some_begun key (l ∷ ls) zero e h =
    let none : begun_by key l ≡ false = h 0 l (omega arith) (omega arith) in
    let one : begun_by key l ≡ true = ap (λ x. not (is_gt (key_cmp x key))) e ∙ least key in
    absurd (cc)
some_begun key (l ∷ ls) (suc n) e h = omega arith

module _ (key : List ℕ) (ls : List Leaf) (n : ℕ) (most : n ≤ length ls) (begun : AllWithin (λ l. begun_by key l ≡ true) ls 0 n) (later : AllWithin (λ l. begun_by key l ≡ false) ls n (length ls)) where
  none : Leaf
  none = record { lo = []; bytes = 0 }

  ends : key_cmp key end_of_keys ≡ Less → is_lt (key_cmp key (begin_of (drop n ls))) ≡ true
  ends below = go (cases_lt n (length ls))
    where
      go : (n < length ls) ⊎ (length ls ≤ n) → is_lt (key_cmp key (begin_of (drop n ls))) ≡ true
      go (inl h) =
          ap (λ x. is_lt (key_cmp key x)) (begin_get ls n none h)
          ∙ is_lt-is_gt key (get_or ls n none).lo ∙ not_false (is_gt (key_cmp (get_or ls n none).lo key)) (later n none (omega arith) h)
      go (inr h) = ap (λ xs. is_lt (key_cmp key (begin_of xs))) (drop_all n ls h) ∙ ap is_lt below

  -- the last that begins at the key or before it holds it
  pub place_is : 1 ≤ n → key_cmp key end_of_keys ≡ Less → IsPlace key ls (n - 1)
  place_is some below =
      let at : n - 1 < length ls = omega arith in
      let next : n - 1 + 1 ≡ n = omega arith in
      let from : not (is_gt (key_cmp (begin_of (drop (n - 1) ls)) key)) ≡ true = ap (λ x. not (is_gt (key_cmp x key))) (begin_get ls (n - 1) none at) ∙ begun (n - 1) none (omega arith) (omega arith) in
      let to : is_lt (key_cmp key (begin_of (drop (n - 1 + 1) ls))) ≡ true = ap (λ k. is_lt (key_cmp key (begin_of (drop k ls)))) next ∙ ends below in
      record { within = at; holds = and_from _ _ from to }
