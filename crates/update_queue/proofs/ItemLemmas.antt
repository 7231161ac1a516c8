-- The front of an ordered list whose numbers go up to a bound, and what stands behind it.
use Rattle.std.proofs.Common.{◌≡◌, ℕ, zero, suc, ◌+◌, ◌<◌, ◌≤◌, Bool, true, false, cond, ltb, leb, List, [], ◌∷◌, length, get_or, drop, refl, sym, ◌∙◌, ap, ⊎_elim, arith}
use Rattle.std.specs.List.{prefix_len}
use Rattle.std.proofs.lemmas.Bool.{cases_lt}
use Rattle.std.proofs.lemmas.Bool.Decides.{nat_tests}
use Rattle.std.proofs.lemmas.List.{drop-drop}
use Rattle.update_queue.specs.declared.item.Item.{Item}
use Rattle.update_queue.specs.Items.{later_than, IsInOrder}

is_late : (w n : ℕ) → w < n → ltb w n ≡ true
is_late w n h = grind (arith, nat_tests)

is_not_late : (w n : ℕ) → n ≤ w → ltb w n ≡ false
is_not_late w n h = grind (arith, nat_tests)

is_early : (w n : ℕ) → n ≤ w → leb n w ≡ true
is_early w n h = grind (arith, nat_tests)

is_not_early : (w n : ℕ) → w < n → leb n w ≡ false
is_not_early w n h = grind (arith, nat_tests)

IsInOrder-tail : (x : Item) (xs : List Item) → IsInOrder (x ∷ xs) → IsInOrder xs
IsInOrder-tail x xs o = λ i j d lt within. o (suc i) (suc j) d (omega arith) (omega arith)

-- none of the items is early
all_late : (w : ℕ) (xs : List Item) → ((k : ℕ) (d : Item) → k < length xs → w < (get_or xs k d).w) → later_than w xs ≡ xs
all_late w [] late = refl
all_late w (x ∷ xs) late =
    rw (is_late w x.w (late 0 x (omega arith))) (ap (λ (ys : List Item). x ∷ ys) (all_late w xs (λ k d within. late (suc k) d (omega arith))))

late_first : (w : ℕ) (x : Item) (xs : List Item) → IsInOrder (x ∷ xs) → w < x.w → drop (prefix_len (λ item. leb item.w w) (x ∷ xs)) (x ∷ xs) ≡ later_than w (x ∷ xs)
late_first w x xs o h = rw (is_not_early w x.w h) (sym (all_late w (x ∷ xs) from_head))
  where
    from_head : (k : ℕ) (d : Item) → k < length (x ∷ xs) → w < (get_or (x ∷ xs) k d).w
    from_head zero d within = h
    from_head (suc k) d within = let later : x.w < (get_or xs k d).w = o 0 (suc k) d (omega arith) within in omega arith

early_first : (w : ℕ) (x : Item) (xs : List Item) → drop (prefix_len (λ item. leb item.w w) xs) xs ≡ later_than w xs → x.w ≤ w → drop (prefix_len (λ item. leb item.w w) (x ∷ xs)) (x ∷ xs) ≡ later_than w (x ∷ xs)
early_first w x xs rest h = rw (is_early w x.w h, is_not_late w x.w h) (sym (drop-drop (prefix_len (λ item. leb item.w w) xs) 1 (x ∷ xs)) ∙ rest)

-- behind the early items stand the late ones
pub rest_after : (w : ℕ) (xs : List Item) → IsInOrder xs → drop (prefix_len (λ item. leb item.w w) xs) xs ≡ later_than w xs
rest_after w [] o = refl
rest_after w (x ∷ xs) o = ⊎_elim (late_first w x xs o) (early_first w x xs (rest_after w xs (IsInOrder-tail x xs o))) (cases_lt w x.w)

-- what stands behind a front stays in order
pub in_order_drop : (n : ℕ) (xs : List Item) → IsInOrder xs → IsInOrder (drop n xs)
in_order_drop zero xs o = o
in_order_drop (suc n) [] o = o
in_order_drop (suc n) (x ∷ xs) o = in_order_drop n xs (IsInOrder-tail x xs o)

-- what stands behind more of the front stays in order
pub in_order_behind : (m n : ℕ) (xs : List Item) → IsInOrder (drop m xs) → IsInOrder (drop (m + n) xs)
in_order_behind m n xs o = rw (← drop-drop n m xs) (in_order_drop n (drop m xs) o)

-- no more items come first than there are
pub early_within : (w : ℕ) (xs : List Item) → prefix_len (λ item. leb item.w w) xs ≤ length xs
early_within w [] = omega arith
early_within w (x ∷ xs) = cases (leb x.w w) (early_within w xs)
  where
    cases : (b : Bool) → prefix_len (λ item. leb item.w w) xs ≤ length xs → cond b (1 + prefix_len (λ item. leb item.w w) xs) 0 ≤ suc (length xs)
    cases true le = omega arith
    cases false le = omega arith
