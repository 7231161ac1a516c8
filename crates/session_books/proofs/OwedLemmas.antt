-- What the items of a session are owed, in a list with one entry more.
use Rattle.std.proofs.Common.{◌≡◌, ◌∙◌, ◌<◌, ◌≤◌, ◌+◌, ℕ, zero, suc, true, false, List, [], ◌∷◌, ◌++◌, length, take, slice_get, Option, Some, None, refl, ap, ap₂, arith}
use Rattle.std.proofs.lemmas.List.{take-append-le}
use Rattle.plain_orders.specs.declared.entry.Entry.{Entry}
use Rattle.plain_orders.specs.declared.sum.Sum.{Sum}
use Rattle.plain_orders.specs.Entries.{count, entry_at}
use Rattle.plain_orders.specs.ItemEntries.{is_item_at}
use Rattle.plain_orders.specs.Fold.{fold}
use Rattle.plain_orders.specs.Answers.{entry_sum, sum_if, sum_at}
use Rattle.plain_orders.proofs.FoldLemmas.{sum_at-last}
use Rattle.plain_orders.proofs.Places.{entry_last}
use Rattle.session_books.specs.Places.{item_place}
use Rattle.session_books.specs.Owing.{owed_entry, owed_if, owed_at, owed_in}
use Rattle.session_books.proofs.PlaceLemmas.{place_quiet, place_last, place_within, none_above}

get_front : {X : Type 0} (xs ys : List X) (i : ℕ) → i < length xs → slice_get (xs ++ ys) i ≡ slice_get xs i
get_front [] ys i low = absurd (omega arith)
get_front (x ∷ xs) ys zero low = refl
get_front (x ∷ xs) ys (suc i) low = get_front xs ys i (omega arith)

module _ (es : List Entry) (e : Entry) where
  -- what stands at a place of the list is owed what it was
  same_there : (at : ℕ) → 0 < at → at ≤ length es → owed_if (entry_at (es ++ e ∷ []) at) at (sum_at (es ++ e ∷ []) at) ≡ owed_if (entry_at es at) at (sum_at es at)
  same_there zero low high = absurd (omega arith)
  same_there (suc i) low high =
      let entry : slice_get (es ++ e ∷ []) i ≡ slice_get es i = get_front es (e ∷ []) i (omega arith) in
      let front : take i (es ++ e ∷ []) ≡ take i es = take-append-le i es (e ∷ []) (omega arith) in
      let sum : sum_at (es ++ e ∷ []) (suc i) ≡ sum_at es (suc i) = ap₂ (λ (l : List Entry) (o : Option Entry). sum_if (fold l).pairs o) front entry in
      ap₂ (λ (o : Option Entry) (x : Sum). owed_if o (suc i) x) entry sum

  -- an entry that is not the item changes nothing of what it is owed
  pub owed_quiet : (s w : ℕ) → is_item_at s w e ≡ false → owed_in (es ++ e ∷ []) s w ≡ owed_in es s w
  owed_quiet s w f = ap (owed_at (es ++ e ∷ [])) (place_quiet (is_item_at s w) 0 es e f) ∙ go (item_place es s w) refl
    where
      go : (o : Option ℕ) → item_place es s w ≡ o → owed_at (es ++ e ∷ []) o ≡ owed_at es o
      go None h = refl
      go (Some at) h = let r = place_within (is_item_at s w) 0 es at h in same_there at r.0 (omega (arith, r.1))

  -- the next item is owed what its entry is
  pub owed_last : (s w : ℕ) → count es s < w → is_item_at s w e ≡ true → owed_in (es ++ e ∷ []) s w ≡ owed_entry e (length es + 1) (entry_sum (fold es).pairs e)
  owed_last s w low t =
      let place : item_place (es ++ e ∷ []) s w ≡ Some (0 + length es + 1) = place_last (is_item_at s w) 0 es e (none_above s w 0 0 es low) t in
      let same : 0 + length es + 1 ≡ length es + 1 = omega arith in
      ap (owed_at (es ++ e ∷ [])) (place ∙ ap Some same)
      ∙ ap₂ (λ (o : Option Entry) (x : Sum). owed_if o (length es + 1) x) (entry_last es e (length es + 1) refl) (sum_at-last es e)

  -- before it nothing was
  pub owed_none : (s w : ℕ) → count es s < w → owed_in es s w ≡ None
  owed_none s w low = ap (owed_at es) (none_above s w 0 0 es low)
