-- How a store goes on by an entry that may follow, and by the entries of an ordered list.
use Rattle.std.proofs.Common.{◌≡◌, ◌∙◌, ◌<◌, ◌+◌, ℕ, zero, suc, List, [], ◌∷◌, ◌++◌, length, take, drop, get_or, refl, sym, ap, subst, arith, add-one}
use Rattle.std.proofs.lemmas.List.{take-append-drop}
use Rattle.plain_orders.specs.declared.entry.Entry.{Entry}
use Rattle.plain_orders.specs.declared.entry.Entry.TheVariants.{Epoch, Opened, Closed, Update, Commit, Rollback}
use Rattle.plain_orders.specs.declared.sum.Sum.{Sum}
use Rattle.plain_orders.specs.Fold.{Folded, fold_step}
use Rattle.plain_orders.specs.Ordered.{MayFollow, IsOrdered}
use Rattle.plain_orders.specs.Answers.{entry_sum}
use Rattle.plain_orders.proofs.FoldLemmas.{fold-push}
use Rattle.plain_orders.proofs.OrderLemmas.{ordered-push, ordered-last, ordered-front}
use Rattle.folded_store.specs.Limits.{EntryFits}
use Rattle.session_books.specs.Books.{IsBooksOf, CanTake}
use Rattle.global_store.specs.declared.global_store.GlobalStore.{GlobalStore}
use Rattle.global_store.specs.Stores.{IsStoreOf}

-- an entry that may follow is within the limits
pub may_fits : (es : List Entry) (e : Entry) → MayFollow es e → EntryFits e
may_fits es (Epoch number) may = tt
may_fits es (Opened session app) may = tt
may_fits es (Closed session) may = tt
may_fits es (Update session w job txn op) may = may.within
may_fits es (Commit session w job txn) may = tt
may_fits es (Rollback session w job txn) may = tt

-- the two parts of a store go on, so the store does
pub store_push : (es : List Entry) (e : Entry) (old new : GlobalStore) (sum : Sum) → IsStoreOf es old → MayFollow es e → new.spent ≡ old.spent → new.folded ≡ fold_step old.folded e
    → sum ≡ entry_sum old.folded.pairs e → (CanTake es e sum old.books → IsBooksOf (es ++ e ∷ []) new.books) → IsStoreOf (es ++ e ∷ []) new
store_push es e old new sum s may spent next does takes = record {
  is_ordered = ordered-push es e s.is_ordered may;
  unspent = spent ∙ s.unspent;
  folded = next ∙ ap (λ f. fold_step f e) s.folded ∙ sym (fold-push es e);
  books = takes (record { is_ordered = s.is_ordered; stands = s.books; may_follow = may; sum_is = does ∙ ap (λ (f : Folded). entry_sum f.pairs e) s.folded });
}

front_more : (es : List Entry) (i : ℕ) (d : Entry) → i < length es → take (suc i) es ≡ take i es ++ get_or es i d ∷ []
front_more [] i d low = absurd (omega arith)
front_more (x ∷ es) zero d low = refl
front_more (x ∷ es) (suc i) d low = ap (λ xs. x ∷ xs) (front_more es i d (omega arith))

module _ (es : List Entry) (i : ℕ) (e : Entry) (low : i < length es) (is : e ≡ get_or es i e) where
  one_more : take (i + 1) es ≡ take i es ++ e ∷ []
  one_more = ap (λ n. take n es) (add-one i) ∙ front_more es i e low ∙ ap (λ x. take i es ++ x ∷ []) (sym is)

  -- each entry of an ordered list may follow those before it
  pub next_may : IsOrdered es → MayFollow (take i es) e
  next_may o =
      let front : IsOrdered (take (i + 1) es) = ordered-front (take (i + 1) es) (drop (i + 1) es) (subst IsOrdered (sym (take-append-drop (i + 1) es)) o) in
      ordered-last (take i es) e (subst IsOrdered one_more front)

  -- so a store of the first of them goes on to one of the next too
  pub next_store : (store : GlobalStore) → IsStoreOf (take i es ++ e ∷ []) store → IsStoreOf (take (i + 1) es) store
  next_store store s = subst (λ (l : List Entry). IsStoreOf l store) (sym one_more) s
