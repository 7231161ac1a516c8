-- The order has a transaction of a session open where the session's items leave it open.
use Rattle.std.proofs.Common.{◌≡◌, ℕ, zero, suc, ◌+◌, ◌<◌, ◌≤◌, List, [], ◌∷◌, ◌++◌, length, take, refl, subst, sym, ap, ◌∙◌, Bool, true, false, eqb, ◌==◌, ◌&&◌, ◌||◌, not, if◌then◌else◌, arith, Option, Some, None, slice_get}
use Rattle.std.specs.List.{list_any}
use Rattle.std.specs.Option.{option_map}
use Rattle.std.proofs.lemmas.Bool.{eqb-true, eq-eqb, ne_eqb}
use Rattle.std.proofs.lemmas.Option.{same_Some, slice_get_within}
use Rattle.plain_orders.specs.declared.entry.Entry.{Entry}
use Rattle.plain_orders.specs.declared.entry.Entry.TheVariants.{Epoch, Opened as OpenedEntry, Closed, Update, Commit, Rollback}
use Rattle.plain_orders.specs.declared.op.Op.TheVariants.{Set, Kill, Add}
use Rattle.plain_orders.specs.declared.item.Item.{Item}
use Rattle.plain_orders.specs.declared.item.Item.TheVariants.{Op, Commit as CommitItem, Rollback as RollbackItem}
use Rattle.plain_orders.specs.Begun.{begun_after}
use Rattle.plain_orders.specs.Entries.{count, live, live_after, w_in}
use Rattle.plain_orders.specs.Fold.{fold, is_begun}
use Rattle.plain_orders.specs.ItemEntries.{is_item_of, w_of}
use Rattle.plain_orders.specs.Ordered.{IsOrdered, MayFollow}
use Rattle.plain_orders.specs.Own.{Issued}
use Rattle.plain_orders.proofs.BegunLemmas.{begun-step}
use Rattle.plain_orders.proofs.EntryLemmas.{count-push, live-push}
use Rattle.plain_orders.proofs.FoldLemmas.{fold-push}
use Rattle.plain_orders.proofs.OrderLemmas.{ordered_induction}
use Rattle.plain_orders.proofs.PastLemmas.{ordered_past}
use Rattle.plain_runs.specs.Items.{ended_from, ends, entry_of, entry_of_item, is_change, is_end_of, is_update_of}
use Rattle.plain_runs.specs.Laws.{StandsAsIssued}
use Rattle.plain_runs.proofs.Orders.{Each, each_front}

-- whether a job's transaction is open after an item more of its session
abbrev pub item_begun : ℕ → ℕ → Bool → Issued → Bool
item_begun j t b i = if is_update_of j t i then true else (if is_end_of j t i then false else b)

-- the same after several
abbrev pub items_begun : ℕ → ℕ → Bool → List Issued → Bool
items_begun j t b [] = b
items_begun j t b (i ∷ is) = items_begun j t (item_begun j t b i) is

items_begun-push : (j t : ℕ) (b : Bool) (is : List Issued) (i : Issued) → items_begun j t b (is ++ i ∷ []) ≡ item_begun j t (items_begun j t b is) i
items_begun-push j t b [] i = refl
items_begun-push j t b (x ∷ is) i = items_begun-push j t (item_begun j t b x) is i

-- an update, an end: used, ended and open
one_more : (x e u c : Bool) → (if x then true else (if e then false else (u && not c))) ≡ ((u || x) && not (if x then false else (c || e)))
one_more true e true c = refl
one_more true e false c = refl
one_more false true true true = refl
one_more false true true false = refl
one_more false true false c = refl
one_more false false true true = refl
one_more false false true false = refl
one_more false false false c = refl

or_joined : (a b c : Bool) → ((a || b) || c) ≡ (a || (b || c))
or_joined true b c = refl
or_joined false b c = refl

unused : (u : Bool) → (u || false) ≡ u
unused true = refl
unused false = refl

-- a transaction is open that was used and not ended since
used_unended : (j t : ℕ) (u c : Bool) (is : List Issued) → items_begun j t (u && not c) is ≡ ((u || list_any (is_update_of j t) is) && not (ended_from j t c is))
used_unended j t u c [] = ap (λ b. b && not c) (sym (unused u))
used_unended j t u c (i ∷ is) =
    ap (λ b. items_begun j t b is) (one_more (is_update_of j t i) (is_end_of j t i) u c)
    ∙ used_unended j t (u || is_update_of j t i) (if is_update_of j t i then false else (c || is_end_of j t i)) is
    ∙ ap (λ b. b && not (ended_from j t (if is_update_of j t i then false else (c || is_end_of j t i)) is)) (or_joined u (is_update_of j t i) (list_any (is_update_of j t) is))

pub may_end : (j t : ℕ) (is : List Issued) → list_any (is_update_of j t) is ≡ true → ended_from j t false is ≡ false → items_begun j t false is ≡ true
may_end j t is used unended = used_unended j t false false is ∙ ap (λ b. b && not (ended_from j t false is)) used ∙ ap not unended

changed : (p q z b : Bool) → (q ≡ true → z ≡ false) → (if ((true && p) && q) && (not z && true) then true else b) ≡ (if (p && q) && true then true else (if p && false then false else b))
changed false q z b h = refl
changed true false z b h = refl
changed true true true b h = absurd (cc (h refl))
changed true true false b h = refl

added : (p q z b : Bool) → (if ((true && p) && q) && (not z && false) then true else b) ≡ (if (p && q) && false then true else (if p && false then false else b))
added false q z b = refl
added true false z b = refl
added true true true b = refl
added true true false b = refl

ended_one : (p q m b : Bool) → (if (true && p) && m then false else b) ≡ (if (p && q) && false then true else (if p && m then false else b))
ended_one false q m b = refl
ended_one true true m b = refl
ended_one true false m b = refl

-- an item's entry does to the transaction what the item does
entry_begun : (n w j t : ℕ) (b : Bool) (i : Issued) → 0 < t → begun_after b (entry_of n w i) n j t ≡ item_begun j t b i
entry_begun n w j t b i positive = go i.item
  where
    same : (n == n) ≡ true
    same = eq-eqb n n refl

    positive_too : (i.txn == t) ≡ true → (i.txn == 0) ≡ false
    positive_too e = ne_eqb i.txn 0 (λ z. omega (arith, eqb-true i.txn t e, z, positive))

    go : (x : Item) → begun_after b (entry_of_item n w i.job i.txn x) n j t ≡ (if (i.job == j && i.txn == t && is_change x) then true else (if (i.job == j && ends t x) then false else b))
    go (Op (Set key value)) = ap (λ r. if ((r && i.job == j) && i.txn == t) && (not (i.txn == 0) && true) then true else b) same ∙ changed (i.job == j) (i.txn == t) (i.txn == 0) b positive_too
    go (Op (Kill key)) = ap (λ r. if ((r && i.job == j) && i.txn == t) && (not (i.txn == 0) && true) then true else b) same ∙ changed (i.job == j) (i.txn == t) (i.txn == 0) b positive_too
    go (Op (Add key amount)) = ap (λ r. if ((r && i.job == j) && i.txn == t) && (not (i.txn == 0) && false) then true else b) same ∙ added (i.job == j) (i.txn == t) (i.txn == 0) b
    go (CommitItem m) = ap (λ r. if (r && i.job == j) && m == t then false else b) same ∙ ended_one (i.job == j) (i.txn == t) (m == t) b
    go (RollbackItem m) = ap (λ r. if (r && i.job == j) && m == t then false else b) same ∙ ended_one (i.job == j) (i.txn == t) (m == t) b

take_got : {X : Type 0} (xs : List X) (k : ℕ) (x : X) → slice_get xs k ≡ Some x → take (suc k) xs ≡ take k xs ++ x ∷ []
take_got [] k x e = absurd (cc (e))
take_got (y ∷ xs) zero x e = ap (λ z. z ∷ []) (same_Some y x e)
take_got (y ∷ xs) (suc k) x e = ap (λ r. y ∷ r) (take_got xs k x e)

each_last : {X : Type 0} (P : X → Type 0) (xs : List X) (x : X) → Each P (xs ++ x ∷ []) → P x
each_last P [] x p = p.0
each_last P (y ∷ xs) x p = each_last P xs x p.1

module _ (n j t : ℕ) (positive : 0 < t) (is : List Issued) where
  -- where the entry is an item of the session, it stands as it was issued
  abbrev pub Stand : Entry → Type 0
  Stand e = is_item_of n e ≡ true → StandsAsIssued is n e

  abbrev Facts : List Entry → Type 0
  Facts es = (count es n ≤ length is) × (live es n ≡ true → is_begun n j t (fold es).begun ≡ items_begun j t false (take (count es n) is))

  fold_begun : (es : List Entry) (e : Entry) → is_begun n j t (fold (es ++ e ∷ [])).begun ≡ begun_after (is_begun n j t (fold es).begun) e n j t
  fold_begun es e = ap (λ f. is_begun n j t f.begun) (fold-push es e) ∙ begun-step n j t (fold es) e

  other : (es : List Entry) (e : Entry) → w_in n e ≡ 0 → (live_after (live es n) e n ≡ true → (live es n ≡ true) × ((b : Bool) → begun_after b e n j t ≡ b)) → Facts es → Facts (es ++ e ∷ [])
  other es e none stays f = (omega (arith, same, f.0), begun)
    where
      same : count (es ++ e ∷ []) n ≡ count es n
      same = omega (arith, count-push es e n, none)

      begun : live (es ++ e ∷ []) n ≡ true → is_begun n j t (fold (es ++ e ∷ [])).begun ≡ items_begun j t false (take (count (es ++ e ∷ []) n) is)
      begun l =
          let h : (live es n ≡ true) × ((b : Bool) → begun_after b e n j t ≡ b) = stays (sym (live-push es e n) ∙ l) in
          fold_begun es e ∙ h.1 _ ∙ f.1 h.0 ∙ ap (λ k. items_begun j t false (take k is)) (sym same)

  item : (es : List Entry) (e : Entry) → w_in n e ≡ w_of e → w_of e ≡ count es n + 1 → live_after (live es n) e n ≡ live es n → StandsAsIssued is n e → Facts es → Facts (es ++ e ∷ [])
  item es e its next lives stands f = go (slice_get is (count es n)) refl (subst (λ k. option_map (entry_of n (w_of e)) (slice_get is k) ≡ Some e) (omega (arith, next)) stands)
    where
      more : count (es ++ e ∷ []) n ≡ suc (count es n)
      more = omega (arith, count-push es e n, its, next)

      go : (o : Option Issued) → slice_get is (count es n) ≡ o → option_map (entry_of n (w_of e)) o ≡ Some e → Facts (es ++ e ∷ [])
      go None g h = absurd (cc (h))
      go (Some i) g h = (
        omega (arith, more, slice_get_within is (count es n) i g),
        λ l.
            fold_begun es e
            ∙ ap (λ x. begun_after (is_begun n j t (fold es).begun) x n j t) (sym (same_Some (entry_of n (w_of e) i) e h))
            ∙ entry_begun n (w_of e) j t (is_begun n j t (fold es).begun) i positive
            ∙ ap (λ b. item_begun j t b i) (f.1 (sym lives ∙ (sym (live-push es e n) ∙ l)))
            ∙ sym (items_begun-push j t false (take (count es n) is) i)
            ∙ ap (items_begun j t false) (sym (take_got is (count es n) i g))
            ∙ ap (λ k. items_begun j t false (take k is)) (sym more),
      )

  opens : (es : List Entry) (app : ℕ) (s : ℕ) → IsOrdered es → s ≡ length es + 1 → Facts es → Facts (es ++ OpenedEntry s app ∷ [])
  opens es app s o place f = go (eqb s n) refl
    where
      none : n ≡ length es + 1 → count es n ≡ 0
      none high = (ordered_past es o).counts_none n (omega (arith, high))

      go : (b : Bool) → eqb s n ≡ b → Facts (es ++ OpenedEntry s app ∷ [])
      go false e = other es (OpenedEntry s app) refl (λ l. (subst (λ b. (if b then true else live es n) ≡ true) e l, λ b. refl)) f
      go true e =
          let high : n ≡ length es + 1 = sym (eqb-true s n e) ∙ place in
          let zero_count : count (es ++ OpenedEntry s app ∷ []) n ≡ 0 = omega (arith, count-push es (OpenedEntry s app) n, none high) in
          (omega (arith, zero_count), λ l. fold_begun es (OpenedEntry s app) ∙ (ordered_past es o).begins_none n j t (omega (arith, high)) ∙ ap (λ k. items_begun j t false (take k is)) (sym zero_count))

  closes : (es : List Entry) (s : ℕ) → Facts es → Facts (es ++ Closed s ∷ [])
  closes es s f = go (eqb s n) refl
    where
      go : (b : Bool) → eqb s n ≡ b → Facts (es ++ Closed s ∷ [])
      go false e = other es (Closed s) refl (λ l. (subst (λ b. (if b then false else live es n) ≡ true) e l, λ b. ap (λ c. if c then false else b) e)) f
      go true e = other es (Closed s) refl (λ l. absurd (cc (subst (λ b. (if b then false else live es n) ≡ true) e l))) f

  -- an item of this session or of another one
  either : (es : List Entry) (e : Entry) (s w : ℕ) → is_item_of n e ≡ eqb s n → w_in n e ≡ (if eqb s n then w else 0) → w_of e ≡ w → w ≡ count es s + 1
      → live_after (live es n) e n ≡ live es n → (eqb s n ≡ false → (b : Bool) → begun_after b e n j t ≡ b) → Stand e → Facts es → Facts (es ++ e ∷ [])
  either es e s w is_its w_its w_is_w next lives others stands f = go (eqb s n) refl
    where
      go : (b : Bool) → eqb s n ≡ b → Facts (es ++ e ∷ [])
      go true q = item es e (w_its ∙ ap (λ b. if b then w else 0) q ∙ sym w_is_w) (w_is_w ∙ next ∙ ap (λ m. count es m + 1) (eqb-true s n q)) lives (stands (is_its ∙ q)) f
      go false q = other es e (w_its ∙ ap (λ b. if b then w else 0) q) (λ l. (sym lives ∙ l, others q)) f

  off : (c : Bool) (p q x : Bool) (b r : Bool) → c ≡ false → (if ((c && p) && q) && x then r else b) ≡ b
  off false p q x b r e = refl
  off true p q x b r e = absurd (cc (e))

  off_end : (c p q b : Bool) → c ≡ false → (if (c && p) && q then false else b) ≡ b
  off_end false p q b e = refl
  off_end true p q b e = absurd (cc (e))

  step : (es : List Entry) (e : Entry) → IsOrdered es → MayFollow es e → Stand e → Facts es → Facts (es ++ e ∷ [])
  step es (Epoch number) o may stands f = other es (Epoch number) refl (λ l. (l, λ b. refl)) f
  step es (OpenedEntry s app) o may stands f = opens es app s o may.is_position f
  step es (Closed s) o may stands f = closes es s f
  step es (Update s w job txn op) o may stands f = either es (Update s w job txn op) s w refl refl refl may.is_next refl (λ q b. off (eqb s n) (job == j) (txn == t) _ b true q) stands f
  step es (Commit s w job txn) o may stands f = either es (Commit s w job txn) s w refl refl refl may.is_next refl (λ q b. off_end (eqb s n) (job == j) (txn == t) b q) stands f
  step es (Rollback s w job txn) o may stands f = either es (Rollback s w job txn) s w refl refl refl may.is_next refl (λ q b. off_end (eqb s n) (job == j) (txn == t) b q) stands f

  -- what the order has open of a live session, its items leave open
  pub begun_is : (es : List Entry) → IsOrdered es → Each Stand es → live es n ≡ true → is_begun n j t (fold es).begun ≡ items_begun j t false (take (count es n) is)
  begun_is es o all l =
      (ordered_induction (λ xs. Each Stand xs → Facts xs) (λ _. (omega arith, λ h. absurd (cc (h)))) (λ xs x ox f may each. step xs x ox may (each_last Stand xs x each) (f (each_front Stand xs (x ∷ []) each))) es o all).1 l
