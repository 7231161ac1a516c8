-- What a transaction did at one node is put back.
use Rattle.std.proofs.Common.{◌≡◌, ℕ, List, [], ◌∷◌, ◌++◌, refl, subst, sym, ap, ◌∙◌, Bool, true, false, cond, if◌then◌else◌, Option, Some, None, ◌⊎◌, inl, inr, ◌&&◌, ◌||◌, ◌==◌, not}
use Rattle.std.specs.List.{AllByRecursion, filter}
use Rattle.std.proofs.lemmas.Bool.{eqb-true, eq-eqb, and_parts, and_from, or_parts, not-true, false_from_ne_true}
use Rattle.plain_orders.specs.declared.op.Op.{Op}
use Rattle.plain_orders.specs.declared.op.Op.TheVariants.{Set, Kill, Add}
use Rattle.plain_orders.specs.declared.entry.Entry.{Entry}
use Rattle.plain_orders.specs.declared.entry.Entry.TheVariants.{Epoch, Opened, Closed, Update, Commit, Rollback}
use Rattle.plain_orders.specs.Begun.{can_be_undone, is_named, is_of_one}
use Rattle.plain_orders.specs.Fold.{Undo, OldValue, OldPairs, Transaction, Folded, all_undone, beginning, fold, fold_from, fold_step, is_begun, is_elsewhere, is_it, is_other, noted, nothing_folded, op_after, session_undone, undo_added, undo_in, undo_of, with_undo}
use Rattle.plain_orders.specs.Ordered.{IsOrdered}
use Rattle.plain_orders.specs.Own.{op_touches}
use Rattle.plain_orders.specs.PairMap.{Map, IsRising, pairs_under, value_at}
use Rattle.plain_orders.proofs.FoldLemmas.{fold_from-append}
use Rattle.plain_orders.proofs.OrderKeys.{BegunHasKeys, folded_keys}
use Rattle.plain_orders.proofs.OrderLemmas.{ordered-front}
use Rattle.plain_orders.proofs.RisingLemmas.{all_undone_rises, fold_rises, step_rises}
use Rattle.plain_runs.proofs.Lists.{both_ways}
use Rattle.plain_runs.proofs.Ordered.{each_is_ordered}
use Rattle.trail_laws.specs.Touches.{has_touched}
use Rattle.trail_laws.specs.RollbackLaw.{LeavesNoTrace, ends_it, is_update_in, rolls_back, update_touches}
use Rattle.trail_laws.proofs.NodeValues.{AllStill, Still, all_undone_value, op_back, op_item_still, op_still, pick, still_all, still_undo, undo_at}

-- one transaction, at one node
module _ (s j t : ℕ) (q : List ℕ) where
  -- other transactions, which leave the node
  abbrev Others : List Transaction → Type 0
  Others [] = Unit {0}
  Others (x ∷ ts) = ((is_it s j t x ≡ false) × AllStill q x.undo) × Others ts

  -- it is begun, its items put back the old value, and no other has an item there
  abbrev Has : Option (List ℕ) → List Transaction → Option (List ℕ) → Type 0
  Has old [] x = ⊥
  Has old (y ∷ ts) x = ((is_it s j t y ≡ true) × (undo_at q y.undo x ≡ old) × Others ts) ⊎ ((is_it s j t y ≡ false) × AllStill q y.undo × Has old ts x)

  has_begun : (old : Option (List ℕ)) (ts : List Transaction) (x : Option (List ℕ)) → Has old ts x → is_begun s j t ts ≡ true
  has_begun old [] x h = absurd h
  has_begun old (y ∷ ts) x (inl h) = ap (λ (b : Bool). b || is_begun s j t ts) h.0
  has_begun old (y ∷ ts) x (inr h) = ap (λ (b : Bool). b || is_begun s j t ts) h.0 ∙ has_begun old ts x h.2

  others_from : (ts : List Transaction) → is_begun s j t ts ≡ false → AllByRecursion (λ (x : Transaction). has_touched q x ≡ false) ts → BegunHasKeys ts → Others ts
  others_from [] b a k = tt
  others_from (y ∷ ts) b a k = let x = or_parts (is_it s j t y) (is_begun s j t ts) b in ((x.0, still_all q y.undo a.0 k.0), others_from ts x.1 a.1 k.1)

  same_it : (a b c : ℕ) (y : Transaction) → is_it s j t y ≡ true → is_it a b c y ≡ true → is_named s j t a b c ≡ true
  same_it a b c y e f =
      let x = and_parts (y.session == s && y.job == j) (y.txn == t) e in
      let x' = and_parts (y.session == s) (y.job == j) x.0 in
      let z = and_parts (y.session == a && y.job == b) (y.txn == c) f in
      let z' = and_parts (y.session == a) (y.job == b) z.0 in
      and_from (a == s && b == j) (c == t)
      (and_from (a == s) (b == j) (eq-eqb a s (sym (eqb-true y.session a z'.0) ∙ eqb-true y.session s x'.0)) (eq-eqb b j (sym (eqb-true y.job b z'.1) ∙ eqb-true y.job j x'.1)))
      (eq-eqb c t (sym (eqb-true y.txn c z.1) ∙ eqb-true y.txn t x.1))

  -- an item of anyone that leaves the node
  others_item : (a b c : ℕ) (u : Undo) → Still q u → (ts : List Transaction) → Others ts → Others (undo_added a b c u ts)
  others_item a b c u n [] h = tt
  others_item a b c u n (y ∷ ts) h = go (is_it a b c y) (others_item a b c u n ts h.1)
    where
      go : (d : Bool) → Others (undo_added a b c u ts) → Others (if d then with_undo u y ∷ ts else y ∷ undo_added a b c u ts)
      go true r = ((h.0.0, (n, h.0.1)), h.1)
      go false r = (h.0, r)

  has_item : (a b c : ℕ) (u : Undo) → Still q u → (old : Option (List ℕ)) (ts : List Transaction) (x : Option (List ℕ)) → Has old ts x → Has old (undo_added a b c u ts) x
  has_item a b c u n old [] x h = absurd h
  has_item a b c u n old (y ∷ ts) x (inl h) = go (is_it a b c y) (others_item a b c u n ts h.2)
    where
      go : (d : Bool) → Others (undo_added a b c u ts) → Has old (if d then with_undo u y ∷ ts else y ∷ undo_added a b c u ts) x
      go true r = inl (h.0, ap (undo_at q y.undo) (n x) ∙ h.1, h.2)
      go false r = inl (h.0, h.1, r)
  has_item a b c u n old (y ∷ ts) x (inr h) = go (is_it a b c y) (has_item a b c u n old ts x h.2)
    where
      go : (d : Bool) → Has old (undo_added a b c u ts) x → Has old (if d then with_undo u y ∷ ts else y ∷ undo_added a b c u ts) x
      go true r = inr (h.0, (n, h.1), h.2)
      go false r = inr (h.0, h.1, r)

  -- an item of its own
  has_own : (u : Undo) (old : Option (List ℕ)) (ts : List Transaction) (x x' : Option (List ℕ)) → pick q u x' ≡ x → Has old ts x → Has old (undo_added s j t u ts) x'
  has_own u old [] x x' p h = absurd h
  has_own u old (y ∷ ts) x x' p (inl h) = subst (λ (d : Bool). Has old (if d then with_undo u y ∷ ts else y ∷ undo_added s j t u ts) x') (sym h.0) (inl (h.0, ap (undo_at q y.undo) p ∙ h.1, h.2))
  has_own u old (y ∷ ts) x x' p (inr h) = subst (λ (d : Bool). Has old (if d then with_undo u y ∷ ts else y ∷ undo_added s j t u ts) x') (sym h.0) (inr (h.0, h.1, has_own u old ts x x' p h.2))

  -- another is ended
  others_keep : (p : Transaction → Bool) (ts : List Transaction) → Others ts → Others (filter p ts)
  others_keep p [] h = tt
  others_keep p (y ∷ ts) h = go (p y) (others_keep p ts h.1)
    where
      go : (d : Bool) → Others (filter p ts) → Others (cond d (y ∷ filter p ts) (filter p ts))
      go true r = (h.0, r)
      go false r = r

  has_keep : (p : Transaction → Bool) → ((y : Transaction) → is_it s j t y ≡ true → p y ≡ true) → (old : Option (List ℕ)) (ts : List Transaction) (x : Option (List ℕ)) → Has old ts x → Has old (filter p ts) x
  has_keep p its old [] x h = absurd h
  has_keep p its old (y ∷ ts) x (inl h) = subst (λ (d : Bool). Has old (cond d (y ∷ filter p ts) (filter p ts)) x) (sym (its y h.0)) (inl (h.0, h.1, others_keep p ts h.2))
  has_keep p its old (y ∷ ts) x (inr h) = go (p y) (has_keep p its old ts x h.2)
    where
      go : (d : Bool) → Has old (filter p ts) x → Has old (cond d (y ∷ filter p ts) (filter p ts)) x
      go true r = inr (h.0, h.1, r)
      go false r = r

  -- the items of another leave the node
  others_quiet : (a b c : ℕ) (ts : List Transaction) → Others ts → AllStill q (undo_in a b c ts)
  others_quiet a b c [] h = tt
  others_quiet a b c (y ∷ ts) h = go (is_it a b c y) (others_quiet a b c ts h.1)
    where
      go : (d : Bool) → AllStill q (undo_in a b c ts) → AllStill q (if d then y.undo else undo_in a b c ts)
      go true r = h.0.1
      go false r = r

  other_quiet : (a b c : ℕ) → is_named s j t a b c ≡ false → (old : Option (List ℕ)) (ts : List Transaction) (x : Option (List ℕ)) → Has old ts x → AllStill q (undo_in a b c ts)
  other_quiet a b c no_it old [] x h = absurd h
  other_quiet a b c no_it old (y ∷ ts) x (inl h) = go (is_it a b c y) refl
    where
      go : (d : Bool) → is_it a b c y ≡ d → AllStill q (if d then y.undo else undo_in a b c ts)
      go true e = absurd (both_ways (is_named s j t a b c) (same_it a b c y h.0 e) no_it)
      go false e = others_quiet a b c ts h.2
  other_quiet a b c no_it old (y ∷ ts) x (inr h) = go (is_it a b c y) (other_quiet a b c no_it old ts x h.2)
    where
      go : (d : Bool) → AllStill q (undo_in a b c ts) → AllStill q (if d then y.undo else undo_in a b c ts)
      go true r = h.1
      go false r = r

  own_items : (old : Option (List ℕ)) (ts : List Transaction) (x : Option (List ℕ)) → Has old ts x → undo_at q (undo_in s j t ts) x ≡ old
  own_items old [] x h = absurd h
  own_items old (y ∷ ts) x (inl h) = subst (λ (d : Bool). undo_at q (if d then y.undo else undo_in s j t ts) x ≡ old) (sym h.0) h.1
  own_items old (y ∷ ts) x (inr h) = subst (λ (d : Bool). undo_at q (if d then y.undo else undo_in s j t ts) x ≡ old) (sym h.0) (own_items old ts x h.2)

  -- one transaction of a Close
  abbrev closed_one : ℕ → Transaction → Map → Map
  closed_one a y m = if y.session == a then all_undone m y.undo else m

  one_rises : (a : ℕ) (y : Transaction) (m : Map) → IsRising m → IsRising (closed_one a y m)
  one_rises a y m r = go (y.session == a)
    where
      go : (d : Bool) → IsRising (if d then all_undone m y.undo else m)
      go true = all_undone_rises m y.undo r
      go false = r

  one_still : (a : ℕ) (y : Transaction) (m : Map) → IsRising m → AllStill q y.undo → value_at (closed_one a y m) q ≡ value_at m q
  one_still a y m r h = go (y.session == a)
    where
      go : (d : Bool) → value_at (if d then all_undone m y.undo else m) q ≡ value_at m q
      go true = all_undone_value q m y.undo r ∙ still_undo q y.undo (value_at m q) h
      go false = refl

  -- a Close
  others_closed : (a : ℕ) (ts : List Transaction) (m : Map) → IsRising m → Others ts → value_at (session_undone a ts m) q ≡ value_at m q
  others_closed a [] m r h = refl
  others_closed a (y ∷ ts) m r h = others_closed a ts (closed_one a y m) (one_rises a y m r) h.1 ∙ one_still a y m r h.0.1

  its_session : (y : Transaction) → is_it s j t y ≡ true → (y.session == s) ≡ true
  its_session y e = (and_parts (y.session == s) (y.job == j) (and_parts (y.session == s && y.job == j) (y.txn == t) e).0).0

  other_closed : (a : ℕ) → (a == s) ≡ false → (old : Option (List ℕ)) (ts : List Transaction) (m : Map) → IsRising m → Has old ts (value_at m q) → value_at (session_undone a ts m) q ≡ value_at m q
  other_closed a no_it old [] m r h = absurd h
  other_closed a no_it old (y ∷ ts) m r (inl h) = others_closed a ts (closed_one a y m) (one_rises a y m r) h.2 ∙ go (y.session == a) refl
    where
      go : (d : Bool) → (y.session == a) ≡ d → value_at (if d then all_undone m y.undo else m) q ≡ value_at m q
      go true e = absurd (both_ways (a == s) (eq-eqb a s (sym (eqb-true y.session a e) ∙ eqb-true y.session s (its_session y h.0))) no_it)
      go false e = refl
  other_closed a no_it old (y ∷ ts) m r (inr h) =
      let same : value_at (closed_one a y m) q ≡ value_at m q = one_still a y m r h.1 in
      other_closed a no_it old ts (closed_one a y m) (one_rises a y m r) (subst (Has old ts) (sym same) h.2) ∙ same

  own_closed : (old : Option (List ℕ)) (ts : List Transaction) (m : Map) → IsRising m → Has old ts (value_at m q) → value_at (session_undone s ts m) q ≡ old
  own_closed old [] m r h = absurd h
  own_closed old (y ∷ ts) m r (inl h) =
      others_closed s ts (closed_one s y m) (one_rises s y m r) h.2
      ∙ subst (λ (d : Bool). value_at (if d then all_undone m y.undo else m) q ≡ old) (sym (its_session y h.0)) (all_undone_value q m y.undo r ∙ h.1)
  own_closed old (y ∷ ts) m r (inr h) = own_closed old ts (closed_one s y m) (one_rises s y m r) (subst (Has old ts) (sym (one_still s y m r h.1)) h.2)

  its_ids : (a b c : ℕ) → is_named s j t a b c ≡ true → (a ≡ s) × (b ≡ j) × (c ≡ t)
  its_ids a b c e =
      let x = and_parts (a == s && b == j) (c == t) e in
      let y = and_parts (a == s) (b == j) x.0 in
      (eqb-true a s y.0, eqb-true b j y.1, eqb-true c t x.1)

  -- what an update of the transaction leaves to be put back
  item_of : (m : Map) (op : Op) → can_be_undone op ≡ true → (u : Undo) × (undo_of m op ≡ Some u)
  item_of m (Set k v) c = (OldValue k (value_at m k), refl)
  item_of m (Kill k) c = (OldPairs k (pairs_under m k), refl)
  item_of m (Add k amount) c = absurd (cc (c))

  noted_own : (old : Option (List ℕ)) (f : Folded) (op : Op) → (t == 0) ≡ false → can_be_undone op ≡ true → IsRising f.pairs → Has old f.begun (value_at f.pairs q) → Has old (noted s j t (undo_of f.pairs op) f.begun) (value_at (op_after f.pairs op) q)
  noted_own old f op some c r h =
      let u = item_of f.pairs op c in
      let is : noted s j t (Some u.0) f.begun ≡ undo_added s j t u.0 f.begun =
      ap (λ (d : Bool). if d then f.begun else (if is_begun s j t f.begun then undo_added s j t u.0 f.begun else beginning s j t u.0 ∷ f.begun)) some
      ∙ ap (λ (d : Bool). if d then undo_added s j t u.0 f.begun else beginning s j t u.0 ∷ f.begun) (has_begun old f.begun (value_at f.pairs q) h)
      in
      subst (λ (ts : List Transaction). Has old ts (value_at (op_after f.pairs op) q)) (sym (ap (λ o. noted s j t o f.begun) u.1 ∙ is))
      (has_own u.0 old f.begun (value_at f.pairs q) (value_at (op_after f.pairs op) q) (op_back q f.pairs op u.0 u.1 r) h)

  noted_item : (old : Option (List ℕ)) (a b c : ℕ) (u : Undo) (ts : List Transaction) (x : Option (List ℕ)) → Still q u → Has old ts x → Has old (noted a b c (Some u) ts) x
  noted_item old a b c u ts x n h = go (c == 0) (is_begun a b c ts) refl
    where
      go : (d e : Bool) → is_begun a b c ts ≡ e → Has old (if d then ts else (if e then undo_added a b c u ts else beginning a b c u ∷ ts)) x
      go true e r = h
      go false true r = has_item a b c u n old ts x h
      go false false r = inr (false_from_ne_true (is_named s j t a b c) no_new, (n, tt), h)
        where
          no_new : is_named s j t a b c ≡ true → ⊥
          no_new e =
              let i = its_ids a b c e in
              both_ways (is_begun a b c ts) (ap (λ (n : ℕ). is_begun n b c ts) i.0 ∙ ap (λ (n : ℕ). is_begun s n c ts) i.1 ∙ ap (λ (n : ℕ). is_begun s j n ts) i.2 ∙ has_begun old ts x h) r

  noted_other : (old : Option (List ℕ)) (a b c : ℕ) (m : Map) (op : Op) (ts : List Transaction) (x : Option (List ℕ)) → op_touches q op ≡ false → Has old ts x → Has old (noted a b c (undo_of m op) ts) x
  noted_other old a b c m op ts x still h = go (undo_of m op) refl
    where
      go : (o : Option Undo) → undo_of m op ≡ o → Has old (noted a b c o ts) x
      go None e = h
      go (Some u) e = noted_item old a b c u ts x (op_item_still q m op u e still) h

  abbrev Begun : Option (List ℕ) → Folded → Type 0
  Begun old f = Has old f.begun (value_at f.pairs q)

  step : (old : Option (List ℕ)) (f : Folded) (e : Entry) → ends_it s j t e ≡ false → (is_update_in s j t e ≡ false → update_touches q e ≡ false) → IsRising f.pairs → Begun old f → Begun old (fold_step f e)
  step old f (Epoch number) n o r h = h
  step old f (Opened session app) n o r h = h
  step old f (Closed session) n o r h =
      subst (Has old (filter (is_elsewhere session) f.begun)) (sym (other_closed session n old f.begun f.pairs r h))
      (has_keep (is_elsewhere session) (λ y e. ap not (false_from_ne_true (y.session == session) (λ d. both_ways (session == s) (eq-eqb session s (sym (eqb-true y.session session d) ∙ eqb-true y.session s (its_session y e))) n))) old f.begun (value_at f.pairs q) h)
  step old f (Commit session w job txn) n o r h =
      has_keep (is_other session job txn) (λ y e. ap not (false_from_ne_true (is_it session job txn y) (λ d. both_ways (is_named s j t session job txn) (same_it session job txn y e d) n))) old f.begun (value_at f.pairs q) h
  step old f (Rollback session w job txn) n o r h =
      subst (Has old (filter (is_other session job txn) f.begun))
      (sym (all_undone_value q f.pairs (undo_in session job txn f.begun) r ∙ still_undo q (undo_in session job txn f.begun) (value_at f.pairs q) (other_quiet session job txn n old f.begun (value_at f.pairs q) h)))
      (has_keep (is_other session job txn) (λ y e. ap not (false_from_ne_true (is_it session job txn y) (λ d. both_ways (is_named s j t session job txn) (same_it session job txn y e d) n))) old f.begun (value_at f.pairs q) h)
  step old f (Update session w job txn op) n o r h = go (is_named s j t session job txn && is_of_one txn op) refl
    where
      go : (d : Bool) → (is_named s j t session job txn && is_of_one txn op) ≡ d → Has old (noted session job txn (undo_of f.pairs op) f.begun) (value_at (op_after f.pairs op) q)
      go true e =
          let x = and_parts (is_named s j t session job txn) (is_of_one txn op) e in
          let y = and_parts (not (txn == 0)) (can_be_undone op) x.1 in
          let i = its_ids session job txn x.0 in
          subst (λ (k : ℕ). Has old (noted k job txn (undo_of f.pairs op) f.begun) (value_at (op_after f.pairs op) q)) (sym i.0)
          (subst (λ (k : ℕ). Has old (noted s k txn (undo_of f.pairs op) f.begun) (value_at (op_after f.pairs op) q)) (sym i.1)
          (subst (λ (k : ℕ). Has old (noted s j k (undo_of f.pairs op) f.begun) (value_at (op_after f.pairs op) q)) (sym i.2)
          (noted_own old f op (subst (λ (k : ℕ). (k == 0) ≡ false) i.2 (not-true (txn == 0) y.0)) y.1 r h)))
      go false e = subst (Has old (noted session job txn (undo_of f.pairs op) f.begun)) (sym (op_still q f.pairs op (o e))) (noted_other old session job txn f.pairs op f.begun (value_at f.pairs q) (o e) h)

  steps : (old : Option (List ℕ)) (f : Folded) (es : List Entry) → AllByRecursion (λ e. ends_it s j t e ≡ false) es → AllByRecursion (λ e. is_update_in s j t e ≡ false → update_touches q e ≡ false) es → IsRising f.pairs → Begun old f
      → Begun old (fold_from f es) × IsRising (fold_from f es).pairs
  steps old f [] a b r h = (h, r)
  steps old f (e ∷ es) a b r h = steps old (fold_step f e) es a.1 b.1 (step_rises f e r) (step old f e a.0 b.0 r h)

  begins : (f : Folded) (e : Entry) → is_update_in s j t e ≡ true → is_begun s j t f.begun ≡ false → IsRising f.pairs → Others f.begun → Begun (value_at f.pairs q) (fold_step f e)
  begins f (Epoch number) o b r h = absurd (cc (o))
  begins f (Opened session app) o b r h = absurd (cc (o))
  begins f (Closed session) o b r h = absurd (cc (o))
  begins f (Commit session w job txn) o b r h = absurd (cc (o))
  begins f (Rollback session w job txn) o b r h = absurd (cc (o))
  begins f (Update session w job txn op) o b r h =
      let x = and_parts (is_named s j t session job txn) (is_of_one txn op) o in
      let y = and_parts (not (txn == 0)) (can_be_undone op) x.1 in
      let i = its_ids session job txn x.0 in
      subst (λ (k : ℕ). Has (value_at f.pairs q) (noted k job txn (undo_of f.pairs op) f.begun) (value_at (op_after f.pairs op) q)) (sym i.0)
      (subst (λ (k : ℕ). Has (value_at f.pairs q) (noted s k txn (undo_of f.pairs op) f.begun) (value_at (op_after f.pairs op) q)) (sym i.1)
      (subst (λ (k : ℕ). Has (value_at f.pairs q) (noted s j k (undo_of f.pairs op) f.begun) (value_at (op_after f.pairs op) q)) (sym i.2)
      (new (subst (λ (k : ℕ). (k == 0) ≡ false) i.2 (not-true (txn == 0) y.0)) (item_of f.pairs op y.1))))
    where
      new : (t == 0) ≡ false → (u : Undo) × (undo_of f.pairs op ≡ Some u) → Has (value_at f.pairs q) (noted s j t (undo_of f.pairs op) f.begun) (value_at (op_after f.pairs op) q)
      new some u =
          let is : noted s j t (Some u.0) f.begun ≡ beginning s j t u.0 ∷ f.begun =
          ap (λ (d : Bool). if d then f.begun else (if is_begun s j t f.begun then undo_added s j t u.0 f.begun else beginning s j t u.0 ∷ f.begun)) some
          ∙ ap (λ (d : Bool). if d then undo_added s j t u.0 f.begun else beginning s j t u.0 ∷ f.begun) b
          in
          subst (λ (ts : List Transaction). Has (value_at f.pairs q) ts (value_at (op_after f.pairs op) q)) (sym (ap (λ o. noted s j t o f.begun) u.1 ∙ is))
          (inl (and_from (s == s && j == j) (t == t) (and_from (s == s) (j == j) (eq-eqb s s refl) (eq-eqb j j refl)) (eq-eqb t t refl), op_back q f.pairs op u.0 u.1 r, h))

  ends : (old : Option (List ℕ)) (f : Folded) (e : Entry) → rolls_back s j t e ≡ true → IsRising f.pairs → Begun old f → value_at (fold_step f e).pairs q ≡ old
  ends old f (Epoch number) n r h = absurd (cc (n))
  ends old f (Opened session app) n r h = absurd (cc (n))
  ends old f (Update session w job txn op) n r h = absurd (cc (n))
  ends old f (Commit session w job txn) n r h = absurd (cc (n))
  ends old f (Closed session) n r h = ap (λ (k : ℕ). value_at (session_undone k f.begun f.pairs) q) (eqb-true session s n) ∙ own_closed old f.begun f.pairs r h
  ends old f (Rollback session w job txn) n r h =
      let i = its_ids session job txn n in
      all_undone_value q f.pairs (undo_in session job txn f.begun) r
      ∙ ap (λ (k : ℕ). undo_at q (undo_in k job txn f.begun) (value_at f.pairs q)) i.0 ∙ ap (λ (k : ℕ). undo_at q (undo_in s k txn f.begun) (value_at f.pairs q)) i.1
      ∙ ap (λ (k : ℕ). undo_at q (undo_in s j k f.begun) (value_at f.pairs q)) i.2
      ∙ own_items old f.begun (value_at f.pairs q) h

pub leaves_no_trace : LeavesNoTrace
leaves_no_trace l acts d k s j t before middle after first last q run is fresh own all undo others quiet =
    ap (λ (f : Folded). value_at f.pairs q) (fold_from-append nothing_folded (before ++ first ∷ middle) (last ∷ []))
    ∙ ap (λ (f : Folded). value_at (fold_step f last).pairs q) (fold_from-append nothing_folded before (first ∷ middle))
    ∙ ends s j t q (value_at f0.pairs q) (fold_from (fold_step f0 first) middle) last undo between.1 between.0
  where
    f0 : Folded
    f0 = fold before

    ordered : IsOrdered before
    ordered = ordered-front before (first ∷ middle) (ordered-front (before ++ first ∷ middle) (last ∷ after) (subst IsOrdered is (each_is_ordered l acts d k run)))

    between : Has s j t q (value_at f0.pairs q) (fold_from (fold_step f0 first) middle).begun (value_at (fold_from (fold_step f0 first) middle).pairs q) × IsRising (fold_from (fold_step f0 first) middle).pairs
    between =
        steps s j t q (value_at f0.pairs q) (fold_step f0 first) middle all others (step_rises f0 first (fold_rises before))
        (begins s j t q f0 first own fresh (fold_rises before) (others_from s j t q f0.begun fresh quiet (folded_keys before ordered).begun))
