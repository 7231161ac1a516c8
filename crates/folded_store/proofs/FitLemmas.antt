-- What a store does keeps its pairs, and what is to be put back, within the limits.
use Rattle.std.proofs.Common.{◌≡◌, ◌<◌, ◌≤◌, ℕ, zero, suc, ◌+◌, ◌*◌, ◌/◌, ◌%◌, ◌==◌, refl, List, [], ◌∷◌, length, Bool, true, false, cond, if◌then◌else◌, Option, Some, None, ℤ, pos, negsuc, nat_eq, arith, subst, sym, ◌∙◌, ap, map, Result, Ok, Err, OnOk, OnErr}
use Rattle.std.specs.Prelude.{◌+ℤ◌}
use Rattle.std.specs.declared.cmp.Ordering.{Ordering}
use Rattle.std.specs.declared.cmp.Ordering.TheVariants.{Less, Equal, Greater}
use Rattle.std.specs.Ordering.{match_ordering}
use Rattle.std.specs.List.{AllByRecursion, filter}
use Rattle.std.specs.Map.{remove_entry}
use Rattle.std.specs.BTreeMap.{is_at}
use Rattle.std.proofs.lemmas.Bool.{eqb-false, ltb-true}
use Rattle.subscript_keys.specs.declared.limits.TheConstants.{VALUE_LIMIT}
use Rattle.subscript_keys.specs.declared.pair.Pair.{Pair}
use Rattle.plain_orders.specs.Numbers.{digits_before, integer_text, is_short, whole_of}
use Rattle.plain_orders.specs.declared.op.Op.TheVariants.{Kill}
use Rattle.plain_orders.specs.declared.sum.Sum.{Sum}
use Rattle.plain_orders.specs.declared.sum.Sum.TheVariants.{Nothing, Whole, NotWhole, Range}
use Rattle.plain_orders.specs.PairMap.{Map, key_cmp, value_at, put, remove_under, is_outside, is_inside, put_all, pairs_under}
use Rattle.plain_orders.specs.Fold.{Undo, OldValue, OldPairs, Transaction, sum_of, sum_on, sum_with, value_back, undone, is_it, is_begun, undo_added, noted, undo_in}
use Rattle.plain_orders.specs.Ordered.{KeyMay, SetMay}
use Rattle.plain_orders.specs.Keys.{HasKeys}
use Rattle.plain_orders.proofs.RisingLemmas.{put_rises, op_rises, undone_rises}
use Rattle.end_words.specs.Runs.{as_entry}
use Rattle.folded_store.specs.Limits.{PairsFit, MapFits, ValueFits, UndoFits, UndosFit, BegunFits}
use Rattle.folded_store.specs.Transactions.{first_undo, without_first}

-- what holds of each holds of those that pass
pub kept : {X : Type 0} (P : X → Type 0) (f : X → Bool) (xs : List X) → AllByRecursion P xs → AllByRecursion P (filter f xs)
kept P f [] h = tt
kept P f (x ∷ xs) h = go (f x) (kept P f xs h.1)
  where
    go : (t : Bool) → AllByRecursion P (filter f xs) → AllByRecursion P (cond t (x ∷ filter f xs) (filter f xs))
    go true more = (h.0, more)
    go false more = more

-- the keys of such pairs are nodes'
pub fit_keys : (m : Map) → PairsFit m → HasKeys m
fit_keys [] h = tt
fit_keys (p ∷ ps) h = (h.0.key_may.is_key, fit_keys ps h.1)

put_fits : (k v : List ℕ) (m : Map) → SetMay k v → PairsFit m → PairsFit (put m k v)
put_fits k v [] may h = (may, tt)
put_fits k v (p ∷ ps) may h = go (key_cmp k p.0) (put_fits k v ps may h.1)
  where
    go : (o : Ordering) → PairsFit (put ps k v) → PairsFit (match_ordering o ((k, v) ∷ p ∷ ps) ((p.0, v) ∷ ps) (p ∷ put ps k v))
    go Less more = (may, h)
    go Equal more = (record { key_may = h.0.key_may; within = may.within }, h.1)
    go Greater more = (h.0, more)

remove_fits : (f : List ℕ → Bool) (m : Map) → PairsFit m → PairsFit (remove_entry f m)
remove_fits f [] h = tt
remove_fits f (p ∷ ps) h = go (f p.0) (remove_fits f ps h.1)
  where
    go : (t : Bool) → PairsFit (remove_entry f ps) → PairsFit (cond t ps (p ∷ remove_entry f ps))
    go true more = h.1
    go false more = (h.0, more)

put_all_fits : (m ps : Map) → PairsFit ps → PairsFit m → PairsFit (put_all m ps)
put_all_fits m [] q h = h
put_all_fits m (p ∷ ps) q h = put_all_fits (put m p.0 p.1) ps q.1 (put_fits p.0 p.1 m q.0 h)

-- the old value of a node's key may be set there
pub value_fits : (m : Map) (key : List ℕ) → KeyMay key → PairsFit m → ValueFits key (value_at m key)
value_fits [] key k h = tt
value_fits (p ∷ ps) key k h = go (is_at (key_cmp key) p.0) (value_fits ps key k h.1)
  where
    go : (t : Bool) → ValueFits key (value_at ps key) → ValueFits key (cond t (Some p.1) (value_at ps key))
    go true more = record { key_may = k; within = h.0.within }
    go false more = more

-- and so may the pairs that a Kill removes
pub pairs_under_fit : (m : Map) (node : List ℕ) → PairsFit m → PairsFit (pairs_under m node)
pairs_under_fit m node h = kept _ (is_inside node) m h

-- ten times itself, so many times
abbrev tens : ℕ → ℕ
tens zero = 1
tens (suc k) = 10 * tens k

tenth : (n m : ℕ) → n < 10 * m → n / 10 < m
tenth n m h = omega (arith, h)

-- a number's digits are as few as the powers of ten that it needs
digits_few : (k turns n : ℕ) (text : List ℕ) → n < tens (suc k) → length (digits_before turns n text) ≤ suc k + length text
digits_few k zero n text h = omega arith
digits_few zero (suc turns) n text h = go (n / 10 == 0) refl
  where
    go : (t : Bool) → (n / 10 == 0) ≡ t → length (elim t as (λ _. List ℕ) [ true ↦ (48 + n % 10) ∷ text | false ↦ digits_before turns (n / 10) ((48 + n % 10) ∷ text) ]) ≤ 1 + length text
    go true e = omega arith
    go false e = absurd (eqb-false (n / 10) 0 e (omega (arith, h)))
digits_few (suc k) (suc turns) n text h = go (n / 10 == 0) (digits_few k turns (n / 10) ((48 + n % 10) ∷ text) (tenth n (tens (suc k)) h))
  where
    go : (t : Bool) → length (digits_before turns (n / 10) ((48 + n % 10) ∷ text)) ≤ suc k + length ((48 + n % 10) ∷ text)
        → length (elim t as (λ _. List ℕ) [ true ↦ (48 + n % 10) ∷ text | false ↦ digits_before turns (n / 10) ((48 + n % 10) ∷ text) ]) ≤ suc (suc k) + length text
    go true few = omega arith
    go false few = omega (arith, few)

-- a whole number of few digits has a short text
integer_fits : (z : ℤ) → is_short z ≡ true → length (integer_text z) ≤ VALUE_LIMIT
integer_fits (pos n) h = omega (arith, digits_few 17 (suc n) n [] (ltb-true n (tens 18) h))
integer_fits (negsuc n) h = omega (arith, digits_few 17 (suc (suc n)) (suc n) [] (ltb-true (suc n) (tens 18) h))

-- a sum that is written is short
abbrev SumFits : Sum → Type 0
SumFits Nothing = Unit {0}
SumFits (Whole n) = is_short n ≡ true
SumFits NotWhole = Unit {0}
SumFits Range = Unit {0}

sum_fits : (z : ℤ) → SumFits (sum_of z)
sum_fits z = go (is_short z) refl
  where
    go : (t : Bool) → is_short z ≡ t → SumFits (if t then Whole z else Range)
    go true e = e
    go false e = tt

sum_on_fits : (o : Option ℤ) (amount : ℤ) → SumFits (sum_on o amount)
sum_on_fits None amount = tt
sum_on_fits (Some n) amount = sum_fits (n +ℤ amount)

sum_with_fits : (o : Option (List ℕ)) (amount : ℤ) → SumFits (sum_with o amount)
sum_with_fits None amount = sum_fits amount
sum_with_fits (Some value) amount = sum_on_fits (whole_of value) amount

-- so its text may be set
pub sum_text_fits : (key : List ℕ) (o : Option (List ℕ)) (amount z : ℤ) → KeyMay key → sum_with o amount ≡ Whole z → SetMay key (integer_text z)
sum_text_fits key o amount z k e = record { key_may = k; within = integer_fits z (subst SumFits e (sum_with_fits o amount)) }

-- a pair that is put
pub put_holds : (m : Map) (k v : List ℕ) → SetMay k v → MapFits m → MapFits (put m k v)
put_holds m k v may h = record { rises = put_rises k v m h.rises; pairs = put_fits k v m may h.pairs }

-- a node and its descendants that are removed
pub kill_holds : (m : Map) (node : List ℕ) → MapFits m → MapFits (remove_under m node)
kill_holds m node h = record { rises = op_rises m (Kill node) h.rises; pairs = kept _ (is_outside node) m h.pairs }

back_fits : (m : Map) (key : List ℕ) (old : Option (List ℕ)) → ValueFits key old → PairsFit m → PairsFit (value_back m key old)
back_fits m key None v h = remove_fits _ m h
back_fits m key (Some value) v h = put_fits key value m v h

undone_fits : (m : Map) (u : Undo) → UndoFits u → PairsFit m → PairsFit (undone m u)
undone_fits m (OldValue key old) k h = back_fits m key old k h
undone_fits m (OldPairs key pairs) k h = put_all_fits m pairs k h

-- an item that is put back
pub undone_holds : (m : Map) (u : Undo) → UndoFits u → MapFits m → MapFits (undone m u)
undone_holds m u k h = record { rises = undone_rises m u h.rises; pairs = undone_fits m u k h.pairs }

-- what is to be put back of one transaction
pub undo_in_fits : (s j t : ℕ) (ts : List Transaction) → BegunFits ts → UndosFit (undo_in s j t ts)
undo_in_fits s j t [] b = tt
undo_in_fits s j t (x ∷ ts) b = go (is_it s j t x) (undo_in_fits s j t ts b.1)
  where
    go : (d : Bool) → UndosFit (undo_in s j t ts) → UndosFit (if d then x.undo else undo_in s j t ts)
    go true more = b.0
    go false more = more

added_fits : (s j t : ℕ) (u : Undo) (ts : List Transaction) → UndoFits u → BegunFits ts → BegunFits (undo_added s j t u ts)
added_fits s j t u [] k b = tt
added_fits s j t u (x ∷ ts) k b = go (is_it s j t x) (added_fits s j t u ts k b.1)
  where
    go : (d : Bool) → BegunFits (undo_added s j t u ts) → BegunFits (if d then record x { undo = u ∷ x.undo } ∷ ts else x ∷ undo_added s j t u ts)
    go true more = ((k, b.0), b.1)
    go false more = (b.0, more)

-- an item that is noted
pub noted_fits : (s j t : ℕ) (u : Undo) (ts : List Transaction) → UndoFits u → BegunFits ts → BegunFits (noted s j t (Some u) ts)
noted_fits s j t u ts k b = go (nat_eq t 0) (is_begun s j t ts)
  where
    go : (z d : Bool) → BegunFits (if z then ts else (if d then undo_added s j t u ts else record { session = s; job = j; txn = t; undo = u ∷ [] } ∷ ts))
    go true d = b
    go false true = added_fits s j t u ts k b
    go false false = ((k, tt), b)

-- the latest begun transaction of a session
pub first_fits : (session : ℕ) (ts : List Transaction) (us : List Undo) → BegunFits ts → first_undo session ts ≡ Some us → UndosFit us
first_fits session [] us b e = absurd (cc)
first_fits session (t ∷ ts) us b e = go (nat_eq t.session session) e (first_fits session ts us b.1)
  where
    go : (d : Bool) → (if d then Some t.undo else first_undo session ts) ≡ Some us → (first_undo session ts ≡ Some us → UndosFit us) → UndosFit us
    go true e more = let same : t.undo ≡ us = cc in subst UndosFit same b.0
    go false e more = more e

-- and those that are left
pub rest_fits : (session : ℕ) (ts : List Transaction) → BegunFits ts → BegunFits (without_first session ts)
rest_fits session [] b = tt
rest_fits session (t ∷ ts) b = go (nat_eq t.session session) (rest_fits session ts b.1)
  where
    go : (d : Bool) → BegunFits (without_first session ts) → BegunFits (if d then ts else t ∷ without_first session ts)
    go true more = b.1
    go false more = (b.0, more)

-- of the loop that puts pairs back
module _ (ps rest : List Pair) (p : Pair) (m n o : Map) (first : ps ≡ p ∷ rest) (fits : MapFits m) (left : PairsFit (map as_entry ps)) (same : put_all m (map as_entry ps) ≡ o) (is : n ≡ put m p.key p.value) where
  both_fit : PairsFit (map as_entry (p ∷ rest))
  both_fit = subst (λ qs. PairsFit (map as_entry qs)) first left

  pub put_now : MapFits n
  put_now = subst MapFits (sym is) (put_holds m p.key p.value both_fit.0 fits)

  pub put_later : PairsFit (map as_entry rest)
  put_later = both_fit.1

  pub put_same : put_all n (map as_entry rest) ≡ o
  put_same = ap (λ q. put_all q (map as_entry rest)) is ∙ ap (λ qs. put_all m (map as_entry qs)) (sym first) ∙ same

-- what holds after either result
pub by_result : {T E P Q X : Type 0} (r : Result T E) → OnOk r P → OnErr r Q → (P → X) → (Q → X) → X
by_result (Ok x) p q f g = f p
by_result (Err e) p q f g = g q

-- an item that is noted or not
pub note_fits : {T E : Type 0} (r : Result T E) (s j t : ℕ) (u : Undo) (ts new : List Transaction) → UndoFits u → BegunFits ts → OnOk r (new ≡ noted s j t (Some u) ts) → OnErr r (new ≡ ts) → BegunFits new
note_fits r s j t u ts new k b ok err = by_result r ok err (λ e. subst BegunFits (sym e) (noted_fits s j t u ts k b)) (λ e. subst BegunFits (sym e) b)

-- a pair that is set by copies of a key and a value
pub set_holds : (m n : Map) (key value node text : List ℕ) → SetMay key value → node ≡ key → text ≡ value → n ≡ put m node text → MapFits m → MapFits n
set_holds m n key value node text may a b is h =
    subst MapFits (sym (is ∙ ap (λ k. put m k text) a ∙ ap (put m key) b)) (put_holds m key value may h)

-- and what it leaves to be put back
pub old_fits : (m : Map) (key node copy : List ℕ) (old : Option (List ℕ)) → KeyMay key → node ≡ key → copy ≡ key → old ≡ value_at m node → PairsFit m → ValueFits copy old
old_fits m key node copy old k a b is h =
    subst (λ (c : List ℕ). ValueFits c old) (sym b) (subst (ValueFits key) (sym (is ∙ ap (value_at m) a)) (value_fits m key k h))
