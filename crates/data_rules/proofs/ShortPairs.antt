-- In the map that an ordered list makes each key and each value is within its limit, and so is what is to be put back.
use Rattle.std.proofs.Common.{◌≡◌, ◌<◌, ◌≤◌, ℕ, zero, suc, ◌+◌, ◌*◌, ◌/◌, ◌%◌, ◌==◌, refl, List, [], ◌∷◌, length, sym, subst, Bool, true, false, cond, if◌then◌else◌, Option, Some, None, ℤ, pos, negsuc, nat_eq, arith}
use Rattle.std.specs.Prelude.{◌+ℤ◌}
use Rattle.std.specs.declared.cmp.Ordering.{Ordering}
use Rattle.std.specs.declared.cmp.Ordering.TheVariants.{Less, Equal, Greater}
use Rattle.std.specs.Ordering.{match_ordering}
use Rattle.std.specs.List.{AllByRecursion, filter}
use Rattle.std.specs.Map.{remove_entry}
use Rattle.std.specs.BTreeMap.{is_at}
use Rattle.std.proofs.lemmas.Bool.{eqb-false, ltb-true}
use Rattle.subscript_keys.specs.declared.limits.TheConstants.{KEY_LIMIT, VALUE_LIMIT}
use Rattle.plain_orders.specs.Numbers.{digits_before, integer_text, is_short}
use Rattle.plain_orders.specs.declared.op.Op.{Op}
use Rattle.plain_orders.specs.declared.op.Op.TheVariants.{Set, Kill, Add}
use Rattle.plain_orders.specs.declared.entry.Entry.{Entry}
use Rattle.plain_orders.specs.declared.entry.Entry.TheVariants.{Epoch, Opened, Closed, Update, Commit, Rollback}
use Rattle.plain_orders.specs.declared.sum.Sum.{Sum}
use Rattle.plain_orders.specs.declared.sum.Sum.TheVariants.{Nothing, Whole, NotWhole, Range}
use Rattle.plain_orders.specs.PairMap.{Map, key_cmp, value_at, put, is_outside, is_inside, put_all, pairs_under}
use Rattle.plain_orders.specs.Fold.{Undo, OldValue, OldPairs, Transaction, Folded, sum_of, sum_on, sum_with, with_sum, op_after, undo_of, value_back, undone, all_undone, is_it, is_begun, undo_added, noted, undo_in, is_other, is_elsewhere, session_undone, fold_step, fold}
use Rattle.plain_orders.specs.Numbers.{whole_of}
use Rattle.plain_orders.specs.Ordered.{OpMay, MayFollow, IsOrdered}
use Rattle.plain_orders.proofs.FoldLemmas.{fold-push}
use Rattle.plain_orders.proofs.OrderLemmas.{ordered_induction}

-- a pair within the limits
abbrev pub PairFits : List ℕ × List ℕ → Type 0
PairFits p = (length p.0 ≤ KEY_LIMIT) × (length p.1 ≤ VALUE_LIMIT)

abbrev pub MapFits : Map → Type 0
MapFits m = AllByRecursion PairFits m

-- a value within its limit, if there is one
abbrev ValueFits : Option (List ℕ) → Type 0
ValueFits None = Unit {0}
ValueFits (Some value) = length value ≤ VALUE_LIMIT

abbrev UndoFits : Undo → Type 0
UndoFits (OldValue key old) = (length key ≤ KEY_LIMIT) × ValueFits old
UndoFits (OldPairs key pairs) = MapFits pairs

abbrev UndosFit : List Undo → Type 0
UndosFit us = AllByRecursion UndoFits us

abbrev BegunFits : List Transaction → Type 0
BegunFits ts = AllByRecursion (λ t. UndosFit t.undo) ts

record FoldFits (f : Folded) : Type 0 where
  pub pairs : MapFits f.pairs
  pub begun : BegunFits f.begun

kept : {X : Type 0} (P : X → Type 0) (f : X → Bool) (xs : List X) → AllByRecursion P xs → AllByRecursion P (filter f xs)
kept P f [] h = tt
kept P f (x ∷ xs) h = go (f x) (kept P f xs h.1)
  where
    go : (t : Bool) → AllByRecursion P (filter f xs) → AllByRecursion P (cond t (x ∷ filter f xs) (filter f xs))
    go true more = (h.0, more)
    go false more = more

-- ten times itself, so many times
abbrev tens : ℕ → ℕ
tens zero = 1
tens (suc k) = 10 * tens k

tenth : (n m : ℕ) → n < 10 * m → n / 10 < m
tenth n m h = omega (arith, h)

-- a number's digits are as few as the powers of ten that it needs
digits_few : (k turns n : ℕ) (text : List ℕ) → n < tens (suc k) → length (digits_before turns n text) ≤ suc k + length text
digits_few k zero n text h = omega arith
digits_few zero (suc turns) n text h = go (n / 10 == 0) refl
  where
    go : (t : Bool) → (n / 10 == 0) ≡ t → length (elim t as (λ _. List ℕ) [ true ↦ (48 + n % 10) ∷ text | false ↦ digits_before turns (n / 10) ((48 + n % 10) ∷ text) ]) ≤ 1 + length text
    go true e = omega arith
    go false e = absurd (eqb-false (n / 10) 0 e (omega (arith, h)))
digits_few (suc k) (suc turns) n text h = go (n / 10 == 0) (digits_few k turns (n / 10) ((48 + n % 10) ∷ text) (tenth n (tens (suc k)) h))
  where
    go : (t : Bool) → length (digits_before turns (n / 10) ((48 + n % 10) ∷ text)) ≤ suc k + length ((48 + n % 10) ∷ text)
        → length (elim t as (λ _. List ℕ) [ true ↦ (48 + n % 10) ∷ text | false ↦ digits_before turns (n / 10) ((48 + n % 10) ∷ text) ]) ≤ suc (suc k) + length text
    go true few = omega arith
    go false few = omega (arith, few)

-- a whole number of few digits has a short text
integer_fits : (z : ℤ) → is_short z ≡ true → length (integer_text z) ≤ VALUE_LIMIT
integer_fits (pos n) h = omega (arith, digits_few 17 (suc n) n [] (ltb-true n (tens 18) h))
integer_fits (negsuc n) h = omega (arith, digits_few 17 (suc (suc n)) (suc n) [] (ltb-true (suc n) (tens 18) h))

put_fits : (k v : List ℕ) (m : Map) → length k ≤ KEY_LIMIT → length v ≤ VALUE_LIMIT → MapFits m → MapFits (put m k v)
put_fits k v [] key value h = ((key, value), tt)
put_fits k v (p ∷ ps) key value h = go (key_cmp k p.0) (put_fits k v ps key value h.1)
  where
    go : (o : Ordering) → MapFits (put ps k v) → MapFits (match_ordering o ((k, v) ∷ p ∷ ps) ((p.0, v) ∷ ps) (p ∷ put ps k v))
    go Less more = ((key, value), h)
    go Equal more = ((h.0.0, value), h.1)
    go Greater more = (h.0, more)

remove_fits : (f : List ℕ → Bool) (m : Map) → MapFits m → MapFits (remove_entry f m)
remove_fits f [] h = tt
remove_fits f (p ∷ ps) h = go (f p.0) (remove_fits f ps h.1)
  where
    go : (t : Bool) → MapFits (remove_entry f ps) → MapFits (cond t ps (p ∷ remove_entry f ps))
    go true more = h.1
    go false more = (h.0, more)

put_all_fits : (m ps : Map) → MapFits ps → MapFits m → MapFits (put_all m ps)
put_all_fits m [] q h = h
put_all_fits m (p ∷ ps) q h = put_all_fits (put m p.0 p.1) ps q.1 (put_fits p.0 p.1 m q.0.0 q.0.1 h)

value_fits : (m : Map) (key : List ℕ) → MapFits m → ValueFits (value_at m key)
value_fits [] key h = tt
value_fits (p ∷ ps) key h = go (is_at (key_cmp key) p.0) (value_fits ps key h.1)
  where
    go : (t : Bool) → ValueFits (value_at ps key) → ValueFits (cond t (Some p.1) (value_at ps key))
    go true more = h.0.1
    go false more = more

-- a sum that is written is short
abbrev SumFits : Sum → Type 0
SumFits Nothing = Unit {0}
SumFits (Whole n) = is_short n ≡ true
SumFits NotWhole = Unit {0}
SumFits Range = Unit {0}

sum_fits : (z : ℤ) → SumFits (sum_of z)
sum_fits z = go (is_short z) refl
  where
    go : (t : Bool) → is_short z ≡ t → SumFits (if t then Whole z else Range)
    go true e = e
    go false e = tt

sum_on_fits : (o : Option ℤ) (amount : ℤ) → SumFits (sum_on o amount)
sum_on_fits None amount = tt
sum_on_fits (Some n) amount = sum_fits (n +ℤ amount)

sum_with_fits : (o : Option (List ℕ)) (amount : ℤ) → SumFits (sum_with o amount)
sum_with_fits None amount = sum_fits amount
sum_with_fits (Some value) amount = sum_on_fits (whole_of value) amount

with_sum_fits : (key : List ℕ) (m : Map) (s : Sum) → length key ≤ KEY_LIMIT → SumFits s → MapFits m → MapFits (with_sum m key s)
with_sum_fits key m Nothing k f h = h
with_sum_fits key m (Whole n) k f h = put_fits key (integer_text n) m k (integer_fits n f) h
with_sum_fits key m NotWhole k f h = h
with_sum_fits key m Range k f h = h

op_fits : (m : Map) (txn : ℕ) (op : Op) → OpMay txn op → MapFits m → MapFits (op_after m op)
op_fits m txn (Set key value) may h = put_fits key value m may.key_may.within may.within h
op_fits m txn (Kill key) may h = kept _ (is_outside key) m h
op_fits m txn (Add key amount) may h = with_sum_fits key m (sum_with (value_at m key) amount) may.key_may.within (sum_with_fits (value_at m key) amount) h

back_fits : (m : Map) (key : List ℕ) (old : Option (List ℕ)) → length key ≤ KEY_LIMIT → ValueFits old → MapFits m → MapFits (value_back m key old)
back_fits m key None k v h = remove_fits _ m h
back_fits m key (Some value) k v h = put_fits key value m k v h

undone_fits : (m : Map) (u : Undo) → UndoFits u → MapFits m → MapFits (undone m u)
undone_fits m (OldValue key old) k h = back_fits m key old k.0 k.1 h
undone_fits m (OldPairs key pairs) k h = put_all_fits m pairs k h

all_undone_fits : (m : Map) (us : List Undo) → UndosFit us → MapFits m → MapFits (all_undone m us)
all_undone_fits m [] k h = h
all_undone_fits m (u ∷ us) k h = all_undone_fits (undone m u) us k.1 (undone_fits m u k.0 h)

session_fits : (session : ℕ) (ts : List Transaction) (m : Map) → BegunFits ts → MapFits m → MapFits (session_undone session ts m)
session_fits session [] m b h = h
session_fits session (t ∷ ts) m b h = session_fits session ts _ b.1 (go (nat_eq t.session session))
  where
    go : (d : Bool) → MapFits (if d then all_undone m t.undo else m)
    go true = all_undone_fits m t.undo b.0 h
    go false = h

undo_in_fits : (s j t : ℕ) (ts : List Transaction) → BegunFits ts → UndosFit (undo_in s j t ts)
undo_in_fits s j t [] b = tt
undo_in_fits s j t (x ∷ ts) b = go (is_it s j t x) (undo_in_fits s j t ts b.1)
  where
    go : (d : Bool) → UndosFit (undo_in s j t ts) → UndosFit (if d then x.undo else undo_in s j t ts)
    go true more = b.0
    go false more = more

added_fits : (s j t : ℕ) (u : Undo) (ts : List Transaction) → UndoFits u → BegunFits ts → BegunFits (undo_added s j t u ts)
added_fits s j t u [] k b = tt
added_fits s j t u (x ∷ ts) k b = go (is_it s j t x) (added_fits s j t u ts k b.1)
  where
    go : (d : Bool) → BegunFits (undo_added s j t u ts) → BegunFits (if d then record x { undo = u ∷ x.undo } ∷ ts else x ∷ undo_added s j t u ts)
    go true more = ((k, b.0), b.1)
    go false more = (b.0, more)

noted_fits : (s j t : ℕ) (u : Undo) (ts : List Transaction) → UndoFits u → BegunFits ts → BegunFits (noted s j t (Some u) ts)
noted_fits s j t u ts k b = go (nat_eq t 0) (is_begun s j t ts)
  where
    go : (z d : Bool) → BegunFits (if z then ts else (if d then undo_added s j t u ts else record { session = s; job = j; txn = t; undo = u ∷ [] } ∷ ts))
    go true d = b
    go false true = added_fits s j t u ts k b
    go false false = ((k, tt), b)

note_fits : (s j t : ℕ) (op : Op) (m : Map) (ts : List Transaction) → OpMay t op → MapFits m → BegunFits ts → BegunFits (noted s j t (undo_of m op) ts)
note_fits s j t (Set key value) m ts may h b = noted_fits s j t (OldValue key (value_at m key)) ts (may.key_may.within, value_fits m key h) b
note_fits s j t (Kill key) m ts may h b = noted_fits s j t (OldPairs key (pairs_under m key)) ts (kept _ (is_inside key) m h) b
note_fits s j t (Add key amount) m ts may h b = b

step_fits : (es : List Entry) (f : Folded) (e : Entry) → MayFollow es e → FoldFits f → FoldFits (fold_step f e)
step_fits es f (Epoch number) may h = h
step_fits es f (Opened session app) may h = h
step_fits es f (Closed session) may h = record { pairs = session_fits session f.begun f.pairs h.begun h.pairs; begun = kept _ (is_elsewhere session) f.begun h.begun }
step_fits es f (Update session w job txn op) may h = record { pairs = op_fits f.pairs txn op may.within h.pairs; begun = note_fits session job txn op f.pairs f.begun may.within h.pairs h.begun }
step_fits es f (Commit session w job txn) may h = record { pairs = h.pairs; begun = kept _ (is_other session job txn) f.begun h.begun }
step_fits es f (Rollback session w job txn) may h = record { pairs = all_undone_fits f.pairs _ (undo_in_fits session job txn f.begun h.begun) h.pairs; begun = kept _ (is_other session job txn) f.begun h.begun }

-- what an ordered list makes is within the limits
pub ordered_fits : (es : List Entry) → IsOrdered es → MapFits (fold es).pairs
ordered_fits es o =
    (ordered_induction (λ l. FoldFits (fold l)) (record { pairs = tt; begun = tt }) (λ l e q h may. subst FoldFits (sym (fold-push l e)) (step_fits l (fold l) e may h)) es o).pairs
