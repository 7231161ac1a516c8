-- The map that an ordered list makes has nodes' keys alone, and so has what is to be put back.
use Rattle.std.proofs.Common.{◌≡◌, refl, ℕ, List, [], ◌∷◌, sym, subst, Bool, true, false, cond, if◌then◌else◌, Option, Some, None, nat_eq}
use Rattle.std.specs.declared.cmp.Ordering.{Ordering}
use Rattle.std.specs.declared.cmp.Ordering.TheVariants.{Less, Equal, Greater}
use Rattle.std.specs.Ordering.{match_ordering}
use Rattle.std.specs.List.{AllByRecursion, filter}
use Rattle.std.specs.Map.{remove_entry}
use Rattle.subscript_keys.specs.Key.{IsKey}
use Rattle.plain_orders.specs.declared.op.Op.{Op}
use Rattle.plain_orders.specs.declared.op.Op.TheVariants.{Set, Kill, Add}
use Rattle.plain_orders.specs.declared.entry.Entry.{Entry}
use Rattle.plain_orders.specs.declared.entry.Entry.TheVariants.{Epoch, Opened, Closed, Update, Commit, Rollback}
use Rattle.plain_orders.specs.declared.sum.Sum.{Sum}
use Rattle.plain_orders.specs.declared.sum.Sum.TheVariants.{Nothing, Whole, NotWhole, Range}
use Rattle.plain_orders.specs.PairMap.{Map, key_cmp, put, is_outside, is_inside, put_all, pairs_under, value_at}
use Rattle.plain_orders.specs.Fold.{Undo, OldValue, OldPairs, Transaction, Folded, with_sum, op_sum, op_after, undo_of, value_back, undone, all_undone, is_it, is_begun, undo_added, noted, undo_in, is_other, is_elsewhere, session_undone, fold_step, fold}
use Rattle.plain_orders.specs.Ordered.{OpMay, MayFollow, IsOrdered}
use Rattle.plain_orders.proofs.FoldLemmas.{fold-push}
use Rattle.plain_orders.proofs.OrderLemmas.{ordered_induction}
use Rattle.plain_orders.specs.Keys.{HasKeys}

-- the pairs are at the node or below it
abbrev pub AreInside : List ℕ → Map → Type 0
AreInside key m = AllByRecursion (λ p. is_inside key p ≡ true) m

-- the pairs that a Kill removed are of nodes at or below its own
pub record HasOldPairs (key : List ℕ) (pairs : Map) : Type 0 where
  pub is_key : IsKey key
  pub keys : HasKeys pairs
  pub inside : AreInside key pairs

-- what is to be put back is at nodes' keys
abbrev pub UndoHasKeys : Undo → Type 0
UndoHasKeys (OldValue key old) = IsKey key
UndoHasKeys (OldPairs key pairs) = HasOldPairs key pairs

abbrev pub UndosHaveKeys : List Undo → Type 0
UndosHaveKeys us = AllByRecursion UndoHasKeys us

abbrev pub BegunHasKeys : List Transaction → Type 0
BegunHasKeys ts = AllByRecursion (λ t. UndosHaveKeys t.undo) ts

pub record FoldedHasKeys (f : Folded) : Type 0 where
  pub pairs : HasKeys f.pairs
  pub begun : BegunHasKeys f.begun

kept : {X : Type 0} (P : X → Type 0) (f : X → Bool) (xs : List X) → AllByRecursion P xs → AllByRecursion P (filter f xs)
kept P f [] h = tt
kept P f (x ∷ xs) h = go (f x) (kept P f xs h.1)
  where
    go : (t : Bool) → AllByRecursion P (filter f xs) → AllByRecursion P (cond t (x ∷ filter f xs) (filter f xs))
    go true more = (h.0, more)
    go false more = more

inside_kept : (key : List ℕ) (m : Map) → AreInside key (pairs_under m key)
inside_kept key [] = tt
inside_kept key (p ∷ ps) = go (is_inside key p) refl (inside_kept key ps)
  where
    go : (t : Bool) → is_inside key p ≡ t → AreInside key (pairs_under ps key) → AreInside key (cond t (p ∷ pairs_under ps key) (pairs_under ps key))
    go true e more = (e, more)
    go false e more = more

-- a pair put at a node's key
pub put_keys : (k v : List ℕ) (m : Map) → IsKey k → HasKeys m → HasKeys (put m k v)
put_keys k v [] key h = (key, tt)
put_keys k v (p ∷ ps) key h = go (key_cmp k p.0) (put_keys k v ps key h.1)
  where
    go : (o : Ordering) → HasKeys (put ps k v) → HasKeys (match_ordering o ((k, v) ∷ p ∷ ps) ((p.0, v) ∷ ps) (p ∷ put ps k v))
    go Less more = (key, h)
    go Equal more = h
    go Greater more = (h.0, more)

remove_keys : (f : List ℕ → Bool) (m : Map) → HasKeys m → HasKeys (remove_entry f m)
remove_keys f [] h = tt
remove_keys f (p ∷ ps) h = go (f p.0) (remove_keys f ps h.1)
  where
    go : (t : Bool) → HasKeys (remove_entry f ps) → HasKeys (cond t ps (p ∷ remove_entry f ps))
    go true more = h.1
    go false more = (h.0, more)

put_all_keys : (m ps : Map) → HasKeys ps → HasKeys m → HasKeys (put_all m ps)
put_all_keys m [] q h = h
put_all_keys m (p ∷ ps) q h = put_all_keys (put m p.0 p.1) ps q.1 (put_keys p.0 p.1 m q.0 h)

sum_keys : (key : List ℕ) (m : Map) (s : Sum) → IsKey key → HasKeys m → HasKeys (with_sum m key s)
sum_keys key m Nothing k h = h
sum_keys key m (Whole n) k h = put_keys key _ m k h
sum_keys key m NotWhole k h = h
sum_keys key m Range k h = h

-- an operation within the limits
op_keys : (m : Map) (txn : ℕ) (op : Op) → OpMay txn op → HasKeys m → HasKeys (op_after m op)
op_keys m txn (Set key value) may h = put_keys key value m may.key_may.is_key h
op_keys m txn (Kill key) may h = kept _ (is_outside key) m h
op_keys m txn (Add key amount) may h = sum_keys key m (op_sum m (Add key amount)) may.key_may.is_key h

back_keys : (m : Map) (key : List ℕ) (old : Option (List ℕ)) → IsKey key → HasKeys m → HasKeys (value_back m key old)
back_keys m key None k h = remove_keys _ m h
back_keys m key (Some value) k h = put_keys key value m k h

undone_keys : (m : Map) (u : Undo) → UndoHasKeys u → HasKeys m → HasKeys (undone m u)
undone_keys m (OldValue key old) k h = back_keys m key old k h
undone_keys m (OldPairs key pairs) k h = put_all_keys m pairs k.keys h

all_undone_keys : (m : Map) (us : List Undo) → UndosHaveKeys us → HasKeys m → HasKeys (all_undone m us)
all_undone_keys m [] k h = h
all_undone_keys m (u ∷ us) k h = all_undone_keys (undone m u) us k.1 (undone_keys m u k.0 h)

session_keys : (session : ℕ) (ts : List Transaction) (m : Map) → BegunHasKeys ts → HasKeys m → HasKeys (session_undone session ts m)
session_keys session [] m b h = h
session_keys session (t ∷ ts) m b h = session_keys session ts _ b.1 (go (nat_eq t.session session))
  where
    go : (d : Bool) → HasKeys (if d then all_undone m t.undo else m)
    go true = all_undone_keys m t.undo b.0 h
    go false = h

-- of the transaction that is meant
pub undo_in_keys : (s j t : ℕ) (ts : List Transaction) → BegunHasKeys ts → UndosHaveKeys (undo_in s j t ts)
undo_in_keys s j t [] b = tt
undo_in_keys s j t (x ∷ ts) b = go (is_it s j t x) (undo_in_keys s j t ts b.1)
  where
    go : (d : Bool) → UndosHaveKeys (undo_in s j t ts) → UndosHaveKeys (if d then x.undo else undo_in s j t ts)
    go true more = b.0
    go false more = more

added_keys : (s j t : ℕ) (u : Undo) (ts : List Transaction) → UndoHasKeys u → BegunHasKeys ts → BegunHasKeys (undo_added s j t u ts)
added_keys s j t u [] k b = tt
added_keys s j t u (x ∷ ts) k b = go (is_it s j t x) (added_keys s j t u ts k b.1)
  where
    go : (d : Bool) → BegunHasKeys (undo_added s j t u ts) → BegunHasKeys (if d then record x { undo = u ∷ x.undo } ∷ ts else x ∷ undo_added s j t u ts)
    go true more = ((k, b.0), b.1)
    go false more = (b.0, more)

noted_keys : (s j t : ℕ) (u : Undo) (ts : List Transaction) → UndoHasKeys u → BegunHasKeys ts → BegunHasKeys (noted s j t (Some u) ts)
noted_keys s j t u ts k b = go (nat_eq t 0) (is_begun s j t ts)
  where
    go : (z d : Bool) → BegunHasKeys (if z then ts else (if d then undo_added s j t u ts else record { session = s; job = j; txn = t; undo = u ∷ [] } ∷ ts))
    go true d = b
    go false true = added_keys s j t u ts k b
    go false false = ((k, tt), b)

-- what an operation within the limits leaves to be put back
note_keys : (s j t : ℕ) (op : Op) (m : Map) (ts : List Transaction) → OpMay t op → HasKeys m → BegunHasKeys ts → BegunHasKeys (noted s j t (undo_of m op) ts)
note_keys s j t (Set key value) m ts may h b = noted_keys s j t (OldValue key (value_at m key)) ts may.key_may.is_key b
note_keys s j t (Kill key) m ts may h b = noted_keys s j t (OldPairs key (pairs_under m key)) ts (record { is_key = may.is_key; keys = kept _ (is_inside key) m h; inside = inside_kept key m }) b
note_keys s j t (Add key amount) m ts may h b = b

-- an entry that may follow
step_keys : (es : List Entry) (f : Folded) (e : Entry) → MayFollow es e → FoldedHasKeys f → FoldedHasKeys (fold_step f e)
step_keys es f (Epoch number) may h = h
step_keys es f (Opened session app) may h = h
step_keys es f (Closed session) may h = record { pairs = session_keys session f.begun f.pairs h.begun h.pairs; begun = kept _ (is_elsewhere session) f.begun h.begun }
step_keys es f (Update session w job txn op) may h = record { pairs = op_keys f.pairs txn op may.within h.pairs; begun = note_keys session job txn op f.pairs f.begun may.within h.pairs h.begun }
step_keys es f (Commit session w job txn) may h = record { pairs = h.pairs; begun = kept _ (is_other session job txn) f.begun h.begun }
step_keys es f (Rollback session w job txn) may h = record { pairs = all_undone_keys f.pairs _ (undo_in_keys session job txn f.begun h.begun) h.pairs; begun = kept _ (is_other session job txn) f.begun h.begun }

-- so what an ordered list makes has nodes' keys alone
pub folded_keys : (es : List Entry) → IsOrdered es → FoldedHasKeys (fold es)
folded_keys es o = ordered_induction (λ l. FoldedHasKeys (fold l)) (record { pairs = tt; begun = tt }) (λ l e q h may. subst FoldedHasKeys (sym (fold-push l e)) (step_keys l (fold l) e may h)) es o

-- and so has its map
pub ordered_keys : (es : List Entry) → IsOrdered es → HasKeys (fold es).pairs
ordered_keys es o = (folded_keys es o).pairs
