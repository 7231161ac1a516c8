-- The map of pairs rises by its keys whatever the entries do.
use Rattle.std.proofs.Common.{◌≡◌, ℕ, List, [], ◌∷◌, refl, ap, ◌∙◌, Bool, true, false, cond, if◌then◌else◌, Option, Some, None, nat_eq}
use Rattle.std.specs.declared.cmp.Ordering.{Ordering}
use Rattle.std.specs.declared.cmp.Ordering.TheVariants.{Less, Equal, Greater}
use Rattle.std.specs.Ordering.{match_ordering, ordering_reverse}
use Rattle.std.specs.List.{filter}
use Rattle.std.specs.Map.{remove_entry}
use Rattle.std.proofs.lemmas.Cmp.{nat_list_cmp_total}
use Rattle.plain_orders.specs.declared.op.Op.{Op}
use Rattle.plain_orders.specs.declared.op.Op.TheVariants.{Set, Kill, Add}
use Rattle.plain_orders.specs.declared.entry.Entry.{Entry}
use Rattle.plain_orders.specs.declared.entry.Entry.TheVariants.{Epoch, Opened, Closed, Update, Commit, Rollback}
use Rattle.plain_orders.specs.declared.sum.Sum.{Sum}
use Rattle.plain_orders.specs.declared.sum.Sum.TheVariants.{Nothing, Whole, NotWhole, Range}
use Rattle.plain_orders.specs.PairMap.{Map, key_cmp, put, is_outside, put_all, IsBeforeAll, IsRising}
use Rattle.plain_orders.specs.Fold.{Undo, OldValue, OldPairs, Transaction, Folded, with_sum, op_sum, op_after, value_back, undone, all_undone, undo_in, session_undone, fold_step, fold_from, nothing_folded, fold}

before_put : (q k v : List ℕ) (m : Map) → key_cmp q k ≡ Less → IsBeforeAll q m → IsBeforeAll q (put m k v)
before_put q k v [] h b = h
before_put q k v (p ∷ ps) h b = go (key_cmp k p.0)
  where
    go : (o : Ordering) → IsBeforeAll q (match_ordering o ((k, v) ∷ p ∷ ps) ((p.0, v) ∷ ps) (p ∷ put ps k v))
    go Less = h
    go Equal = b
    go Greater = b

-- a pair put in
pub put_rises : (k v : List ℕ) (m : Map) → IsRising m → IsRising (put m k v)
put_rises k v [] r = (tt, tt)
put_rises k v (p ∷ ps) r = go (key_cmp k p.0) refl (put_rises k v ps r.1)
  where
    go : (o : Ordering) → key_cmp k p.0 ≡ o → IsRising (put ps k v) → IsRising (match_ordering o ((k, v) ∷ p ∷ ps) ((p.0, v) ∷ ps) (p ∷ put ps k v))
    go Less e more = (e, r)
    go Equal e more = r
    go Greater e more = (before_put p.0 k v ps (nat_list_cmp_total.antisymm p.0 k ∙ ap ordering_reverse e) r.0, more)

pub before_behind : (q k : List ℕ) (m : Map) → key_cmp q k ≡ Less → IsBeforeAll k m → IsBeforeAll q m
before_behind q k [] h b = tt
before_behind q k (p ∷ ps) h b = nat_list_cmp_total.trans q k p.0 h b

before_filter : (f : List ℕ × List ℕ → Bool) (q : List ℕ) (m : Map) → IsRising m → IsBeforeAll q m → IsBeforeAll q (filter f m)
before_filter f q [] r b = tt
before_filter f q (p ∷ ps) r b = go (f p) (before_filter f q ps r.1 (before_behind q p.0 ps b r.0))
  where
    go : (t : Bool) → IsBeforeAll q (filter f ps) → IsBeforeAll q (cond t (p ∷ filter f ps) (filter f ps))
    go true more = b
    go false more = more

-- a part of the pairs
filter_rises : (f : List ℕ × List ℕ → Bool) (m : Map) → IsRising m → IsRising (filter f m)
filter_rises f [] r = tt
filter_rises f (p ∷ ps) r = go (f p) (filter_rises f ps r.1)
  where
    go : (t : Bool) → IsRising (filter f ps) → IsRising (cond t (p ∷ filter f ps) (filter f ps))
    go true more = (before_filter f p.0 ps r.1 r.0, more)
    go false more = more

before_remove : (f : List ℕ → Bool) (q : List ℕ) (m : Map) → IsRising m → IsBeforeAll q m → IsBeforeAll q (remove_entry f m)
before_remove f q [] r b = tt
before_remove f q (p ∷ ps) r b = go (f p.0)
  where
    go : (t : Bool) → IsBeforeAll q (cond t ps (p ∷ remove_entry f ps))
    go true = before_behind q p.0 ps b r.0
    go false = b

-- one pair less
remove_rises : (f : List ℕ → Bool) (m : Map) → IsRising m → IsRising (remove_entry f m)
remove_rises f [] r = tt
remove_rises f (p ∷ ps) r = go (f p.0) (remove_rises f ps r.1)
  where
    go : (t : Bool) → IsRising (remove_entry f ps) → IsRising (cond t ps (p ∷ remove_entry f ps))
    go true more = r.1
    go false more = (before_remove f p.0 ps r.1 r.0, more)

put_all_rises : (m ps : Map) → IsRising m → IsRising (put_all m ps)
put_all_rises m [] r = r
put_all_rises m (p ∷ ps) r = put_all_rises (put m p.0 p.1) ps (put_rises p.0 p.1 m r)

sum_rises : (key : List ℕ) (m : Map) (s : Sum) → IsRising m → IsRising (with_sum m key s)
sum_rises key m Nothing r = r
sum_rises key m (Whole n) r = put_rises key _ m r
sum_rises key m NotWhole r = r
sum_rises key m Range r = r

-- an operation
pub op_rises : (m : Map) (op : Op) → IsRising m → IsRising (op_after m op)
op_rises m (Set key value) r = put_rises key value m r
op_rises m (Kill key) r = filter_rises (is_outside key) m r
op_rises m (Add key amount) r = sum_rises key m (op_sum m (Add key amount)) r

back_rises : (m : Map) (key : List ℕ) (old : Option (List ℕ)) → IsRising m → IsRising (value_back m key old)
back_rises m key None r = remove_rises _ m r
back_rises m key (Some value) r = put_rises key value m r

pub undone_rises : (m : Map) (u : Undo) → IsRising m → IsRising (undone m u)
undone_rises m (OldValue key old) r = back_rises m key old r
undone_rises m (OldPairs key pairs) r = put_all_rises m pairs r

pub all_undone_rises : (m : Map) (us : List Undo) → IsRising m → IsRising (all_undone m us)
all_undone_rises m [] r = r
all_undone_rises m (u ∷ us) r = all_undone_rises (undone m u) us (undone_rises m u r)

session_rises : (session : ℕ) (ts : List Transaction) (m : Map) → IsRising m → IsRising (session_undone session ts m)
session_rises session [] m r = r
session_rises session (t ∷ ts) m r = session_rises session ts _ (go (nat_eq t.session session))
  where
    go : (b : Bool) → IsRising (if b then all_undone m t.undo else m)
    go true = all_undone_rises m t.undo r
    go false = r

-- an entry
pub step_rises : (f : Folded) (e : Entry) → IsRising f.pairs → IsRising (fold_step f e).pairs
step_rises f (Epoch number) r = r
step_rises f (Opened session app) r = r
step_rises f (Closed session) r = session_rises session f.begun f.pairs r
step_rises f (Update session w job txn op) r = op_rises f.pairs op r
step_rises f (Commit session w job txn) r = r
step_rises f (Rollback session w job txn) r = all_undone_rises f.pairs (undo_in session job txn f.begun) r

from_rises : (f : Folded) (es : List Entry) → IsRising f.pairs → IsRising (fold_from f es).pairs
from_rises f [] r = r
from_rises f (e ∷ es) r = from_rises (fold_step f e) es (step_rises f e r)

-- so the map of any list of entries rises
pub fold_rises : (es : List Entry) → IsRising (fold es).pairs
fold_rises es = from_rises nothing_folded es tt
