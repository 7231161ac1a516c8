-- What entries make of the value of one node.
use Rattle.std.proofs.Common.{◌≡◌, ℕ, Bool, true, false, not, cond, List, [], ◌∷◌, Option, Some, None, refl, sym, ◌∙◌, ap, subst, if◌then◌else◌, nat_eq, ◌&&◌, ◌==◌}
use Rattle.std.specs.Ordering.{is_eq}
use Rattle.std.specs.List.{AllByRecursion, list_any}
use Rattle.std.specs.BTreeMap.{is_at}
use Rattle.std.specs.Cmp.Lexicographic.{pointwise, bytes_decides}
use Rattle.std.proofs.lemmas.Bool.{or_parts}
use Rattle.std.proofs.lemmas.Option.{same_Some}
use Rattle.plain_orders.specs.declared.op.Op.{Op}
use Rattle.plain_orders.specs.declared.op.Op.TheVariants.{Set, Kill, Add}
use Rattle.plain_orders.specs.declared.sum.Sum.{Sum}
use Rattle.plain_orders.specs.declared.sum.Sum.TheVariants.{Nothing, Whole, NotWhole, Range}
use Rattle.plain_orders.specs.declared.entry.Entry.{Entry}
use Rattle.plain_orders.specs.declared.entry.Entry.TheVariants.{Epoch, Opened, Closed, Update, Commit, Rollback}
use Rattle.plain_orders.specs.Numbers.{integer_text}
use Rattle.plain_orders.specs.Own.{op_touches}
use Rattle.plain_orders.specs.PairMap.{Map, key_cmp, put, put_all, pairs_under, is_under, is_inside, value_at, IsBeforeAll, IsRising}
use Rattle.plain_orders.specs.Fold.{Undo, OldValue, OldPairs, Transaction, Folded, fold_step, op_after, op_sum, with_sum, undo_of, undone, all_undone, undo_in, session_undone}
use Rattle.plain_orders.proofs.OrderKeys.{AreInside, UndoHasKeys, UndosHaveKeys, BegunHasKeys, FoldedHasKeys, undo_in_keys}
use Rattle.plain_orders.proofs.RisingLemmas.{before_behind, undone_rises, all_undone_rises}
use Rattle.plain_orders.proofs.UndoValues.{removed_value}
use Rattle.plain_orders.proofs.Values.{its_key, put_value, killed_value}
use Rattle.plain_runs.proofs.Lists.{both_ways}
use Rattle.trail_laws.specs.Touches.{undo_touches, has_touched, has_touched_in, entry_touches}

module _ (q : List ℕ) where
  abbrev test : List ℕ → Bool
  test = is_at (key_cmp q)

  -- another key
  pub apart : (k : List ℕ) → pointwise nat_eq k q ≡ false → test k ≡ false
  apart k e = go (test k) refl
    where
      go : (b : Bool) → test k ≡ b → b ≡ false
      go true y = absurd (both_ways (pointwise nat_eq k q) ((bytes_decides k q).1 (sym (its_key q k y))) e)
      go false y = refl

  -- after pairs were put, one after the other
  abbrev pub last_of : Map → Option (List ℕ) → Option (List ℕ)
  last_of [] x = x
  last_of (p ∷ ps) x = last_of ps (cond (test p.0) (Some p.1) x)

  put_all_value : (m ps : Map) → value_at (put_all m ps) q ≡ last_of ps (value_at m q)
  put_all_value m [] = refl
  put_all_value m (p ∷ ps) = put_all_value (put m p.0 p.1) ps ∙ ap (last_of ps) (put_value q m p.0 p.1)

  -- after an item was put back
  abbrev pub pick : Undo → Option (List ℕ) → Option (List ℕ)
  pick (OldValue k old) x = cond (test k) old x
  pick (OldPairs k pairs) x = last_of pairs x

  undone_value : (m : Map) (u : Undo) → IsRising m → value_at (undone m u) q ≡ pick u (value_at m q)
  undone_value m (OldValue k None) r = removed_value q m k r
  undone_value m (OldValue k (Some v)) r = put_value q m k v
  undone_value m (OldPairs k pairs) r = put_all_value m pairs

  -- after several
  abbrev pub undo_at : List Undo → Option (List ℕ) → Option (List ℕ)
  undo_at [] x = x
  undo_at (u ∷ us) x = undo_at us (pick u x)

  pub all_undone_value : (m : Map) (us : List Undo) → IsRising m → value_at (all_undone m us) q ≡ undo_at us (value_at m q)
  all_undone_value m [] r = refl
  all_undone_value m (u ∷ us) r = all_undone_value (undone m u) us (undone_rises m u r) ∙ ap (undo_at us) (undone_value m u r)

  -- an item that leaves the node
  abbrev pub Still : Undo → Type 0
  Still u = (x : Option (List ℕ)) → pick u x ≡ x

  abbrev pub AllStill : List Undo → Type 0
  AllStill us = AllByRecursion Still us

  pub still_undo : (us : List Undo) (x : Option (List ℕ)) → AllStill us → undo_at us x ≡ x
  still_undo [] x h = refl
  still_undo (u ∷ us) x h = ap (undo_at us) (h.0 x) ∙ still_undo us x h.1

  -- pairs below another node
  last_outside : (k : List ℕ) (ps : Map) (x : Option (List ℕ)) → is_under k q ≡ false → AreInside k ps → last_of ps x ≡ x
  last_outside k [] x e a = refl
  last_outside k (p ∷ ps) x e a = ap (λ (b : Bool). last_of ps (cond b (Some p.1) x)) (off (test p.0) refl) ∙ last_outside k ps x e a.1
    where
      off : (b : Bool) → test p.0 ≡ b → test p.0 ≡ false
      off true y = absurd (both_ways (is_under k q) (ap (is_under k) (its_key q p.0 y) ∙ a.0) e)
      off false y = y

  pub still_from : (u : Undo) → undo_touches q u ≡ false → UndoHasKeys u → Still u
  still_from (OldValue k old) e h x = ap (λ (b : Bool). cond b old x) (apart k e)
  still_from (OldPairs k pairs) e h x = last_outside k pairs x e h.inside

  pub still_all : (us : List Undo) → list_any (undo_touches q) us ≡ false → UndosHaveKeys us → AllStill us
  still_all [] e h = tt
  still_all (u ∷ us) e h =
      let x = or_parts (undo_touches q u) (list_any (undo_touches q) us) e in
      (still_from u x.0 h.0, still_all us x.1 h.1)

  -- an operation that leaves the node
  pub op_still : (m : Map) (op : Op) → op_touches q op ≡ false → value_at (op_after m op) q ≡ value_at m q
  op_still m (Set k v) e = put_value q m k v ∙ ap (λ (b : Bool). cond b (Some v) (value_at m q)) (apart k e)
  op_still m (Kill k) e = killed_value q m k ∙ ap (λ (b : Bool). cond (not b) (value_at m q) None) e
  op_still m (Add k amount) e = go (op_sum m (Add k amount))
    where
      go : (x : Sum) → value_at (with_sum m k x) q ≡ value_at m q
      go Nothing = refl
      go (Whole n) = put_value q m k (integer_text n) ∙ ap (λ (b : Bool). cond b (Some (integer_text n)) (value_at m q)) (apart k e)
      go NotWhole = refl
      go Range = refl

  session_still : (s : ℕ) (ts : List Transaction) (m : Map) → list_any (has_touched_in s q) ts ≡ false → BegunHasKeys ts → IsRising m → value_at (session_undone s ts m) q ≡ value_at m q
  session_still s [] m e h r = refl
  session_still s (t ∷ ts) m e h r =
      let x = or_parts (has_touched_in s q t) (list_any (has_touched_in s q) ts) e in
      go (t.session == s) x.0 (λ n. session_still s ts n x.1 h.1)
    where
      go : (b : Bool) → (b && has_touched q t) ≡ false → ((n : Map) → IsRising n → value_at (session_undone s ts n) q ≡ value_at n q) → value_at (session_undone s ts (if b then all_undone m t.undo else m)) q ≡ value_at m q
      go true y more = more (all_undone m t.undo) (all_undone_rises m t.undo r) ∙ all_undone_value m t.undo r ∙ still_undo t.undo (value_at m q) (still_all t.undo y h.0)
      go false y more = more m r

  -- an entry that doesn't touch the node leaves its value
  pub entry_still : (f : Folded) (e : Entry) → entry_touches q f e ≡ false → FoldedHasKeys f → IsRising f.pairs → value_at (fold_step f e).pairs q ≡ value_at f.pairs q
  entry_still f (Epoch number) e h r = refl
  entry_still f (Opened session app) e h r = refl
  entry_still f (Closed session) e h r = session_still session f.begun f.pairs e h.begun r
  entry_still f (Update session w job txn op) e h r = op_still f.pairs op e
  entry_still f (Commit session w job txn) e h r = refl
  entry_still f (Rollback session w job txn) e h r =
      all_undone_value f.pairs (undo_in session job txn f.begun) r
      ∙ still_undo (undo_in session job txn f.begun) (value_at f.pairs q) (still_all (undo_in session job txn f.begun) e (undo_in_keys session job txn f.begun h.begun))

  -- pairs behind a key
  last_behind : (k : List ℕ) (ps : Map) (x : Option (List ℕ)) → IsRising ps → IsBeforeAll q ps → last_of (pairs_under ps k) x ≡ x
  last_behind k [] x r b = refl
  last_behind k (p ∷ ps) x r b = go (is_inside k p) (last_behind k ps)
    where
      rest : IsBeforeAll q ps
      rest = before_behind q p.0 ps b r.0

      go : (c : Bool) → ((y : Option (List ℕ)) → IsRising ps → IsBeforeAll q ps → last_of (pairs_under ps k) y ≡ y) → last_of (cond c (p ∷ pairs_under ps k) (pairs_under ps k)) x ≡ x
      go true more = ap (λ o. last_of (pairs_under ps k) (cond (is_eq o) (Some p.1) x)) b ∙ more x r.1 rest
      go false more = more x r.1 rest

  last_inside : (k : List ℕ) (m : Map) → IsRising m → is_under k q ≡ true → last_of (pairs_under m k) None ≡ value_at m q
  last_inside k [] r u = refl
  last_inside k (p ∷ ps) r u = go (test p.0) refl (is_inside k p) refl (last_inside k ps r.1 u)
    where
      go : (a : Bool) → test p.0 ≡ a → (b : Bool) → is_inside k p ≡ b → last_of (pairs_under ps k) None ≡ value_at ps q → last_of (cond b (p ∷ pairs_under ps k) (pairs_under ps k)) None ≡ cond a (Some p.1) (value_at ps q)
      go true x true y more =
          ap (λ (c : Bool). last_of (pairs_under ps k) (cond c (Some p.1) None)) x
          ∙ last_behind k ps (Some p.1) r.1 (subst (λ z. IsBeforeAll z ps) (sym (its_key q p.0 x)) r.0)
      go true x false y more = absurd (both_ways (is_inside k p) (ap (is_under k) (sym (its_key q p.0 x)) ∙ u) y)
      go false x true y more = ap (λ (c : Bool). last_of (pairs_under ps k) (cond c (Some p.1) None)) x ∙ more
      go false x false y more = more

  inside_kept : (k : List ℕ) (m : Map) → AreInside k (pairs_under m k)
  inside_kept k [] = tt
  inside_kept k (p ∷ ps) = go (is_inside k p) refl (inside_kept k ps)
    where
      go : (t : Bool) → is_inside k p ≡ t → AreInside k (pairs_under ps k) → AreInside k (cond t (p ∷ pairs_under ps k) (pairs_under ps k))
      go true e more = (e, more)
      go false e more = more

  -- an item put back where no other change came between
  pub op_back : (m : Map) (op : Op) (u : Undo) → undo_of m op ≡ Some u → IsRising m → pick u (value_at (op_after m op) q) ≡ value_at m q
  op_back m (Set k v) u e r = subst (λ (x : Undo). pick x (value_at (put m k v) q) ≡ value_at m q) (same_Some (OldValue k (value_at m k)) u e) (ap (cond (test k) (value_at m k)) (put_value q m k v) ∙ go (test k) refl)
    where
      go : (b : Bool) → test k ≡ b → cond b (value_at m k) (cond b (Some v) (value_at m q)) ≡ value_at m q
      go true x = ap (value_at m) (sym (its_key q k x))
      go false x = refl
  op_back m (Kill k) u e r = subst (λ (x : Undo). pick x (value_at (op_after m (Kill k)) q) ≡ value_at m q) (same_Some (OldPairs k (pairs_under m k)) u e) (ap (last_of (pairs_under m k)) (killed_value q m k) ∙ go (is_under k q) refl)
    where
      go : (b : Bool) → is_under k q ≡ b → last_of (pairs_under m k) (cond (not b) (value_at m q) None) ≡ value_at m q
      go true x = last_inside k m r x
      go false x = last_outside k (pairs_under m k) (value_at m q) x (inside_kept k m)
  op_back m (Add k amount) u e r = absurd (cc (e))

  -- an operation that leaves the node leaves an item that does
  pub op_item_still : (m : Map) (op : Op) (u : Undo) → undo_of m op ≡ Some u → op_touches q op ≡ false → Still u
  op_item_still m (Set k v) u e t x = subst (λ (y : Undo). pick y x ≡ x) (same_Some (OldValue k (value_at m k)) u e) (ap (λ (b : Bool). cond b (value_at m k) x) (apart k t))
  op_item_still m (Kill k) u e t x = subst (λ (y : Undo). pick y x ≡ x) (same_Some (OldPairs k (pairs_under m k)) u e) (last_outside k (pairs_under m k) x t (inside_kept k m))
  op_item_still m (Add k amount) u e t x = absurd (cc (e))
