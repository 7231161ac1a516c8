-- What an entry of an ordered list changes is in its spans: the pairs of a span apart from them stay.
use Rattle.std.proofs.Common.{◌≡◌, ℕ, Bool, true, false, not, cond, List, [], ◌∷◌, ◌++◌, Option, Some, None, refl, sym, ◌∙◌, ap, map, if◌then◌else◌, nat_eq}
use Rattle.std.specs.Ordering.{is_lt, is_gt, match_ordering}
use Rattle.std.specs.declared.cmp.Ordering.{Ordering}
use Rattle.std.specs.declared.cmp.Ordering.TheVariants.{Less, Equal, Greater}
use Rattle.std.specs.List.{AllByRecursion}
use Rattle.std.proofs.lemmas.Bool.{and_parts, and_from}
use Rattle.std.proofs.lemmas.Map.Lookups.{exact_bytes}
use Rattle.subscript_keys.specs.declared.span.Span.{Span}
use Rattle.subscript_keys.specs.Key.{IsKey}
use Rattle.subscript_keys.specs.Span.{IsIn, Meet}
use Rattle.subscript_keys.proofs.Ties.{itself}
use Rattle.subscript_keys.proofs.Orders.{nat_cmp-eq}
use Rattle.plain_orders.specs.declared.op.Op.{Op}
use Rattle.plain_orders.specs.declared.op.Op.TheVariants.{Set, Kill, Add}
use Rattle.plain_orders.specs.declared.sum.Sum.{Sum}
use Rattle.plain_orders.specs.declared.sum.Sum.TheVariants.{Nothing, Whole, NotWhole, Range}
use Rattle.plain_orders.specs.declared.entry.Entry.{Entry}
use Rattle.plain_orders.specs.declared.entry.Entry.TheVariants.{Epoch, Opened, Closed, Update, Commit, Rollback}
use Rattle.plain_orders.specs.Numbers.{integer_text}
use Rattle.plain_orders.specs.Ordered.{OpMay, MayFollow, IsOrdered}
use Rattle.plain_orders.specs.PairMap.{Map, key_cmp, put, remove, is_under, is_in, within, remove_under, put_all}
use Rattle.plain_orders.specs.Fold.{Undo, OldValue, OldPairs, Transaction, Folded, fold, fold_step, op_after, op_sum, with_sum, value_back, undone, all_undone, undo_in, session_undone}
use Rattle.plain_orders.specs.Spans.{node_span, killed_span, op_span, undo_span, session_spans, entry_spans}
use Rattle.plain_orders.specs.Keys.{HasKeys}
use Rattle.plain_orders.proofs.FoldLemmas.{fold-push}
use Rattle.plain_orders.proofs.NodeKeys.{under_in}
use Rattle.plain_orders.proofs.OrderKeys.{AreInside, UndoHasKeys, UndosHaveKeys, BegunHasKeys, FoldedHasKeys, undo_in_keys, folded_keys}

-- no byte string is in both spans
abbrev pub Apart : Span → Span → Type 0
Apart s t = Meet s.lo s.hi t.lo t.hi → ⊥

-- the span is apart from each of these
abbrev pub ApartAll : Span → List Span → Type 0
ApartAll s ts = AllByRecursion (Apart s) ts

less_from : (r : Ordering) → is_lt r ≡ true → r ≡ Less
less_from Less e = refl
less_from Equal e = absurd (cc)
less_from Greater e = absurd (cc)

not_greater : (r : Ordering) → not (is_gt r) ≡ true → r ≡ Greater → ⊥
not_greater Less h e = cc
not_greater Equal h e = cc
not_greater Greater h e = cc

no_greater : (r : Ordering) → (r ≡ Greater → ⊥) → not (is_gt r) ≡ true
no_greater Less f = refl
no_greater Equal f = refl
no_greater Greater f = absurd (f refl)

-- a pair that passes the test of a span has its key in it
pub is_in_span : (s : Span) (p : List ℕ × List ℕ) → is_in s p ≡ true → IsIn s.lo s.hi p.0
is_in_span s p h =
    let t = and_parts (not (is_gt (key_cmp s.lo p.0))) (is_lt (key_cmp p.0 s.hi)) h in
    record { from = not_greater (key_cmp s.lo p.0) t.0; to = less_from (key_cmp p.0 s.hi) t.1 }

-- and passes it then alone
pub in_span : (s : Span) (p : List ℕ × List ℕ) → IsIn s.lo s.hi p.0 → is_in s p ≡ true
in_span s p h = and_from (not (is_gt (key_cmp s.lo p.0))) (is_lt (key_cmp p.0 s.hi)) (no_greater (key_cmp s.lo p.0) h.from) (ap is_lt h.to)

no_true : (b : Bool) → (b ≡ true → ⊥) → b ≡ false
no_true true f = absurd (f refl)
no_true false f = refl

-- a key of a span that is apart is outside
pub outside : (s t : Span) (p : List ℕ × List ℕ) → Apart s t → IsIn t.lo t.hi p.0 → is_in s p ≡ false
outside s t p apart inside = no_true (is_in s p) (λ here. apart (p.0, is_in_span s p here, inside))

key_more : (k : List ℕ) → key_cmp k (k ++ 0 ∷ []) ≡ Less
key_more [] = refl
key_more (a ∷ k) = rw (nat_cmp-eq a a refl) (key_more k)

-- a node's key is in its own span
pub alone_in : (key : List ℕ) → IsIn (node_span key).lo (node_span key).hi key
alone_in key = record { from = λ g. differ (sym (itself key) ∙ g); to = key_more key }
  where
    differ : Equal ≡ Greater → ⊥
    differ e = cc

module _ (s : Span) where
  -- a pair put elsewhere
  within_put : (k w : List ℕ) (m : Map) → ((u : List ℕ) → is_in s (k, u) ≡ false) → within (put m k w) s ≡ within m s
  within_put k w [] out = ap (λ b. cond b ((k, w) ∷ []) []) (out w)
  within_put k w (p ∷ ps) out = go (within_put k w ps out) (key_cmp k p.0) refl
    where
      go : within (put ps k w) s ≡ within ps s → (r : Ordering) → key_cmp k p.0 ≡ r → within (match_ordering r ((k, w) ∷ p ∷ ps) ((p.0, w) ∷ ps) (p ∷ put ps k w)) s ≡ within (p ∷ ps) s
      go more Less e = ap (λ b. cond b ((k, w) ∷ within (p ∷ ps) s) (within (p ∷ ps) s)) (out w)
      go more Equal e =
          let same : k ≡ p.0 = exact_bytes k p.0 e in
          ap (λ b. cond b ((p.0, w) ∷ within ps s) (within ps s)) (ap (λ q. is_in s (q, w)) (sym same) ∙ out w)
          ∙ sym (ap (λ b. cond b (p ∷ within ps s) (within ps s)) (ap (λ q. is_in s (q, p.1)) (sym same) ∙ out p.1))
      go more Greater e = ap (λ ms. cond (is_in s p) (p ∷ ms) ms) more

  -- a pair removed elsewhere
  within_removed : (k : List ℕ) (m : Map) → ((u : List ℕ) → is_in s (k, u) ≡ false) → within (remove m k) s ≡ within m s
  within_removed k [] out = refl
  within_removed k (p ∷ ps) out = go (within_removed k ps out) (key_cmp k p.0) refl
    where
      go : within (remove ps k) s ≡ within ps s → (r : Ordering) → key_cmp k p.0 ≡ r → within (remove (p ∷ ps) k) s ≡ within (p ∷ ps) s
      go more Less e = rw e (ap (λ ms. cond (is_in s p) (p ∷ ms) ms) more)
      go more Equal e =
          let same : k ≡ p.0 = exact_bytes k p.0 e in
          rw e (sym (ap (λ b. cond b (p ∷ within ps s) (within ps s)) (ap (λ q. is_in s (q, p.1)) (sym same) ∙ out p.1)))
      go more Greater e = rw e (ap (λ ms. cond (is_in s p) (p ∷ ms) ms) more)

  -- the pairs at nodes that are elsewhere, removed
  within_killed : (node : List ℕ) (m : Map) → AllByRecursion (λ p. is_under node p.0 ≡ true → is_in s p ≡ false) m → within (remove_under m node) s ≡ within m s
  within_killed node [] a = refl
  within_killed node (p ∷ ps) a = go (within_killed node ps a.1) (is_under node p.0) a.0
    where
      go : within (remove_under ps node) s ≡ within ps s → (b : Bool) → (b ≡ true → is_in s p ≡ false) → within (cond (not b) (p ∷ remove_under ps node) (remove_under ps node)) s ≡ within (p ∷ ps) s
      go more true out = more ∙ sym (ap (λ b. cond b (p ∷ within ps s) (within ps s)) (out refl))
      go more false out = ap (λ ms. cond (is_in s p) (p ∷ ms) ms) more

  all_outside : (node : List ℕ) (m : Map) → IsKey node → Apart s (killed_span node) → HasKeys m → AllByRecursion (λ p. is_under node p.0 ≡ true → is_in s p ≡ false) m
  all_outside node [] k apart h = tt
  all_outside node (p ∷ ps) k apart h = (λ under. outside s (killed_span node) p apart (under_in node p.0 k h.0 under), all_outside node ps k apart h.1)

  at_node : (key : List ℕ) → Apart s (node_span key) → (u : List ℕ) → is_in s (key, u) ≡ false
  at_node key apart u = outside s (node_span key) (key, u) apart (alone_in key)

  sum_within : (key : List ℕ) (m : Map) (x : Sum) → ((u : List ℕ) → is_in s (key, u) ≡ false) → within (with_sum m key x) s ≡ within m s
  sum_within key m Nothing out = refl
  sum_within key m (Whole n) out = within_put key (integer_text n) m out
  sum_within key m NotWhole out = refl
  sum_within key m Range out = refl

  -- an operation within the limits
  pub op_within : (txn : ℕ) (op : Op) (m : Map) → OpMay txn op → HasKeys m → Apart s (op_span op) → within (op_after m op) s ≡ within m s
  op_within txn (Set key value) m may h apart = within_put key value m (at_node key apart)
  op_within txn (Kill key) m may h apart = within_killed key m (all_outside key m may.is_key apart h)
  op_within txn (Add key amount) m may h apart = sum_within key m (op_sum m (Add key amount)) (at_node key apart)

  back_within : (key : List ℕ) (old : Option (List ℕ)) (m : Map) → Apart s (node_span key) → within (value_back m key old) s ≡ within m s
  back_within key None m apart = within_removed key m (at_node key apart)
  back_within key (Some value) m apart = within_put key value m (at_node key apart)

  put_all_within : (key : List ℕ) (m ps : Map) → IsKey key → HasKeys ps → AreInside key ps → Apart s (killed_span key) → within (put_all m ps) s ≡ within m s
  put_all_within key m [] k h a apart = refl
  put_all_within key m (p ∷ ps) k h a apart =
      put_all_within key (put m p.0 p.1) ps k h.1 a.1 apart
      ∙ within_put p.0 p.1 m (λ u. outside s (killed_span key) (p.0, u) apart (under_in key p.0 k h.0 a.0))

  -- an item put back
  pub undo_within : (u : Undo) (m : Map) → UndoHasKeys u → Apart s (undo_span u) → within (undone m u) s ≡ within m s
  undo_within (OldValue key old) m k apart = back_within key old m apart
  undo_within (OldPairs key pairs) m k apart = put_all_within key m pairs k.is_key k.keys k.inside apart

  all_within : (us : List Undo) (m : Map) → UndosHaveKeys us → ApartAll s (map undo_span us) → within (all_undone m us) s ≡ within m s
  all_within [] m k apart = refl
  all_within (u ∷ us) m k apart = all_within us (undone m u) k.1 apart.1 ∙ undo_within u m k.0 apart.0

  left_of : (xs ys : List Span) → ApartAll s (xs ++ ys) → ApartAll s xs
  left_of [] ys a = tt
  left_of (x ∷ xs) ys a = (a.0, left_of xs ys a.1)

  right_of : (xs ys : List Span) → ApartAll s (xs ++ ys) → ApartAll s ys
  right_of [] ys a = a
  right_of (x ∷ xs) ys a = right_of xs ys a.1

  -- the transactions of a session rolled back
  session_within : (session : ℕ) (ts : List Transaction) (m : Map) → BegunHasKeys ts → ApartAll s (session_spans session ts) → within (session_undone session ts m) s ≡ within m s
  session_within session [] m b apart = refl
  session_within session (t ∷ ts) m b apart = go (nat_eq t.session session) apart (λ n a. session_within session ts n b.1 a)
    where
      go : (c : Bool) → ApartAll s (if c then map undo_span t.undo ++ session_spans session ts else session_spans session ts) → ((n : Map) → ApartAll s (session_spans session ts) → within (session_undone session ts n) s ≡ within n s) → within (session_undone session ts (if c then all_undone m t.undo else m)) s ≡ within m s
      go true a more =
          more (all_undone m t.undo) (right_of (map undo_span t.undo) (session_spans session ts) a)
          ∙ all_within t.undo m b.0 (left_of (map undo_span t.undo) (session_spans session ts) a)
      go false a more = more m a

  -- an entry that may follow
  pub step_within : (es : List Entry) (f : Folded) (e : Entry) → MayFollow es e → FoldedHasKeys f → ApartAll s (entry_spans f e) → within (fold_step f e).pairs s ≡ within f.pairs s
  step_within es f (Epoch number) may h apart = refl
  step_within es f (Opened session app) may h apart = refl
  step_within es f (Closed session) may h apart = session_within session f.begun f.pairs h.begun apart
  step_within es f (Update session w job txn op) may h apart = op_within txn op f.pairs may.within h.pairs apart.0
  step_within es f (Commit session w job txn) may h apart = refl
  step_within es f (Rollback session w job txn) may h apart = all_within (undo_in session job txn f.begun) f.pairs (undo_in_keys session job txn f.begun h.begun) apart

  -- so what an entry of an ordered list does not touch stays as it is
  pub entry_within : (es : List Entry) (e : Entry) → IsOrdered es → MayFollow es e → ApartAll s (entry_spans (fold es) e) → within (fold (es ++ e ∷ [])).pairs s ≡ within (fold es).pairs s
  entry_within es e o may apart = ap (λ (f : Folded). within f.pairs s) (fold-push es e) ∙ step_within es (fold es) e may (folded_keys es o) apart
