-- The next key after a subscript, and the subscript that stands after a node's key.
use Rattle.std.proofs.Common.{◌≡◌, ℕ, ◌<◌, List, [], ◌∷◌, ◌++◌, refl, ap, sym, subst, ◌∙◌, Bool, true, false, not, length, drop, nat_lt, ◌&&◌, if◌then◌else◌, append_assoc, arith, Option, Some}
use Rattle.std.specs.declared.cmp.Ordering.TheVariants.{Less, Greater}
use Rattle.std.specs.Ordering.{ordering_reverse, is_lt}
use Rattle.std.specs.List.{AllByRecursion}
use Rattle.std.proofs.lemmas.Bool.{and_parts, ltb-true}
use Rattle.std.proofs.lemmas.Cmp.{nat_list_cmp_total}
use Rattle.subscript_keys.specs.declared.sub.Sub.{Sub}
use Rattle.subscript_keys.specs.Key.{sub_bytes, subs_bytes, key_of, IsKey, IsSub}
use Rattle.subscript_keys.specs.Span.{span_hi}
use Rattle.plain_orders.specs.PairMap.{Map, key_cmp, is_under, is_below}
use Rattle.plain_orders.specs.Answers.{is_behind, next_key}
use Rattle.plain_orders.specs.Keys.{HasKeys}
use Rattle.plain_orders.proofs.NodeKeys.{under_rest, under_front, under_in, behind}
use Rattle.plain_programs.specs.Search.{descendant_behind}
use Rattle.plain_programs.proofs.SpanLemmas.{end-apart}

-- the end of a child's span begins with the parent's key
pub under_end : (n u : List ℕ) → is_under n (span_hi (n ++ u)) ≡ true
under_end n u = rw (append_assoc n u (0xFF ∷ [])) (under_front n (u ++ 0xFF ∷ []))

key_in_span : (q k : List ℕ) → IsKey q → IsKey k → is_under q k ≡ true → key_cmp k (span_hi q) ≡ Less
key_in_span q k r s h = (under_in q k r s h).to

and_false : (a : Bool) → (a && false) ≡ false
and_false true = refl
and_false false = refl

and_true : (a : Bool) → (a && true) ≡ a
and_true true = refl
and_true false = refl

-- a key is after a node and all that is below it where it is after the end of their span
pub behind_span : (q k : List ℕ) → IsKey q → IsKey k → (is_lt (key_cmp q k) && not (is_under q k)) ≡ is_lt (key_cmp (span_hi q) k)
behind_span q k r s = go (is_under q k) refl
  where
    go : (t : Bool) → is_under q k ≡ t → (is_lt (key_cmp q k) && not (is_under q k)) ≡ is_lt (key_cmp (span_hi q) k)
    go true e =
        let turned : key_cmp (span_hi q) k ≡ Greater = nat_list_cmp_total.antisymm (span_hi q) k ∙ ap ordering_reverse (key_in_span q k r s e) in
        ap (λ t. is_lt (key_cmp q k) && not t) e ∙ and_false (is_lt (key_cmp q k)) ∙ sym (ap is_lt turned)
    go false e =
        let same : key_cmp (span_hi q) k ≡ key_cmp q k =
        nat_list_cmp_total.antisymm (span_hi q) k ∙ ap ordering_reverse (end-apart q k e) ∙ sym (nat_list_cmp_total.antisymm q k) in
        ap (λ t. is_lt (key_cmp q k) && not t) e ∙ and_true (is_lt (key_cmp q k)) ∙ sym (ap is_lt same)

module _ (parent : List ℕ) (s : Sub) (q : List ℕ) (is : q ≡ parent ++ sub_bytes s) (r : IsKey q) where
  -- so the next key after a subscript is the first descendant after the end of that span
  pub next_key-behind : (m : Map) → HasKeys m → next_key m parent (Some s) ≡ descendant_behind m parent (span_hi q)
  next_key-behind [] h = refl
  next_key-behind (p ∷ ps) h =
      ap (λ x. if is_below parent p.0 && (is_lt (key_cmp x p.0) && not (is_under x p.0)) then Some p.0 else next_key ps parent (Some s)) (sym is)
      ∙ ap (λ t. if is_below parent p.0 && t then Some p.0 else next_key ps parent (Some s)) (behind_span q p.0 r h.0)
      ∙ ap (λ o. if is_below parent p.0 && is_lt (key_cmp (span_hi q) p.0) then Some p.0 else o) (next_key-behind ps h.1)

-- the next key is a node's, of one of the descendants
pub next_key_is : (m : Map) → HasKeys m → (parent : List ℕ) (o : Option Sub) (k : List ℕ) → next_key m parent o ≡ Some k → IsKey k × (is_below parent k ≡ true)
next_key_is [] h parent o k e = cc
next_key_is (p ∷ ps) h parent o k e = go (is_below parent p.0) (is_behind parent o p.0) refl e (λ f. next_key_is ps h.1 parent o k f)
  where
    go : (t u : Bool) → is_below parent p.0 ≡ t → (if t && u then Some p.0 else next_key ps parent o) ≡ Some k → (next_key ps parent o ≡ Some k → IsKey k × (is_below parent k ≡ true)) → IsKey k × (is_below parent k ≡ true)
    go true true f g more = let same : p.0 ≡ k = cc in (subst IsKey same h.0, subst (λ (x : List ℕ). is_below parent x ≡ true) same f)
    go true false f g more = more g
    go false u f g more = more g

longer_rest : (n k : List ℕ) → length n < length k → drop (length n) k ≡ [] → ⊥
longer_rest [] [] l e = absurd (omega arith)
longer_rest [] (z ∷ k) l e = cc
longer_rest (x ∷ n) [] l e = absurd (omega arith)
longer_rest (x ∷ n) (z ∷ k) l e = longer_rest n k (omega arith) e

-- a subscript stands after a node's key in that of a descendant
pub sub_stands : (parent k : List ℕ) → IsKey parent → IsKey k → is_below parent k ≡ true → ((s : Sub) (r : List ℕ) → IsSub s → drop (length parent) k ≡ sub_bytes s ++ r → ⊥) → ⊥
sub_stands parent k (a, p, e) (b, q, f) h none =
    let t = and_parts (is_under parent k) (nat_lt (length parent) (length k)) h in
    let key : key_of b ≡ key_of a ++ drop (length parent) k = f ∙ under_rest parent k t.0 ∙ ap (λ x. x ++ drop (length parent) k) (sym e) in
    let w = behind a b (drop (length parent) k) p q key in
    go w.more w.are w.bytes (longer_rest parent k (ltb-true (length parent) (length k) t.1))
  where
    go : (more : List Sub) → AllByRecursion IsSub more → drop (length parent) k ≡ subs_bytes more → (drop (length parent) k ≡ [] → ⊥) → ⊥
    go [] are is some = some is
    go (s ∷ ss) are is some = none s (subs_bytes ss) are.0 is

-- and the key begins with the node's key and that subscript
pub sub_in : (parent k : List ℕ) (s : Sub) (r : List ℕ) → is_under parent k ≡ true → drop (length parent) k ≡ sub_bytes s ++ r → is_under (parent ++ sub_bytes s) k ≡ true
sub_in parent k s r h e =
    let whole : k ≡ (parent ++ sub_bytes s) ++ r = under_rest parent k h ∙ ap (λ x. parent ++ x) e ∙ sym (append_assoc parent (sub_bytes s) r) in
    rw whole (under_front (parent ++ sub_bytes s) r)
