-- Keys of nodes: which begin with which, and which are in a node's span.
use Rattle.std.proofs.Common.{◌≡◌, ℕ, List, [], ◌∷◌, ◌++◌, refl, ap, sym, subst, ◌∙◌, true, length, drop, nat_eq, append_assoc}
use Rattle.std.specs.List.{AllByRecursion}
use Rattle.std.proofs.lemmas.Bool.{eqb-true, eq-eqb, and_parts, false≢true}
use Rattle.std.proofs.lemmas.List.{append-nil}
use Rattle.subscript_keys.specs.declared.sub.Sub.{Sub}
use Rattle.subscript_keys.specs.declared.node.Node.{Node}
use Rattle.subscript_keys.specs.Key.{sub_bytes, subs_bytes, key_of, IsKey, IsNode, IsSub}
use Rattle.subscript_keys.specs.NodeOrder.{IsAtOrBelow}
use Rattle.subscript_keys.proofs.Ties.{one-name, more-subs}
use Rattle.subscript_keys.specs.Span.{IsIn, span_lo, span_hi}
use Rattle.subscript_keys.proofs.Spans.{subs_bytes-append, span-holds}
use Rattle.plain_orders.specs.PairMap.{is_under}
use Rattle.plain_orders.specs.Keys.{UnderIsAtOrBelow}

-- what begins with a list is it and more
pub under_rest : (n k : List ℕ) → is_under n k ≡ true → k ≡ n ++ drop (length n) k
under_rest [] k h = refl
under_rest (x ∷ n) [] h = absurd (false≢true h)
under_rest (x ∷ n) (z ∷ k) h =
    let s = and_parts (nat_eq x z) (is_under n k) h in
    let first : z ≡ x = sym (eqb-true x z s.0) in
    let rest : k ≡ n ++ drop (length n) k = under_rest n k s.1 in
    ap (λ y. y ∷ k) first ∙ ap (λ t. x ∷ t) rest

-- and a list and more begins with it
pub under_front : (n u : List ℕ) → is_under n (n ++ u) ≡ true
under_front [] u = refl
under_front (x ∷ n) u = rw (eq-eqb x x refl) (under_front n u)

-- the subscripts that stand after a node's key in another node's
pub record Behind (a b : Node) (u : List ℕ) : Type 0 where
  pub more : List Sub
  pub name : b.name ≡ a.name
  pub subs : b.subs ≡ a.subs ++ more
  pub bytes : u ≡ subs_bytes more
  pub are : AllByRecursion IsSub more

pub behind : (a b : Node) (u : List ℕ) → IsNode a → IsNode b → key_of b ≡ key_of a ++ u → Behind a b u
unfolding key_of
behind a b u p q e =
    let whole : a.name ++ 0 ∷ (subs_bytes a.subs ++ u) ≡ b.name ++ 0 ∷ subs_bytes b.subs = sym (append_assoc a.name (0 ∷ subs_bytes a.subs) u) ∙ sym e in
    let parts = one-name a.name b.name (subs_bytes a.subs ++ u) (subs_bytes b.subs) p.name q.name whole in
    let rest = more-subs a.subs b.subs u p.subs q.subs parts.1 in
    record { more = rest.0; name = sym parts.0; subs = rest.1; bytes = rest.2; are = rest.3 }

key_of-more : (a b : Node) (more : List Sub) → b.name ≡ a.name → b.subs ≡ a.subs ++ more → key_of b ≡ key_of a ++ subs_bytes more
unfolding key_of
key_of-more a b more e f =
    ap (λ n. n ++ 0 ∷ subs_bytes b.subs) e ∙ ap (λ ss. a.name ++ 0 ∷ subs_bytes ss) f
    ∙ ap (λ x. a.name ++ 0 ∷ x) (subs_bytes-append a.subs more) ∙ sym (append_assoc a.name (0 ∷ subs_bytes a.subs) (subs_bytes more))

pub at_or_below : (a b : Node) → IsNode a → IsNode b → is_under (key_of a) (key_of b) ≡ true → IsAtOrBelow a b
at_or_below a b p q h = let w = behind a b _ p q (under_rest (key_of a) (key_of b) h) in (w.more, w.name, w.subs)

-- on keys of nodes to begin with a key is to be its node or one of its descendants
pub under_is : UnderIsAtOrBelow
under_is a b p q = (at_or_below a b p q, λ w. rw (key_of-more a b w.0 w.1 w.2) (under_front (key_of a) (subs_bytes w.0)))

-- the span of a node and its descendants holds each node's key that begins with the node's
pub under_in : (node key : List ℕ) → IsKey node → IsKey key → is_under node key ≡ true → IsIn (span_lo node) (span_hi node) key
under_in node key (a, p, e) (b, q, f) h =
    let under : is_under (key_of a) (key_of b) ≡ true = rw (e, f) h in
    let inside : IsIn (span_lo (key_of a)) (span_hi (key_of a)) (key_of b) = (span-holds a b p q).1 (at_or_below a b p q under) in
    subst (λ k. IsIn (span_lo k) (span_hi k) key) e (subst (IsIn (span_lo (key_of a)) (span_hi (key_of a))) f inside)

all_subs-append : (ss ts : List Sub) → AllByRecursion IsSub ss → AllByRecursion IsSub ts → AllByRecursion IsSub (ss ++ ts)
all_subs-append [] ts p q = q
all_subs-append (s ∷ ss) ts p q = (p.0, all_subs-append ss ts p.1 q)

-- a node's key with a subscript after it is the key of its child
pub child_key : (key : List ℕ) (s : Sub) → IsKey key → IsSub s → IsKey (key ++ sub_bytes s)
child_key key s (a, p, e) q =
    let child : Node = record { name = a.name; subs = a.subs ++ s ∷ [] } in
    let is : IsNode child = record { name = p.name; subs = all_subs-append a.subs (s ∷ []) p.subs (q, tt) } in
    (child, is, key_of-more a child (s ∷ []) refl refl ∙ ap (λ b. key_of a ++ b) (append-nil (sub_bytes s)) ∙ ap (λ k. k ++ sub_bytes s) e)
