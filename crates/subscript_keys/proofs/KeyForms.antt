-- A node whose subscripts have their forms, and whose key is bytes, is a node.
use Rattle.std.proofs.Common.{◌≡◌, ℕ, suc, ◌<◌, List, [], ◌∷◌, ◌++◌, get_or, ap, subst, inl, inr, arith}
use Rattle.std.specs.List.{AllByRecursion}
use Rattle.std.proofs.lemmas.Bool.{cases_eq}
use Rattle.subscript_keys.specs.declared.sub.Sub.{Sub}
use Rattle.subscript_keys.specs.declared.sub.Sub.TheVariants.{Num, Text}
use Rattle.subscript_keys.specs.declared.node.Node.{Node}
use Rattle.subscript_keys.specs.Key.{AreBytes, escaped, text_bytes, sub_bytes, subs_bytes, key_of, IsName, HasForm, HasEmpty, IsSub, IsNode}
use Rattle.subscript_keys.proofs.Orders.{escaped-zero, escaped-more}

pub bytes-parts : (s t : List ℕ) → AreBytes (s ++ t) → AreBytes s × AreBytes t
bytes-parts [] t p = (tt, p)
bytes-parts (c ∷ s) t p = let rest = bytes-parts s t p.1 in ((p.0, rest.0), rest.1)

pub bytes-join : (s t : List ℕ) → AreBytes s → AreBytes t → AreBytes (s ++ t)
bytes-join [] t p q = q
bytes-join (c ∷ s) t p q = (p.0, bytes-join s t p.1 q)

pub bytes-read : (s : List ℕ) → ((k : ℕ) → get_or s k 0 < 256) → AreBytes s
bytes-read [] p = tt
bytes-read (c ∷ s) p = (p 0, bytes-read s (λ k. let next : get_or (c ∷ s) (suc k) 0 < 256 = p (suc k) in next))

pub unescaped-bytes : (t : List ℕ) → AreBytes (escaped t) → AreBytes t
unescaped-bytes [] p = tt
unescaped-bytes (c ∷ t) p = elim (cases_eq c 0) [
  | inl e ↦ let q : AreBytes (0 ∷ 0xFF ∷ escaped t) = subst AreBytes (escaped-zero c t e) p in (omega arith, unescaped-bytes t q.1.1)
  | inr n ↦ let q : AreBytes (c ∷ escaped t) = subst AreBytes (escaped-more c t n) p in (q.0, unescaped-bytes t q.1)
]

text-form : (t : List ℕ) → HasForm (Text t) → (Text t ≡ Text [] → ⊥) → AreBytes (text_bytes t) → IsSub (Text t)
unfolding text_bytes
text-form t p full q = record {
  some = λ e. full (ap Text e);
  no_number = p;
  bytes = unescaped-bytes t (bytes-parts (escaped t) (0 ∷ 1 ∷ []) q.1).0;
}

sub-form : (s : Sub) → HasForm s → (s ≡ Text [] → ⊥) → AreBytes (sub_bytes s) → IsSub s
sub-form (Num d) p full q = p
sub-form (Text t) p full q = text-form t p full q

subs-form : (ss : List Sub) → AllByRecursion HasForm ss → (HasEmpty ss → ⊥) → AreBytes (subs_bytes ss) → AllByRecursion IsSub ss
subs-form [] p full q = tt
subs-form (s ∷ ss) p full q =
    let parts = bytes-parts (sub_bytes s) (subs_bytes ss) q in
    (sub-form s p.0 (λ e. full (inl e)) parts.0, subs-form ss p.1 (λ e. full (inr e)) parts.1)

pub node-form : (node : Node) → IsName node.name → AllByRecursion HasForm node.subs → (HasEmpty node.subs → ⊥) → AreBytes (key_of node) → IsNode node
unfolding key_of
node-form node n p full q = record { name = n; subs = subs-form node.subs p full (bytes-parts node.name (0 ∷ subs_bytes node.subs) q).1.1 }

pub node_from_bytes : (node : Node) (bytes : List ℕ) → IsName node.name → AllByRecursion HasForm node.subs → (HasEmpty node.subs → ⊥) → bytes ≡ key_of node → AreBytes bytes → IsNode node
node_from_bytes node bytes n p full e q = node-form node n p full (subst AreBytes e q)
