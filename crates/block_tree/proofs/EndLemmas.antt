-- Where the keys of nodes end.
use Rattle.std.proofs.Common.{◌≡◌, ◌<◌, ◌⊎◌, ℕ, List, [], ◌∷◌, ◌++◌, sym, ap, subst, ◌∙◌, arith, inl, inr, Some, nat_lt}
use Rattle.std.specs.Prelude.{IsTrue, slice_get}
use Rattle.std.proofs.lemmas.Bool.{cases_order, lt-ltb, ltb-true}
use Rattle.std.specs.Char.{is_ascii_alphabetic}
use Rattle.std.specs.Ordering.{ordering_then}
use Rattle.std.specs.declared.cmp.Ordering.TheVariants.{Less}
use Rattle.subscript_keys.specs.declared.node.Node.{Node}
use Rattle.subscript_keys.specs.Key.{subs_bytes, key_of, IsName, IsNode, IsKey}
use Rattle.subscript_keys.proofs.Orders.{nat_cmp-lt, nat_cmp-eq, nat_cmp-gt}
use Rattle.plain_orders.specs.PairMap.{key_cmp}
use Rattle.block_tree.specs.TreeWords.{end_of_keys}

-- bytes that begin below FF are below it
pub first_below : (b : ℕ) (bs : List ℕ) → b < 0xFF → key_cmp (b ∷ bs) end_of_keys ≡ Less
first_below b bs h = ap (λ o. ordering_then o (key_cmp bs [])) (nat_cmp-lt b 0xFF h)

none_below : (bs : List ℕ) → key_cmp bs [] ≡ Less → ⊥
none_below [] e = cc
none_below (b ∷ bs) e = cc

below_first : (b : ℕ) (bs : List ℕ) → key_cmp (b ∷ bs) end_of_keys ≡ Less → b < 0xFF
below_first b bs h = go (cases_order b 0xFF)
  where
    go : (b ≡ 0xFF) ⊎ (b < 0xFF) ⊎ (0xFF < b) → b < 0xFF
    go (inl same) = absurd (none_below bs (sym (ap (λ o. ordering_then o (key_cmp bs [])) (nat_cmp-eq b 0xFF same)) ∙ h))
    go (inr (inl less)) = less
    go (inr (inr above)) = let g = sym (ap (λ o. ordering_then o (key_cmp bs [])) (nat_cmp-gt b 0xFF above)) ∙ h in absurd (cc)

-- the first byte decides
pub first_decides : (key : List ℕ) (b : ℕ) → Some b ≡ slice_get key 0
    → (IsTrue (nat_lt b 0xFF) → key_cmp key end_of_keys ≡ Less) × (key_cmp key end_of_keys ≡ Less → IsTrue (nat_lt b 0xFF))
first_decides [] b e = absurd (cc)
first_decides (c ∷ cs) b e =
    let same : b ≡ c = cc in
    (λ t. first_below c cs (subst (λ x. x < 0xFF) same (ltb-true b 0xFF t)), λ h. lt-ltb b 0xFF (subst (λ x. x < 0xFF) (sym same) (below_first c cs h)))

letter_below : (c : ℕ) → IsTrue (is_ascii_alphabetic c) → c < 0xFF
letter_below c h = grind arith

name_below : (name rest : List ℕ) → IsName name → key_cmp (name ++ 0 ∷ rest) end_of_keys ≡ Less
name_below [] rest p = absurd p
name_below (c ∷ cs) rest p = first_below c (cs ++ 0 ∷ rest) (letter_below c p.0)

node_below : (node : Node) → IsNode node → key_cmp (key_of node) end_of_keys ≡ Less
unfolding key_of
node_below node p = name_below node.name (subs_bytes node.subs) p.name

-- so is the key of each node
pub key_below : (key : List ℕ) → IsKey key → key_cmp key end_of_keys ≡ Less
key_below key k = subst (λ x. key_cmp x end_of_keys ≡ Less) k.2 (node_below k.0 k.1)
