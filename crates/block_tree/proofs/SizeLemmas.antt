-- How many bytes pairs take: parts of them no more, and one more pair as many more as it takes.
use Rattle.std.proofs.Common.{◌≡◌, ◌≤◌, ◌+◌, ℕ, Bool, true, false, not, cond, List, [], ◌∷◌, Some, None, refl, sym, ap, subst, arith}
use Rattle.std.specs.List.{filter}
use Rattle.std.specs.Ordering.{is_eq, match_ordering}
use Rattle.std.specs.declared.cmp.Ordering.{Ordering}
use Rattle.std.specs.declared.cmp.Ordering.TheVariants.{Less, Equal, Greater}
use Rattle.std.proofs.lemmas.List.Sums.{sum_by-cons}
use Rattle.std.proofs.lemmas.Map.Lookups.{exact_bytes}
use Rattle.plain_orders.specs.PairMap.{Map, key_cmp, put, value_at, IsBeforeAll, IsRising}
use Rattle.plain_orders.proofs.RisingLemmas.{before_behind}
use Rattle.block_tree.specs.TreeWords.{size, size_of}
use Rattle.block_tree.specs.LeafWords.{others}
use Rattle.block_tree.specs.Removals.{found_with}

pub more : (p : List ℕ × List ℕ) (m : Map) → size (p ∷ m) ≡ size_of p + size m
more p m = sum_by-cons size_of p m

-- what passes a test takes no more than what passes a wider one
pub narrower : (f g : List ℕ × List ℕ → Bool) → ((p : List ℕ × List ℕ) → f p ≡ true → g p ≡ true) → (m : Map) → size (filter f m) ≤ size (filter g m)
narrower f g h [] = omega arith
narrower f g h (p ∷ ps) = go (f p) (g p) refl refl (narrower f g h ps)
  where
    go : (a b : Bool) → f p ≡ a → g p ≡ b → size (filter f ps) ≤ size (filter g ps)
        → size (cond a (p ∷ filter f ps) (filter f ps)) ≤ size (cond b (p ∷ filter g ps) (filter g ps))
    go true true e k ih = omega (arith, ih, more p (filter f ps), more p (filter g ps))
    go true false e k ih = absurd (let t = h p e in cc)
    go false true e k ih = omega (arith, ih, more p (filter g ps))
    go false false e k ih = ih

-- and no more than all
pub part : (f : List ℕ × List ℕ → Bool) (m : Map) → size (filter f m) ≤ size m
part f [] = omega arith
part f (p ∷ ps) = go (f p) (part f ps)
  where
    go : (a : Bool) → size (filter f ps) ≤ size ps → size (cond a (p ∷ filter f ps) (filter f ps)) ≤ size (p ∷ ps)
    go true ih = omega (arith, ih, more p (filter f ps), more p ps)
    go false ih = omega (arith, ih, more p ps)

-- fewer pairs take no more in a span
pub fewer : (f g : List ℕ × List ℕ → Bool) (m : Map) → size (filter g (filter f m)) ≤ size (filter g m)
fewer f g [] = omega arith
fewer f g (p ∷ ps) = go (f p) (g p) refl (fewer f g ps)
  where
    go : (a b : Bool) → g p ≡ b → size (filter g (filter f ps)) ≤ size (filter g ps)
        → size (filter g (cond a (p ∷ filter f ps) (filter f ps))) ≤ size (cond b (p ∷ filter g ps) (filter g ps))
    go true true e ih = rw e (omega (arith, ih, more p (filter g (filter f ps)), more p (filter g ps)))
    go true false e ih = rw e ih
    go false true e ih = omega (arith, ih, more p (filter g ps))
    go false false e ih = ih

-- a key before all is at none
others_before : (key : List ℕ) (m : Map) → IsRising m → IsBeforeAll key m → others m key ≡ m
others_before key [] r b = refl
others_before key (p ∷ ps) r b = rw b (ap (λ ps. p ∷ ps) (others_before key ps r.1 (before_behind key p.0 ps b r.0)))

absent_before : (key : List ℕ) (m : Map) → IsRising m → IsBeforeAll key m → value_at m key ≡ None
absent_before key [] r b = refl
absent_before key (p ∷ ps) r b = rw b (absent_before key ps r.1 (before_behind key p.0 ps b r.0))

before_same : (k q : List ℕ) (m : Map) → key_cmp k q ≡ Equal → IsBeforeAll q m → IsBeforeAll k m
before_same k q m e b = subst (λ x. IsBeforeAll x m) (sym (exact_bytes k q e)) b

-- with a pair put in place of any other at its key
pub size_put : (key value : List ℕ) (m : Map) → IsRising m → size (put m key value) ≡ size (others m key) + size_of (key, value)
size_put key value [] r = omega (arith, more (key, value) [])
size_put key value (p ∷ ps) r = go (key_cmp key p.0) refl (size_put key value ps r.1)
  where
    go : (o : Ordering) → key_cmp key p.0 ≡ o → size (put ps key value) ≡ size (others ps key) + size_of (key, value)
        → size (match_ordering o ((key, value) ∷ p ∷ ps) ((p.0, value) ∷ ps) (p ∷ put ps key value)) ≡ size (cond (not (is_eq o)) (p ∷ others ps key) (others ps key)) + size_of (key, value)
    go Less e ih =
        let same : others ps key ≡ ps = others_before key ps r.1 (before_behind key p.0 ps e r.0) in
        rw same (omega (arith, more (key, value) (p ∷ ps)))
    go Equal e ih =
        let same : others ps key ≡ ps = others_before key ps r.1 (before_same key p.0 ps e r.0) in
        let it : size_of (p.0, value) ≡ size_of (key, value) = ap (λ k. size_of (k, value)) (sym (exact_bytes key p.0 e)) in
        rw same (omega (arith, it, more (p.0, value) ps))
    go Greater e ih = omega (arith, ih, more p (put ps key value), more p (others ps key))

-- the others and what is at the key are all
pub size_others : (key : List ℕ) (m : Map) → IsRising m → size (others m key) + size (found_with key (value_at m key)) ≡ size m
size_others key [] r = refl
size_others key (p ∷ ps) r = go (key_cmp key p.0) refl (size_others key ps r.1)
  where
    go : (o : Ordering) → key_cmp key p.0 ≡ o → size (others ps key) + size (found_with key (value_at ps key)) ≡ size ps
        → size (cond (not (is_eq o)) (p ∷ others ps key) (others ps key)) + size (found_with key (cond (is_eq o) (Some p.1) (value_at ps key))) ≡ size (p ∷ ps)
    go Less e ih = omega (arith, ih, more p ps, more p (others ps key))
    go Equal e ih =
        let same : others ps key ≡ ps = others_before key ps r.1 (before_same key p.0 ps e r.0) in
        let it : size_of (key, p.1) ≡ size_of p = ap (λ k. size_of (k, p.1)) (exact_bytes key p.0 e) in
        rw same (omega (arith, it, more (key, p.1) [], more p ps))
    go Greater e ih = omega (arith, ih, more p ps, more p (others ps key))
