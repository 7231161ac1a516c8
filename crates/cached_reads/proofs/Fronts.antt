-- Bytes that begin with others, and their order.
use Rattle.std.proofs.Common.{◌≡◌, ℕ, zero, suc, ◌<◌, true, false, not, List, [], ◌∷◌, ◌++◌, length, refl, sym, ◌∙◌, ap, subst, nat_eq, arith}
use Rattle.std.specs.Ordering.{nat_cmp, is_lt, is_gt, ordering_then}
use Rattle.std.specs.declared.cmp.Ordering.{Ordering}
use Rattle.std.specs.declared.cmp.Ordering.TheVariants.{Less, Equal, Greater}
use Rattle.std.proofs.lemmas.Bool.{false≢true, eqb-true, eq-eqb, and_parts}
use Rattle.subscript_keys.proofs.Orders.{nat_cmp-eq, nat_cmp-lt}
use Rattle.subscript_keys.proofs.Ties.{same_numbers}
use Rattle.plain_orders.specs.PairMap.{key_cmp, is_under}
use Rattle.cached_reads.proofs.Orders.{le, lt}

-- a byte in front of both
same_first : (a : ℕ) (n k : List ℕ) → key_cmp (a ∷ n) (a ∷ k) ≡ key_cmp n k
same_first a n k = ap (λ o. ordering_then o (key_cmp n k)) (nat_cmp-eq a a refl)

-- bytes are below themselves with more
pub below_more : (n : List ℕ) (x : ℕ) (u : List ℕ) → key_cmp n (n ++ x ∷ u) ≡ Less
below_more [] x u = refl
below_more (a ∷ n) x u = same_first a n (n ++ x ∷ u) ∙ below_more n x u

-- longer bytes that begin with some are not below these with a zero
pub after_zero : (n k : List ℕ) → is_under n k ≡ true → length n < length k → le (n ++ 0 ∷ []) k
after_zero [] [] u longer = absurd (omega (arith, longer))
after_zero [] (x ∷ k) u longer = go x k
  where
    go : (x : ℕ) (k : List ℕ) → le (0 ∷ []) (x ∷ k)
    go zero [] = refl
    go zero (y ∷ k) = refl
    go (suc x) k = ap (λ o. not (is_gt (ordering_then o (key_cmp [] k)))) (nat_cmp-lt 0 (suc x) (omega arith))
after_zero (a ∷ n) [] u longer = absurd (false≢true u)
after_zero (a ∷ n) (b ∷ k) u longer =
    let parts = and_parts (nat_eq a b) (is_under n k) u in
    let same : a ≡ b = eqb-true a b parts.0 in
    let rest : le (n ++ 0 ∷ []) k = after_zero n k parts.1 (omega (arith, longer)) in
    subst (λ c. le (a ∷ n ++ 0 ∷ []) (c ∷ k)) same (ap (λ o. not (is_gt o)) (same_first a (n ++ 0 ∷ []) k) ∙ rest)

-- bytes above some that they don't begin with are above all that do
pub past_all : (n k : List ℕ) (v : List ℕ) → lt n k → is_under n k ≡ false → lt (n ++ v) k
past_all [] k v above apart = absurd (false≢true (sym apart))
past_all (a ∷ n) [] v above apart = absurd (false≢true above)
past_all (a ∷ n) (b ∷ k) v above apart = go (nat_cmp a b) refl above apart (past_all n k v)
  where
    under : a ≡ b → is_under n k ≡ is_under (a ∷ n) (b ∷ k)
    under same = rw (eq-eqb a b same) refl

    go : (o : Ordering) → nat_cmp a b ≡ o → is_lt (ordering_then o (key_cmp n k)) ≡ true → is_under (a ∷ n) (b ∷ k) ≡ false
        → (lt n k → is_under n k ≡ false → lt (n ++ v) k) → lt (a ∷ n ++ v) (b ∷ k)
    go Less e above apart more = ap (λ o. is_lt (ordering_then o (key_cmp (n ++ v) k))) e
    go Equal e above apart more = ap (λ o. is_lt (ordering_then o (key_cmp (n ++ v) k))) e ∙ more above (under (same_numbers a b e) ∙ apart)
    go Greater e above apart more = absurd (false≢true above)

-- bytes that begin with some and are above them are longer
pub longer : (n k : List ℕ) → is_under n k ≡ true → lt n k → length n < length k
longer [] [] u above = absurd (false≢true above)
longer [] (x ∷ k) u above = omega arith
longer (a ∷ n) [] u above = absurd (false≢true u)
longer (a ∷ n) (b ∷ k) u above =
    let parts = and_parts (nat_eq a b) (is_under n k) u in
    let same : b ≡ a = sym (eqb-true a b parts.0) in
    let rest : lt n k = sym (ap is_lt (same_first a n k)) ∙ subst (λ c. lt (a ∷ n) (c ∷ k)) same above in
    omega (arith, longer n k parts.1 rest)
