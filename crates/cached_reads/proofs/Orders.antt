-- The order of keys, by its tests.
use Rattle.std.proofs.Common.{◌≡◌, ◌⊎◌, inl, inr, ℕ, true, false, not, List, refl, sym, ◌∙◌, ap, subst}
use Rattle.std.specs.Ordering.{is_lt, is_gt, ordering_reverse}
use Rattle.std.specs.declared.cmp.Ordering.{Ordering}
use Rattle.std.specs.declared.cmp.Ordering.TheVariants.{Less, Equal, Greater}
use Rattle.std.proofs.lemmas.Bool.{false≢true}
use Rattle.std.proofs.lemmas.Cmp.{nat_list_cmp_total}
use Rattle.subscript_keys.proofs.Ties.{itself, same_lists}
use Rattle.plain_orders.specs.PairMap.{key_cmp}

-- not above
abbrev pub le : List ℕ → List ℕ → Type 0
le a b = not (is_gt (key_cmp a b)) ≡ true

-- below
abbrev pub lt : List ℕ → List ℕ → Type 0
lt a b = is_lt (key_cmp a b) ≡ true

pub less_from : (o : Ordering) → is_lt o ≡ true → o ≡ Less
less_from Less e = refl
less_from Equal e = absurd (false≢true e)
less_from Greater e = absurd (false≢true e)

pub reversed : (a b : List ℕ) → key_cmp b a ≡ ordering_reverse (key_cmp a b)
reversed a b = nat_list_cmp_total.antisymm b a

-- what isn't above is below or the same
by_le : (a b : List ℕ) → le a b → (key_cmp a b ≡ Less) ⊎ (a ≡ b)
by_le a b h = go (key_cmp a b) refl h
  where
    go : (o : Ordering) → key_cmp a b ≡ o → not (is_gt o) ≡ true → (key_cmp a b ≡ Less) ⊎ (a ≡ b)
    go Less e h = inl e
    go Equal e h = inr (same_lists a b e)
    go Greater e h = absurd (false≢true h)

pub lt_le : (a b : List ℕ) → lt a b → le a b
lt_le a b h = ap (λ o. not (is_gt o)) (less_from (key_cmp a b) h)

pub le_self : (a : List ℕ) → le a a
le_self a = ap (λ o. not (is_gt o)) (itself a)

pub lt_trans : (a b c : List ℕ) → lt a b → lt b c → lt a c
lt_trans a b c p q = ap is_lt (nat_list_cmp_total.trans a b c (less_from (key_cmp a b) p) (less_from (key_cmp b c) q))

pub lt_then : (a b c : List ℕ) → lt a b → le b c → lt a c
lt_then a b c p q = go (by_le b c q)
  where
    go : (key_cmp b c ≡ Less) ⊎ (b ≡ c) → lt a c
    go (inl r) = lt_trans a b c p (ap is_lt r)
    go (inr same) = subst (λ x. lt a x) same p

pub then_lt : (a b c : List ℕ) → le a b → lt b c → lt a c
then_lt a b c p q = go (by_le a b p)
  where
    go : (key_cmp a b ≡ Less) ⊎ (a ≡ b) → lt a c
    go (inl r) = lt_trans a b c (ap is_lt r) q
    go (inr same) = subst (λ x. lt x c) (sym same) q

pub le_trans : (a b c : List ℕ) → le a b → le b c → le a c
le_trans a b c p q = go (by_le a b p)
  where
    go : (key_cmp a b ≡ Less) ⊎ (a ≡ b) → le a c
    go (inl r) = lt_le a c (lt_then a b c (ap is_lt r) q)
    go (inr same) = subst (λ x. le x c) (sym same) q

-- what isn't below is not above the other way
pub not_lt : (a b : List ℕ) → is_lt (key_cmp a b) ≡ false → le b a
not_lt a b h = ap (λ o. not (is_gt o)) (reversed a b) ∙ go (key_cmp a b) h
  where
    go : (o : Ordering) → is_lt o ≡ false → not (is_gt (ordering_reverse o)) ≡ true
    go Less e = absurd (false≢true (sym e))
    go Equal e = refl
    go Greater e = refl

-- and what is below isn't above
pub no_both : (a b : List ℕ) → lt a b → le b a → ⊥
no_both a b p q = go (itself a) (lt_then a b a p q)
  where
    go : key_cmp a a ≡ Equal → lt a a → ⊥
    go e h = false≢true (sym (ap is_lt e) ∙ h)
