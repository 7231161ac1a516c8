-- All application servers have their places.
use Rattle.std.proofs.Common.{◌≡◌, ◌≢◌, ◌<◌, ◌≤◌, ℕ, zero, suc, ◌+◌, Bool, true, false, ◌||◌, refl, sym, ◌∙◌, eqb, arith}
use Rattle.std.specs.Prelude.{nat_lt}
use Rattle.std.proofs.lemmas.Bool.{eq-eqb, false≢true, ltb-false, ltb-true}
use Rattle.std.specs.List.{list_any, range_with_len}
use Rattle.data_rules.specs.declared.limits.TheConstants.{APP_LIMIT}
use Rattle.data_rules.specs.Opening.{all_apps}
use Rattle.cluster_invariant.specs.Words.{is_same}

above : (a k : ℕ) → (k ≢ a) → a ≤ k → a + 1 ≤ k
above a k differs from = go (nat_lt a k) refl
  where
    go : (b : Bool) → nat_lt a k ≡ b → a + 1 ≤ k
    go true is = omega (arith, ltb-true a k is)
    go false is = absurd (differs (omega (arith, from, ltb-false a k is)))

pub in_range : (n a k : ℕ) → a ≤ k → k < a + n → list_any (is_same k) (range_with_len a n) ≡ true
in_range zero a k from below = absurd (omega (arith, from, below))
in_range (suc n) a k from below = go (eqb k a) refl (in_range n (a + 1) k)
  where
    go : (b : Bool) → eqb k a ≡ b → (a + 1 ≤ k → k < a + 1 + n → list_any (is_same k) (range_with_len (a + 1) n) ≡ true) → (b || list_any (is_same k) (range_with_len (a + 1) n)) ≡ true
    go true same more = refl
    go false other more = more (above a k (λ same. false≢true (sym other ∙ eq-eqb k a same)) from) (omega (arith, below))

-- all application servers have their places
pub places_all : (app : ℕ) → app < APP_LIMIT → list_any (is_same app) all_apps ≡ true
places_all app low = in_range APP_LIMIT 0 app (omega arith) low
