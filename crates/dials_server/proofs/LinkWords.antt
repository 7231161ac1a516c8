-- Which connection a data connection is linked to.
use Rattle.std.proofs.Common.{◌≡◌, ℕ, Bool, true, ◌&&◌, ◌==◌, Option, Some, None, refl, ◌∙◌, ap}
use Rattle.std.proofs.lemmas.Bool.{and_parts, eq-eqb, eqb-true, false≢true}
use Rattle.cluster_runs.specs.CoresState.{Linked}
use Rattle.cluster_runs.specs.Connections.{is_link}

pub is_link_true : (a m : ℕ) (o : Option Linked) → is_link a m o ≡ true → o ≡ Some (record { app = a; dial = m })
is_link_true a m None is = absurd (false≢true is)
is_link_true a m (Some l) is = go (and_parts (l.app == a) (l.dial == m) is)
  where
    go : ((l.app == a) ≡ true) × ((l.dial == m) ≡ true) → Some l ≡ Some (record { app = a; dial = m })
    go parts =
        ap (λ (i : ℕ). Some (record { app = i; dial = l.dial })) (eqb-true l.app a parts.0) ∙ ap (λ (i : ℕ). Some (record { app = a; dial = i })) (eqb-true l.dial m parts.1)

pub is_link_itself : (a m : ℕ) → is_link a m (Some (record { app = a; dial = m })) ≡ true
is_link_itself a m = ap (λ (b : Bool). b && (m == m)) (eq-eqb a a refl) ∙ eq-eqb m m refl
