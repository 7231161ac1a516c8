use Rattle.std.proofs.Common.{◌≡◌, refl, rules, inl}
use Rattle.std.specs.Prelude.{None, false, true}
use Rattle.plain_orders.specs.declared.mode.Mode.TheVariants.{Exclusive}
use Rattle.script_fits.specs.Locking.{no_past}
use Rattle.fit_examples.specs.Groups.{two, at_x}
use Rattle.fit_examples.proofs.FirstMoments.{grant_means}
use Rattle.fit_examples.proofs.examples.lock_examples.Goals as goal

pub returns : goal.returns
returns c = (
  (inl (_, 2, refl, refl, refl, (refl, tt), refl), refl),
  (inl (_, 2, refl, refl, refl, (refl, tt), refl), refl),
  search rules,
  search rules,
  search rules,
  search rules,
  λ f. let e : false ≡ true = grant_means two 0 5 2 at_x Exclusive None no_past _ _ refl f.0 in absurd (cc e),
  search rules,
  search rules,
  search rules,
  search rules,
  search rules,
  search rules,
  search rules,
)
