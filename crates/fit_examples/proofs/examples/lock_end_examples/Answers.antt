use Rattle.std.proofs.Common.{refl, arith, rules, inl, inr}
use Rattle.fit_examples.proofs.examples.lock_end_examples.Goals as goal

pub returns : goal.returns
returns c = (
  (inr (inl (_, (_, refl, (refl, (tt, tt)), refl, refl), (refl, (refl, tt)), (3, refl, omega arith), refl)), refl),
  search rules,
  (inr (inl (_, (_, refl, (refl, (tt, tt)), refl, refl), (refl, (refl, tt)), (3, refl, omega arith), refl)), refl),
  search rules,
  search rules,
  search rules,
  search rules,
  search rules,
  search rules,
  search rules,
  search rules,
  search rules,
  search rules,
  search rules,
  search rules,
  (inr (inr (_, (_, refl, (refl, (tt, tt)), refl, refl), refl)), refl),
  search rules,
  search rules,
  search rules,
)
