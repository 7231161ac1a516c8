use Rattle.std.proofs.Common.{refl, arith, rules}
use Rattle.fit_examples.proofs.examples.start_examples.Goals as goal

pub returns : goal.returns
returns c = (
  ((_, (_, _, refl, refl), (refl, (tt, tt)), omega arith, refl, refl), (refl, (refl, tt)), refl),
  ((_, (_, _, refl, refl), (refl, (tt, tt)), omega arith, refl, refl), (refl, (refl, tt)), refl),
  search rules,
  search rules,
  search rules,
  search rules,
  search rules,
  search rules,
  search rules,
  search rules,
  search rules,
  search rules,
  search rules,
)
