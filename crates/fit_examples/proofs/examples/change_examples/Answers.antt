use Rattle.std.proofs.Common.{refl, rules}
use Rattle.fit_examples.proofs.examples.change_examples.Goals as goal

pub returns : goal.returns
returns c = (
  ((1, refl, refl), (refl, tt), refl),
  search rules,
  search rules,
  search rules,
  search rules,
  search rules,
  search rules,
  search rules,
  search rules,
  search rules,
  search rules,
  search rules,
  search rules,
  search rules,
  ((1, refl, refl), (refl, tt), refl),
  search rules,
  search rules,
  search rules,
  search rules,
  search rules,
  search rules,
  search rules,
  search rules,
  search rules,
  search rules,
  search rules,
  search rules,
)
