use Rattle.std.proofs.Common.{refl, rules}
use Rattle.fit_examples.proofs.examples.sync_examples.Goals as goal

pub returns : goal.returns
returns c = (
  ((2, refl, refl), (refl, (tt, tt)), (refl, (refl, tt)), refl),
  search rules,
  search rules,
  search rules,
  search rules,
  search rules,
  search rules,
  search rules,
  search rules,
  search rules,
  search rules,
)
