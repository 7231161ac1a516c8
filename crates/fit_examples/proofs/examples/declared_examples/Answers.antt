use Rattle.std.proofs.Common.{arith, rules}
use Rattle.fit_examples.proofs.examples.declared_examples.Goals as goal

pub returns : goal.returns
returns c = (
  omega arith,
  (omega arith, omega arith),
  search rules,
  search rules,
  search rules,
  search rules,
  search rules,
  search rules,
  search rules,
  search rules,
  search rules,
  search rules,
  search rules,
)
