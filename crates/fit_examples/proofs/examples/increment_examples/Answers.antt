use Rattle.std.proofs.Common.{refl, rules, inl, inr}
use Rattle.std.specs.Prelude.{pos}
use Rattle.plain_orders.specs.declared.act.Act.TheVariants.{Counted, NotWhole, Range}
use Rattle.fit_examples.proofs.examples.increment_examples.Goals as goal

pub returns : goal.returns
returns c = (
  ((1, Counted 0 5 0 3 (pos 3), refl, inl (3, pos 3, refl, refl)), (refl, (refl, tt)), refl),
  ((1, NotWhole 0 5 0 3, refl, inr (inl (3, refl, refl))), (refl, (refl, tt)), refl),
  ((1, Range 0 5 0 3, refl, inr (inr (3, refl, refl))), (refl, (refl, tt)), refl),
  search rules,
  search rules,
  search rules,
  search rules,
  search rules,
  search rules,
  search rules,
  search rules,
  search rules,
  search rules,
  search rules,
  search rules,
  search rules,
  search rules,
  search rules,
  search rules,
  search rules,
  search rules,
)
