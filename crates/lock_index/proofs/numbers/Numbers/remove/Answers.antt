use Rattle.std.proofs.Common.{rules}
use Rattle.std.proofs.lemmas.Fn.{filter_same}
use Rattle.lock_index.specs.IndexWords.{is_other}
use Rattle.lock_index.proofs.numbers.Numbers.remove.Goals as goal

pub returns : goal.returns
returns c = rw (← c.self.view_is) (filter_same _ (is_other c.args.number) _ (λ x b f t. search rules) _ _ c.retain.ensures.filtered)
