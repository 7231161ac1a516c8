use Rattle.std.proofs.Common.{rules}
use Rattle.std.proofs.lemmas.Fn.{filter_same}
use Rattle.lock_index.specs.IndexWords.{has_row}
use Rattle.lock_index.proofs.numbers.Numbers.keep_rows.Goals as goal

pub returns : goal.returns
returns g c = rw (← c.self.view_is) (filter_same _ (has_row c.args.rows.now.entries) _ (λ x b f t. search rules) _ _ c.retain.ensures.filtered)
