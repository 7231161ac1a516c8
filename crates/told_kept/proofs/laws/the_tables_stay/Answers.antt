use Rattle.told_kept.proofs.TablesAll.{tables_are_kept}
use Rattle.told_kept.proofs.laws.the_tables_stay.Goals as goal

pub returns : goal.returns
returns c = tables_are_kept
