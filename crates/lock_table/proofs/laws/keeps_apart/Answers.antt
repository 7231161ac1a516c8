use Rattle.lock_table.proofs.ApartLemmas.{keeps_apart}
use Rattle.lock_table.proofs.laws.keeps_apart.Goals as goal

pub returns : goal.returns
returns c = keeps_apart
