use Rattle.lock_table.proofs.OtherLemmas.{keeps_others}
use Rattle.lock_table.proofs.ShuffleLemmas.{passes_on}
use Rattle.lock_table.proofs.laws.keeps_others.Goals as goal

pub returns : goal.returns
returns c = record { pass = passes_on; counts = keeps_others }
