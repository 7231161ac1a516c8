use Rattle.plain_runs.proofs.Issued.{items_were_issued as proof}
use Rattle.plain_runs.proofs.laws.items_stand_as_they_were_issued.Goals as goal

pub returns : goal.returns
returns c = proof
