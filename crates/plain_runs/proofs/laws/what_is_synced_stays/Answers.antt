use Rattle.plain_runs.proofs.OrderLaws.{synced_stays as proof}
use Rattle.plain_runs.proofs.laws.what_is_synced_stays.Goals as goal

pub returns : goal.returns
returns c = proof
