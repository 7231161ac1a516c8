use Rattle.plain_runs.proofs.LockLaws.{settled as proof}
use Rattle.plain_runs.proofs.laws.what_no_longer_binds_is_handed_over.Goals as goal

pub returns : goal.returns
returns c = proof
