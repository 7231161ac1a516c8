use Rattle.cluster_runs.proofs.Quieted.{quiet_leaves as proof}
use Rattle.cluster_runs.proofs.laws.quiet_leaves_what_stays.Goals as goal

pub returns : goal.returns
returns c = proof
