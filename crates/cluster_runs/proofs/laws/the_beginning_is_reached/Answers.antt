use Rattle.cluster_runs.proofs.Beginning.{begin_is_reached}
use Rattle.cluster_runs.proofs.laws.the_beginning_is_reached.Goals as goal

pub returns : goal.returns
returns c = begin_is_reached
