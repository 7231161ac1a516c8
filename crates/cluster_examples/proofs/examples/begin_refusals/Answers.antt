use Rattle.cluster_examples.proofs.RefusalCases.{begin_refusals as proof}
use Rattle.cluster_examples.proofs.examples.begin_refusals.Goals as goal

pub returns : goal.returns
returns c = proof
