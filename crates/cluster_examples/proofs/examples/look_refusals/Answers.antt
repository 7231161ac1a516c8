use Rattle.cluster_examples.proofs.RefusalCases.{look_refusals as proof}
use Rattle.cluster_examples.proofs.examples.look_refusals.Goals as goal

pub returns : goal.returns
returns c = proof
