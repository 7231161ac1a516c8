use Rattle.cluster_examples.proofs.RefusalCases.{server_refusals as proof}
use Rattle.cluster_examples.proofs.examples.server_refusals.Goals as goal

pub returns : goal.returns
returns c = proof
