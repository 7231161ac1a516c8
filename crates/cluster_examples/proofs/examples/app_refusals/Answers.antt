use Rattle.cluster_examples.proofs.RefusalCases.{app_refusals as proof}
use Rattle.cluster_examples.proofs.examples.app_refusals.Goals as goal

pub returns : goal.returns
returns c = proof
