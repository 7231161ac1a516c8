use Rattle.cluster_examples.proofs.RefusalCases.{step_refusals as proof}
use Rattle.cluster_examples.proofs.examples.step_refusals.Goals as goal

pub returns : goal.returns
returns c = proof
