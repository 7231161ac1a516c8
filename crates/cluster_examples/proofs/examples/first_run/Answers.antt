use Rattle.cluster_examples.proofs.FirstRunCases.{first_run_is_reached as proof}
use Rattle.cluster_examples.proofs.examples.first_run.Goals as goal

pub returns : goal.returns
returns c = proof
