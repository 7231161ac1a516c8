use Rattle.app_examples.proofs.JobCases.{get_examples as proof}
use Rattle.app_examples.proofs.examples.get_examples.Goals as goal

pub returns : goal.returns
returns c = proof
