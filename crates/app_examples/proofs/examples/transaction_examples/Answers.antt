use Rattle.app_examples.proofs.JobCases.{transaction_examples as proof}
use Rattle.app_examples.proofs.examples.transaction_examples.Goals as goal

pub returns : goal.returns
returns c = proof
