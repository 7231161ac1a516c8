use Rattle.app_examples.proofs.JobCases.{lock_examples as proof}
use Rattle.app_examples.proofs.examples.lock_examples.Goals as goal

pub returns : goal.returns
returns c = proof
