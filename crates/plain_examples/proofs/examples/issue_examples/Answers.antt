use Rattle.plain_examples.proofs.JobCases.{issue_examples as proof}
use Rattle.plain_examples.proofs.examples.issue_examples.Goals as goal

pub returns : goal.returns
returns c = proof
