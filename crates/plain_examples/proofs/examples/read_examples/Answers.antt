use Rattle.plain_examples.proofs.JobCases.{read_examples as proof}
use Rattle.plain_examples.proofs.examples.read_examples.Goals as goal

pub returns : goal.returns
returns c = proof
