use Rattle.plain_examples.proofs.JobCases.{done_examples as proof}
use Rattle.plain_examples.proofs.examples.done_examples.Goals as goal

pub returns : goal.returns
returns c = proof
