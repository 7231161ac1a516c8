use Rattle.plain_examples.proofs.JobCases.{level_examples as proof}
use Rattle.plain_examples.proofs.examples.level_examples.Goals as goal

pub returns : goal.returns
returns c = proof
