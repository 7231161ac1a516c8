use Rattle.plain_examples.proofs.JobCases.{refused_examples as proof}
use Rattle.plain_examples.proofs.examples.refused_examples.Goals as goal

pub returns : goal.returns
returns c = proof
