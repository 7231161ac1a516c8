use Rattle.plain_examples.proofs.JobCases.{too_deep_examples as proof}
use Rattle.plain_examples.proofs.examples.too_deep_examples.Goals as goal

pub returns : goal.returns
returns c = proof
