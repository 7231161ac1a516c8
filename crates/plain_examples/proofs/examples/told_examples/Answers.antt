use Rattle.plain_examples.proofs.EndCases.{told_examples as proof}
use Rattle.plain_examples.proofs.examples.told_examples.Goals as goal

pub returns : goal.returns
returns c = proof
