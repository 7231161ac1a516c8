use Rattle.plain_examples.proofs.EndCases.{lose_examples as proof}
use Rattle.plain_examples.proofs.examples.lose_examples.Goals as goal

pub returns : goal.returns
returns c = proof
