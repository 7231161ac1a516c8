use Rattle.plain_examples.proofs.EndCases.{broke_examples as proof}
use Rattle.plain_examples.proofs.examples.broke_examples.Goals as goal

pub returns : goal.returns
returns c = proof
