use Rattle.plain_examples.proofs.OrderCases.{back_examples as proof}
use Rattle.plain_examples.proofs.examples.back_examples.Goals as goal

pub returns : goal.returns
returns c = proof
