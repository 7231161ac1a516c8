use Rattle.plain_examples.proofs.OrderCases.{enter_examples as proof}
use Rattle.plain_examples.proofs.examples.enter_examples.Goals as goal

pub returns : goal.returns
returns c = proof
