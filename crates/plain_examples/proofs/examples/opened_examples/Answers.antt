use Rattle.plain_examples.proofs.OrderCases.{opened_examples as proof}
use Rattle.plain_examples.proofs.examples.opened_examples.Goals as goal

pub returns : goal.returns
returns c = proof
