use Rattle.plain_examples.proofs.OrderCases.{synced_examples as proof}
use Rattle.plain_examples.proofs.examples.synced_examples.Goals as goal

pub returns : goal.returns
returns c = proof
