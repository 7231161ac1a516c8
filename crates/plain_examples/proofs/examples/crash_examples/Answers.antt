use Rattle.plain_examples.proofs.OrderCases.{crash_examples as proof}
use Rattle.plain_examples.proofs.examples.crash_examples.Goals as goal

pub returns : goal.returns
returns c = proof
