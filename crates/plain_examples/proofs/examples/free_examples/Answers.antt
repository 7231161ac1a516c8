use Rattle.plain_examples.proofs.LockCases.{free_examples as proof}
use Rattle.plain_examples.proofs.examples.free_examples.Goals as goal

pub returns : goal.returns
returns c = proof
