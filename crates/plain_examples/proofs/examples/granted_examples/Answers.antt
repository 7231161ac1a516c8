use Rattle.plain_examples.proofs.LockCases.{granted_examples as proof}
use Rattle.plain_examples.proofs.examples.granted_examples.Goals as goal

pub returns : goal.returns
returns c = proof
