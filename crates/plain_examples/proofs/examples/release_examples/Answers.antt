use Rattle.plain_examples.proofs.LockCases.{release_examples as proof}
use Rattle.plain_examples.proofs.examples.release_examples.Goals as goal

pub returns : goal.returns
returns c = proof
