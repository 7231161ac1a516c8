use Rattle.plain_examples.proofs.LockCases.{grant_examples as proof}
use Rattle.plain_examples.proofs.examples.grant_examples.Goals as goal

pub returns : goal.returns
returns c = proof
