use Rattle.plain_examples.proofs.LockCases.{give_up_examples as proof}
use Rattle.plain_examples.proofs.examples.give_up_examples.Goals as goal

pub returns : goal.returns
returns c = proof
