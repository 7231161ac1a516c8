use Rattle.plain_examples.proofs.LockCases.{quit_examples as proof}
use Rattle.plain_examples.proofs.examples.quit_examples.Goals as goal

pub returns : goal.returns
returns c = proof
