use Rattle.app_examples.proofs.EndCases.{recover_examples as proof}
use Rattle.app_examples.proofs.examples.recover_examples.Goals as goal

pub returns : goal.returns
returns c = proof
