use Rattle.app_examples.proofs.EndCases.{epoch_examples as proof}
use Rattle.app_examples.proofs.examples.epoch_examples.Goals as goal

pub returns : goal.returns
returns c = proof
