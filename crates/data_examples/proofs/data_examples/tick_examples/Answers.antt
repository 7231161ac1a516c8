use Rattle.data_examples.proofs.RoundCases.{tick_examples as proof}
use Rattle.data_examples.proofs.data_examples.tick_examples.Goals as goal

pub returns : goal.returns
returns c = proof
