use Rattle.data_examples.proofs.RoundCases.{round_examples as proof}
use Rattle.data_examples.proofs.data_examples.round_examples.Goals as goal

pub returns : goal.returns
returns c = proof
