use Rattle.plain_examples.proofs.EndCases.{met_examples as proof}
use Rattle.plain_examples.proofs.examples.met_examples.Goals as goal

pub returns : goal.returns
returns c = proof
