use Rattle.plain_examples.proofs.EndCases.{shut_examples as proof}
use Rattle.plain_examples.proofs.examples.shut_examples.Goals as goal

pub returns : goal.returns
returns c = proof
