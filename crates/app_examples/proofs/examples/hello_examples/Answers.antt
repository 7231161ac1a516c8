use Rattle.app_examples.proofs.EndCases.{hello_examples as proof}
use Rattle.app_examples.proofs.examples.hello_examples.Goals as goal

pub returns : goal.returns
returns c = proof
