use Rattle.data_examples.proofs.HelloCases.{hello_examples as proof}
use Rattle.data_examples.proofs.data_examples.hello_examples.Goals as goal

pub returns : goal.returns
returns c = proof
