use Rattle.data_examples.proofs.LockCases.{ask_examples as proof}
use Rattle.data_examples.proofs.data_examples.ask_examples.Goals as goal

pub returns : goal.returns
returns c = proof
