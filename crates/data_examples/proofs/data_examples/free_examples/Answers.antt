use Rattle.data_examples.proofs.LockCases.{free_examples as proof}
use Rattle.data_examples.proofs.data_examples.free_examples.Goals as goal

pub returns : goal.returns
returns c = proof
