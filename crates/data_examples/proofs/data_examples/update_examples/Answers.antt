use Rattle.data_examples.proofs.ItemCases.{update_examples as proof}
use Rattle.data_examples.proofs.data_examples.update_examples.Goals as goal

pub returns : goal.returns
returns c = proof
