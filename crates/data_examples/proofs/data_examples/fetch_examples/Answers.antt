use Rattle.data_examples.proofs.ItemCases.{fetch_examples as proof}
use Rattle.data_examples.proofs.data_examples.fetch_examples.Goals as goal

pub returns : goal.returns
returns c = proof
