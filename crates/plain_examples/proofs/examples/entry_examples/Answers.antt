use Rattle.plain_examples.proofs.EntryCases.{entry_examples as proof}
use Rattle.plain_examples.proofs.examples.entry_examples.Goals as goal

pub returns : goal.returns
returns c = proof
