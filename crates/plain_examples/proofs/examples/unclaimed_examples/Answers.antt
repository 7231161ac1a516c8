use Rattle.plain_examples.proofs.ChangeCases.{unclaimed_examples as proof}
use Rattle.plain_examples.proofs.examples.unclaimed_examples.Goals as goal

pub returns : goal.returns
returns c = proof
