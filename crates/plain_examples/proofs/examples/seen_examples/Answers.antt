use Rattle.plain_examples.proofs.ChangeCases.{seen_examples as proof}
use Rattle.plain_examples.proofs.examples.seen_examples.Goals as goal

pub returns : goal.returns
returns c = proof
