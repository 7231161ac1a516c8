use Rattle.plain_examples.proofs.EndCases.{mended_examples as proof}
use Rattle.plain_examples.proofs.examples.mended_examples.Goals as goal

pub returns : goal.returns
returns c = proof
