use Rattle.plain_examples.proofs.AnswerCases.{counted_examples as proof}
use Rattle.plain_examples.proofs.examples.counted_examples.Goals as goal

pub returns : goal.returns
returns c = proof
