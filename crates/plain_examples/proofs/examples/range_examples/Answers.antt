use Rattle.plain_examples.proofs.AnswerCases.{range_examples as proof}
use Rattle.plain_examples.proofs.examples.range_examples.Goals as goal

pub returns : goal.returns
returns c = proof
