use Rattle.plain_examples.proofs.AnswerCases.{rolled_back_examples as proof}
use Rattle.plain_examples.proofs.examples.rolled_back_examples.Goals as goal

pub returns : goal.returns
returns c = proof
