use Rattle.plain_examples.proofs.AnswerCases.{reached_examples as proof}
use Rattle.plain_examples.proofs.examples.reached_examples.Goals as goal

pub returns : goal.returns
returns c = proof
