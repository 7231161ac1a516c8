use Rattle.plain_examples.proofs.AnswerCases.{committed_examples as proof}
use Rattle.plain_examples.proofs.examples.committed_examples.Goals as goal

pub returns : goal.returns
returns c = proof
