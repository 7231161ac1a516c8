use Rattle.plain_examples.proofs.AnswerCases.{not_whole_examples as proof}
use Rattle.plain_examples.proofs.examples.not_whole_examples.Goals as goal

pub returns : goal.returns
returns c = proof
