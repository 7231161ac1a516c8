use Rattle.data_examples.proofs.AnswerCases.{end_examples as proof}
use Rattle.data_examples.proofs.data_examples.end_examples.Goals as goal

pub returns : goal.returns
returns c = proof
