use Rattle.data_examples.proofs.AnswerCases.{add_examples as proof}
use Rattle.data_examples.proofs.data_examples.add_examples.Goals as goal

pub returns : goal.returns
returns c = proof
