use Rattle.data_examples.proofs.AnswerCases.{sync_examples as proof}
use Rattle.data_examples.proofs.data_examples.sync_examples.Goals as goal

pub returns : goal.returns
returns c = proof
