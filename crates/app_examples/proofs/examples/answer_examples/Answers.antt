use Rattle.app_examples.proofs.JobCases.{answer_examples as proof}
use Rattle.app_examples.proofs.examples.answer_examples.Goals as goal

pub returns : goal.returns
returns c = proof
