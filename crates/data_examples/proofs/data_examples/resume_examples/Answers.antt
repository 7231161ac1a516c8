use Rattle.data_examples.proofs.ResumeCases.{resume_examples as proof}
use Rattle.data_examples.proofs.data_examples.resume_examples.Goals as goal

pub returns : goal.returns
returns c = proof
