use Rattle.data_examples.proofs.ResumeCases.{gone_examples as proof}
use Rattle.data_examples.proofs.data_examples.gone_examples.Goals as goal

pub returns : goal.returns
returns c = proof
