use Rattle.plain_examples.proofs.EndCases.{free_act_examples as proof}
use Rattle.plain_examples.proofs.examples.free_act_examples.Goals as goal

pub returns : goal.returns
returns c = proof
