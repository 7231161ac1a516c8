use Rattle.plain_examples.proofs.ChangeCases.{room_examples as proof}
use Rattle.plain_examples.proofs.examples.room_examples.Goals as goal

pub returns : goal.returns
returns c = proof
