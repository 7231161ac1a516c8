use Rattle.hold_laws.proofs.HoldExamples.{hold_example as proof}
use Rattle.hold_laws.proofs.examples.the_laws_speak_of_holds.Goals as goal

pub returns : goal.returns
returns c = proof
