use Rattle.app_rules.proofs.AloneFrames.{steps_alone as proof}
use Rattle.app_rules.proofs.laws.a_step_reads_one_end.Goals as goal

pub returns : goal.returns
returns c = proof
