use Rattle.plain_examples.proofs.FirstRun.{first_run_is_run as proof}
use Rattle.plain_examples.proofs.examples.first_run_is_run.Goals as goal

pub returns : goal.returns
returns c = proof
