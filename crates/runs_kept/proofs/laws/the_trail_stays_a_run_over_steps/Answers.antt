use Rattle.runs_kept.proofs.RunSteps.{run_kept_by_server}
use Rattle.runs_kept.proofs.laws.the_trail_stays_a_run_over_steps.Goals as goal

pub returns : goal.returns
returns c = run_kept_by_server
