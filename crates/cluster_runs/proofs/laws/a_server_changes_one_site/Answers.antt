use Rattle.cluster_runs.proofs.OneSite.{step_changes_one, begin_changes_one, halt_changes_one}
use Rattle.cluster_runs.proofs.laws.a_server_changes_one_site.Goals as goal

pub returns-clause-step : goal.returns-clause-step
returns-clause-step c = step_changes_one

pub returns-clause-begin : goal.returns-clause-begin
returns-clause-begin c = begin_changes_one

pub returns-clause-halt : goal.returns-clause-halt
returns-clause-halt c = halt_changes_one
