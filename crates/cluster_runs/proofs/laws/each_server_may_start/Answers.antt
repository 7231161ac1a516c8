use Rattle.cluster_runs.proofs.Beginning.{each_may_start, none_steps_first, none_halts_first}
use Rattle.cluster_runs.proofs.laws.each_server_may_start.Goals as goal

pub returns-clause-may : goal.returns-clause-may
returns-clause-may c = each_may_start

pub returns-clause-no_step : goal.returns-clause-no_step
returns-clause-no_step c = none_steps_first

pub returns-clause-no_halt : goal.returns-clause-no_halt
returns-clause-no_halt c = none_halts_first
