use Rattle.cluster_runs.proofs.Ticking.{tick_reaches}
use Rattle.cluster_runs.proofs.laws.a_tick_leads_on.Goals as goal

pub returns : goal.returns
returns c = tick_reaches
