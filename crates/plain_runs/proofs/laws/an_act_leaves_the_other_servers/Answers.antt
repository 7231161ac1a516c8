use Rattle.plain_runs.proofs.Frame.{framed as proof}
use Rattle.plain_runs.proofs.laws.an_act_leaves_the_other_servers.Goals as goal

pub returns : goal.returns
returns c = proof
