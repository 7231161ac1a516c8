use Rattle.data_rules.proofs.FetchRuns.{fetch_finds_run as proof}
use Rattle.data_rules.proofs.laws.a_fetch_finds_its_run.Goals as goal

pub returns : goal.returns
returns c = proof
