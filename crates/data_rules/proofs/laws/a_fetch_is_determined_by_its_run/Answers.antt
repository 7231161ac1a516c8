use Rattle.data_rules.proofs.Determined.{fetch_is_determined as proof}
use Rattle.data_rules.proofs.laws.a_fetch_is_determined_by_its_run.Goals as goal

pub returns : goal.returns
returns c = proof
