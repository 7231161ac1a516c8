use Rattle.plain_runs.proofs.EpochLaws.{no_later_epoch as proof}
use Rattle.plain_runs.proofs.laws.only_a_later_order_has_a_later_epoch.Goals as goal

pub returns : goal.returns
returns c = proof
