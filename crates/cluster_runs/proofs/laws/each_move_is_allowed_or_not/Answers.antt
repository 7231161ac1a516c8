use Rattle.cluster_runs.proofs.Deciding.{each_is_decided}
use Rattle.cluster_runs.proofs.laws.each_move_is_allowed_or_not.Goals as goal

-- src/laws.rt:34:1
pub returns : goal.returns
returns c = each_is_decided
