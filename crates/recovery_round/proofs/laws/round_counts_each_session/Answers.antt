use Rattle.recovery_round.proofs.RoundLaws.{counts_each}
use Rattle.recovery_round.proofs.laws.round_counts_each_session.Goals as goal

pub returns : goal.returns
returns c = counts_each
