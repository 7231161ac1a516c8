use Rattle.plain_runs.proofs.Clashes.{no_conflict as proof}
use Rattle.plain_runs.proofs.laws.no_two_holds_conflict.Goals as goal

pub returns : goal.returns
returns c = proof
