use Rattle.plain_runs.proofs.SeenLaw.{seen_is_told as proof}
use Rattle.plain_runs.proofs.laws.what_is_seen_was_told.Goals as goal

pub returns : goal.returns
returns c = proof
