use Rattle.plain_runs.proofs.Frame.{seen_never_falls as proof}
use Rattle.plain_runs.proofs.laws.what_is_seen_never_falls.Goals as goal

pub returns : goal.returns
returns c = proof
