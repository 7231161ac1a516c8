use Rattle.fronts_kept.proofs.FrontsMoves.{fronts_stay}
use Rattle.fronts_kept.proofs.laws.fronts_are_kept.Goals as goal

pub returns : goal.returns
returns c = fronts_stay
