use Rattle.windows_kept.proofs.WindowsMoves.{windows_stay}
use Rattle.windows_kept.proofs.laws.windows_are_kept.Goals as goal

pub returns : goal.returns
returns c = windows_stay
