use Rattle.outer_disk.proofs.Stops.{stop_lasts}
use Rattle.outer_disk.proofs.laws.a_stop_lasts.Goals as goal

pub returns : goal.returns
returns c = stop_lasts
