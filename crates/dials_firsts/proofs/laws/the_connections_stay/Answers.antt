use Rattle.dials_firsts.proofs.DialsMoves.{dials_stay}
use Rattle.dials_firsts.proofs.laws.the_connections_stay.Goals as goal

pub returns : goal.returns
returns c = dials_stay
