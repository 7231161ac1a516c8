use Rattle.cluster_holds.proofs.EachMove.{holds_stays}
use Rattle.cluster_holds.proofs.EachState.{holds_where_reached}
use Rattle.cluster_holds.proofs.laws.the_invariant_holds_in_each_state.Goals as goal

pub returns-clause-moves : goal.returns-clause-moves
returns-clause-moves c = holds_stays

pub returns-clause-reached : goal.returns-clause-reached
returns-clause-reached c = holds_where_reached
