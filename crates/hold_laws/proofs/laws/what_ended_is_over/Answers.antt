use Rattle.hold_laws.proofs.HoldFacts.{released_is_closed}
use Rattle.hold_laws.proofs.HoldRuns.{gone_is_given, gone_is_over}
use Rattle.hold_laws.proofs.laws.what_ended_is_over.Goals as goal

pub returns : goal.returns
returns c = record { released = released_is_closed; given = gone_is_given; gone = gone_is_over }
