use Rattle.hold_laws.proofs.HoldRuns.{quits_in_order, turns_are_below, turns_differ, turns_tell}
use Rattle.hold_laws.proofs.laws.no_two_turns_are_the_same.Goals as goal

pub returns : goal.returns
returns c = record { differ = turns_differ; tell = turns_tell; below = turns_are_below; ordered = quits_in_order }
