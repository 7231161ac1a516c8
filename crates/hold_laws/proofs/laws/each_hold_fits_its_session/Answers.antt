use Rattle.hold_laws.proofs.HoldFacts.{touched_is_met, answered_is_synced, sent_is_behind_open, given_is_issued}
use Rattle.hold_laws.proofs.laws.each_hold_fits_its_session.Goals as goal

pub returns : goal.returns
returns c = record { met = touched_is_met; synced = answered_is_synced; sent = sent_is_behind_open; before = given_is_issued }
