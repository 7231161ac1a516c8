use Rattle.hold_laws.proofs.HoldFacts.{quit_is_met, quit_is_issued}
use Rattle.hold_laws.proofs.laws.each_quit_fits_its_session.Goals as goal

pub returns : goal.returns
returns c = record { met = quit_is_met; before = quit_is_issued }
