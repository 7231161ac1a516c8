use Rattle.trail_laws.proofs.Handover.{handover, grant_stays as stays, grant_is_told as told}
use Rattle.trail_laws.proofs.HeldRuns.{hold_is_seen as seen}
use Rattle.trail_laws.proofs.laws.law_handover.Goals as goal

pub returns : goal.returns
returns c = record { handover = handover; stays = stays; told = told; seen = seen }
