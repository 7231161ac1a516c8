use Rattle.std.proofs.Common.{◌≡◌, Some, ap, sym, ◌∙◌, refl}
use Rattle.ecp_frames.specs.Stream.{fault_in}
use Rattle.ecp_frames.proofs.StreamLemmas.{fault_stays}
use Rattle.ecp_frames.proofs.frames.Frames.feed.Goals as goal

pub returns-in-Some-clause-refused : goal.returns-in-Some-clause-refused
returns-in-Some-clause-refused c = λ _.
    let was : fault_in c.args.self.now ≡ Some c.in-Some.fault = ap fault_in (sym c.self.view_is) ∙ sym c.self.invariant.0 ∙ c.in-Some.is in
    (fault_stays c.args.self.now c.args.piece.now c.in-Some.fault was, rw was refl)
