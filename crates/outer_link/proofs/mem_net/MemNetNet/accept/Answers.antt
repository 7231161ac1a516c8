use Rattle.std.proofs.Common.{◌≡◌, ◌∙◌, ap, false, subst, sym}
use Rattle.std.specs.Prelude.{position}
use Rattle.outer_link.specs.Marks.{IsAccepted, Keeps, marks_of}
use Rattle.outer_link.specs.NetState.{NetState}
use Rattle.outer_link.specs.Told.{Told, after_accept, is_cut_at, is_waiting}
use Rattle.outer_link.proofs.KnownSteps.{accepted_uncut, is_accepted, keeps_accept}
use Rattle.outer_link.proofs.mem_net.MemNetNet.accept.Goals as goal

pub returns-in-Some-clause-new_number : goal.returns-in-Some-clause-new_number
returns-in-Some-clause-new_number c =
    let now = c.args.self.now in
    let at = ap (λ (x : NetState). x.told) c.self.view_is ∙ ap (λ (x : NetState). x.told) c.if-fails.ensures.next in
    let first = ap (λ (t : Told). position (is_waiting c.args.server) t.conns) (sym at) ∙ c.in-Some.ensures.told.0 in
    let e = c.in-Some.ensures.told.1 ∙ ap (λ t. after_accept t c.in-Some.number) at in
    subst (λ t. IsAccepted (marks_of now.told) (marks_of t) c.args.server c.in-Some.number) (sym e) (is_accepted now.told c.args.server c.in-Some.number first)

pub returns-in-Some-clause-uncut : goal.returns-in-Some-clause-uncut
returns-in-Some-clause-uncut c =
    let now = c.args.self.now in
    let at = ap (λ (x : NetState). x.told) c.self.view_is ∙ ap (λ (x : NetState). x.told) c.if-fails.ensures.next in
    let first = ap (λ (t : Told). position (is_waiting c.args.server) t.conns) (sym at) ∙ c.in-Some.ensures.told.0 in
    let e = c.in-Some.ensures.told.1 ∙ ap (λ t. after_accept t c.in-Some.number) at in
    subst (λ t. is_cut_at t c.in-Some.number ≡ false) (sym e) (accepted_uncut now.told c.args.server c.in-Some.number first)

pub returns-in-Some-clause-marks : goal.returns-in-Some-clause-marks
returns-in-Some-clause-marks c =
    let now = c.args.self.now in
    let at = ap (λ (x : NetState). x.told) c.self.view_is ∙ ap (λ (x : NetState). x.told) c.if-fails.ensures.next in
    let first = ap (λ (t : Told). position (is_waiting c.args.server) t.conns) (sym at) ∙ c.in-Some.ensures.told.0 in
    let e = c.in-Some.ensures.told.1 ∙ ap (λ t. after_accept t c.in-Some.number) at in
    subst (λ t. Keeps (marks_of now.told) (marks_of t)) (sym e) (keeps_accept now.told c.in-Some.number)
