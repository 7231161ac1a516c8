use Rattle.std.proofs.Common.{◌∙◌, ap, length, refl, true, subst, sym}
use Rattle.outer_link.specs.Marks.{Keeps, marks_of}
use Rattle.outer_link.specs.NetState.{NetState}
use Rattle.outer_link.specs.TableState.{TableState}
use Rattle.outer_link.specs.Told.{after_listen, with_listening}
use Rattle.outer_link.proofs.ListSteps.{length_changed}
use Rattle.outer_link.proofs.KnownSteps.{keeps_listen}
use Rattle.outer_link.proofs.mem_net.MemNetNet.listen.Goals as goal

pub returns-clause-marks : goal.returns-clause-marks
returns-clause-marks c =
    let now = c.args.self.now in
    let at = ap (λ (x : NetState). x.told) c.self.view_is ∙ ap (λ (x : NetState). x.told) c.if-fails.ensures.next in
    let e = ap (λ (t : TableState). t.told) c.listen.ensures ∙ ap (λ t. after_listen t c.args.server) at in
    subst (λ t. Keeps (marks_of now.told) (marks_of t)) (sym e) (keeps_listen now.told c.args.server)

pub returns-clause-shape : goal.returns-clause-shape
returns-clause-shape c =
    let now = c.args.self.now in
    let at = ap (λ (x : NetState). x.told) c.self.view_is ∙ ap (λ (x : NetState). x.told) c.if-fails.ensures.next in
    let apps = ap (λ (t : TableState). t.apps) c.listen.ensures ∙ ap (λ (x : NetState). x.apps) c.self.view_is ∙ ap (λ (x : NetState). x.apps) c.if-fails.ensures.next in
    let servers = ap (λ (t : TableState). length t.told.servers) c.listen.ensures ∙ ap (λ t. length (after_listen t c.args.server).servers) at
    ∙ length_changed (with_listening true) c.args.server now.told.servers in
    rw (apps, servers) refl
