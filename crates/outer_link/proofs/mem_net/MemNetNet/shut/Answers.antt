use Rattle.std.proofs.Common.{◌∙◌, ap, length, refl, false, subst, sym}
use Rattle.outer_link.specs.Marks.{Marked, marks_of, of_server, or_cut}
use Rattle.outer_link.specs.NetState.{NetState}
use Rattle.outer_link.specs.TableState.{TableState}
use Rattle.outer_link.specs.Told.{after_shut, is_parted, with_listening}
use Rattle.outer_link.proofs.ListSteps.{length_changed}
use Rattle.outer_link.proofs.KnownSteps.{marked_shut}
use Rattle.outer_link.proofs.mem_net.MemNetNet.shut.Goals as goal

pub returns-clause-marks : goal.returns-clause-marks
returns-clause-marks c =
    let now = c.args.self.now in
    let at = ap (λ (x : NetState). x.told) c.self.view_is in
    let e = ap (λ (t : TableState). t.told) c.shut.ensures ∙ ap (λ t. after_shut t c.args.server) at in
    subst (λ t. Marked (marks_of now.told) (or_cut (marks_of now.told) (of_server (marks_of now.told) c.args.server)) (is_parted now.told) (marks_of t)) (sym e) (marked_shut now.told c.args.server)

pub returns-clause-shape : goal.returns-clause-shape
returns-clause-shape c =
    let now = c.args.self.now in
    let at = ap (λ (x : NetState). x.told) c.self.view_is in
    let apps = ap (λ (t : TableState). t.apps) c.shut.ensures ∙ ap (λ (x : NetState). x.apps) c.self.view_is in
    let servers = ap (λ (t : TableState). length t.told.servers) c.shut.ensures ∙ ap (λ t. length (after_shut t c.args.server).servers) at
    ∙ length_changed (with_listening false) c.args.server now.told.servers in
    rw (apps, servers) refl
