use Rattle.std.proofs.Common.{◌∙◌, ap, length, refl, false, subst, sym}
use Rattle.outer_link.specs.Marks.{Marked, marks_of, parted_with}
use Rattle.outer_link.specs.NetState.{NetState}
use Rattle.outer_link.specs.TableState.{TableState}
use Rattle.outer_link.specs.Told.{after_join, is_cut_at, with_parted}
use Rattle.outer_link.proofs.ListSteps.{length_changed}
use Rattle.outer_link.proofs.KnownSteps.{marked_join}
use Rattle.outer_link.proofs.mem_net.MemNetNet.join.Goals as goal

pub returns-clause-marks : goal.returns-clause-marks
returns-clause-marks c =
    let now = c.args.self.now in
    let at = ap (λ (x : NetState). x.told) c.self.view_is in
    let e = ap (λ (t : TableState). t.told) c.join.ensures ∙ ap (λ t. after_join t c.args.app c.args.server) at in
    subst (λ t. Marked (marks_of now.told) (is_cut_at now.told) (parted_with (marks_of now.told) c.args.app c.args.server false) (marks_of t)) (sym e) (marked_join now.told c.args.app c.args.server)

pub returns-clause-shape : goal.returns-clause-shape
returns-clause-shape c =
    let now = c.args.self.now in
    let at = ap (λ (x : NetState). x.told) c.self.view_is in
    let apps = ap (λ (t : TableState). t.apps) c.join.ensures ∙ ap (λ (x : NetState). x.apps) c.self.view_is in
    let servers = ap (λ (t : TableState). length t.told.servers) c.join.ensures ∙ ap (λ t. length (after_join t c.args.app c.args.server).servers) at
    ∙ length_changed (with_parted c.args.app false) c.args.server now.told.servers in
    rw (apps, servers) refl
