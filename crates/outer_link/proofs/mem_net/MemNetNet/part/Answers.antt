use Rattle.std.proofs.Common.{◌≡◌, ◌∙◌, ap, length, refl, true, subst, sym}
use Rattle.outer_link.specs.Marks.{Marked, marks_of, of_pair, or_cut, parted_with}
use Rattle.outer_link.specs.NetState.{NetState}
use Rattle.outer_link.specs.TableState.{TableState}
use Rattle.outer_link.specs.Told.{after_part, is_parted, with_parted}
use Rattle.outer_link.proofs.ListSteps.{length_changed}
use Rattle.outer_link.proofs.KnownSteps.{marked_part}
use Rattle.outer_link.proofs.mem_net.MemNetNet.part.Goals as goal

pub returns-clause-marks : goal.returns-clause-marks
returns-clause-marks c =
    let now = c.args.self.now in
    let at = ap (λ (x : NetState). x.told) c.self.view_is in
    let e = ap (λ (t : TableState). t.told) c.part.ensures.next ∙ ap (λ t. after_part t c.args.app c.args.server) at in
    subst (λ t. Marked (marks_of now.told) (or_cut (marks_of now.told) (of_pair (marks_of now.told) c.args.app c.args.server)) (parted_with (marks_of now.told) c.args.app c.args.server true) (marks_of t)) (sym e) (marked_part now.told c.args.app c.args.server (subst (λ t. is_parted t c.args.app c.args.server ≡ true) e c.part.ensures.apart))

pub returns-clause-shape : goal.returns-clause-shape
returns-clause-shape c =
    let now = c.args.self.now in
    let at = ap (λ (x : NetState). x.told) c.self.view_is in
    let apps = ap (λ (t : TableState). t.apps) c.part.ensures.next ∙ ap (λ (x : NetState). x.apps) c.self.view_is in
    let servers = ap (λ (t : TableState). length t.told.servers) c.part.ensures.next ∙ ap (λ t. length (after_part t c.args.app c.args.server).servers) at
    ∙ length_changed (with_parted c.args.app true) c.args.server now.told.servers in
    rw (apps, servers) refl
