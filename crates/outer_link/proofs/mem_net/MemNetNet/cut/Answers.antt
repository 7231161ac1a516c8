use Rattle.std.proofs.Common.{◌∙◌, ◌==◌, ap, subst, sym}
use Rattle.outer_link.specs.Marks.{Marked, marks_of, or_cut}
use Rattle.outer_link.specs.NetState.{NetState}
use Rattle.outer_link.specs.TableState.{TableState}
use Rattle.outer_link.specs.Told.{after_cut, is_parted}
use Rattle.outer_link.proofs.KnownSteps.{marked_cut}
use Rattle.outer_link.proofs.mem_net.MemNetNet.cut.Goals as goal

pub returns-clause-marks : goal.returns-clause-marks
returns-clause-marks c =
    let now = c.args.self.now in
    let at = ap (λ (x : NetState). x.told) c.self.view_is in
    let e = ap (λ (t : TableState). t.told) c.cut.ensures ∙ ap (λ t. after_cut t c.args.conn) at in
    subst (λ t. Marked (marks_of now.told) (or_cut (marks_of now.told) (λ n. n == c.args.conn)) (is_parted now.told) (marks_of t)) (sym e) (marked_cut now.told c.args.conn)
