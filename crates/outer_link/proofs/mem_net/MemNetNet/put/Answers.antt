use Rattle.std.proofs.Common.{◌∙◌, ap, subst, sym}
use Rattle.outer_link.specs.Marks.{Keeps, marks_of}
use Rattle.outer_link.specs.NetState.{NetState}
use Rattle.outer_link.specs.TableState.{TableState}
use Rattle.outer_link.specs.Told.{after_put}
use Rattle.outer_link.proofs.KnownSteps.{keeps_put}
use Rattle.outer_link.proofs.TableSteps.{put_none}
use Rattle.outer_link.proofs.mem_net.MemNetNet.put.Goals as goal

pub returns-then-fails-clause-told : goal.returns-then-fails-clause-told
returns-then-fails-clause-told c =
    let now = c.args.self.now in
    (0, ap (λ (x : NetState). x.told) c.if-fails.ensures.next ∙ sym (put_none now.told c.args.conn c.args.end))

pub returns-in_default-clause-told : goal.returns-in_default-clause-told
returns-in_default-clause-told c =
    let now = c.args.self.now in
    let at = ap (λ (x : NetState). x.told) c.self.view_is ∙ ap (λ (x : NetState). x.told) c.if-fails.ensures.next in
    (0, ap (λ (t : TableState). t.told) c.in_default.ensures.err ∙ at ∙ sym (put_none now.told c.args.conn c.args.end))

pub returns-clause-marks : goal.returns-clause-marks
returns-clause-marks c =
    let now = c.args.self.now in
    let at = ap (λ (x : NetState). x.told) c.self.view_is ∙ ap (λ (x : NetState). x.told) c.if-fails.ensures.next in
    let e = ap (λ (t : TableState). t.told) c.in-Ok.ensures.ok ∙ ap (λ t. after_put t c.args.conn c.args.end c.args.part.now) at in
    subst (λ t. Keeps (marks_of now.told) (marks_of t)) (sym e) (keeps_put now.told c.args.conn c.args.end c.args.part.now)
