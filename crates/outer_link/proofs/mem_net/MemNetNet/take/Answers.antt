use Rattle.std.proofs.Common.{◌∙◌, ap, subst}
use Rattle.outer_link.specs.Net.{TookAs}
use Rattle.outer_link.specs.NetState.{NetState}
use Rattle.outer_link.proofs.KnownSteps.{keeps_took}
use Rattle.outer_link.proofs.mem_net.MemNetNet.take.Goals as goal

pub returns-else-eq-clause-marks : goal.returns-else-eq-clause-marks
returns-else-eq-clause-marks c =
    let now = c.args.self.now in
    let at = ap (λ (x : NetState). x.told) c.self.view_is ∙ ap (λ (x : NetState). x.told) c.if-fails.ensures.next in
    keeps_took now.told c.take-took.new.self.told c.args.conn c.args.end c.take-took.new.buf c.take-took.result
    (subst (λ t. TookAs t c.take-took.new.self.told c.args.conn c.args.end c.take-took.new.buf c.take-took.result) at c.take-took.ensures.told)
