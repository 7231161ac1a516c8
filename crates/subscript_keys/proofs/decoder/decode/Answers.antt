use Rattle.std.proofs.Common.{sym, ◌∙◌}
use Rattle.subscript_keys.proofs.Ties.{one-node}
use Rattle.subscript_keys.proofs.decoder.decode.Goals as goal

pub returns-in-Ok-Some-clause-again : goal.returns-in-Ok-Some-clause-again
returns-in-Ok-Some-clause-again c = λ node p e.
    let read = rw c.in-Ok-Some.field-0-is at c.in-Ok-Some.ensures.some in
    one-node c.in-Ok-Some.node node read.0 p (read.1 ∙ sym e)
