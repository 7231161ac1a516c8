use Rattle.std.proofs.Common.{rules, arith}
use Rattle.ecp_messages.proofs.FieldsTaken.{no-sought}
use Rattle.ecp_messages.proofs.field_takers.take_sought.Goals as goal

pub returns-then-not-can_be_sought-clause-none : goal.returns-then-not-can_be_sought-clause-none
returns-then-not-can_be_sought-clause-none c = λ _. no-sought c.in_ok-key.key.now c.args.bytes.now c.in_ok-key.rest.now (search rules) (search rules) (λ s. let sought = c.can_be_sought.ensures.1 (s.some, s.below) in grind arith)
