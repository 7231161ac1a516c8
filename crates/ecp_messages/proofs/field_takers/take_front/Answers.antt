use Rattle.std.proofs.Common.{rules, arith}
use Rattle.ecp_messages.proofs.FieldsTaken.{no-front, front-stands}
use Rattle.ecp_messages.proofs.Taken.{missing}
use Rattle.ecp_messages.proofs.field_takers.take_front.Goals as goal

pub returns-in_err-n-clause-none : goal.returns-in_err-n-clause-none
returns-in_err-n-clause-none c = rw c.from_residual.ensures (no-front c.args.bytes.now (grind (arith, missing)))

pub returns-in_err-w-clause-none : goal.returns-in_err-w-clause-none
returns-in_err-w-clause-none c = rw c.from_residual-in_err-w.ensures (no-front c.args.bytes.now (grind (arith, missing)))

pub returns-in_err-s-clause-none : goal.returns-in_err-s-clause-none
returns-in_err-s-clause-none c = rw c.from_residual-in_err-s.ensures (no-front c.args.bytes.now (grind (arith, missing)))

pub returns-clause-some : goal.returns-clause-some
returns-clause-some c = front-stands _ c.args.bytes.now c.in_ok-n.rest.now c.in_ok-w.rest.now c.in_ok-s.rest.now (search rules) (search rules) (search rules)
