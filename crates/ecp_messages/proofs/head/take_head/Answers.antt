use Rattle.std.proofs.Common.{rules, arith}
use Rattle.ecp_messages.proofs.Frames.{number-ahead, ack-ahead, kind-ahead, head-stands}
use Rattle.ecp_messages.proofs.head.take_head.Goals as goal

pub returns-in_err-seq-clause-none : goal.returns-in_err-seq-clause-none
returns-in_err-seq-clause-none c = absurd (number-ahead c.args.body.now (λ i. omega (arith, c.type_inv.body i)) (omega arith) (search rules))

pub returns-in_err-ack-clause-none : goal.returns-in_err-ack-clause-none
returns-in_err-ack-clause-none c = absurd (ack-ahead c.in_ok-seq.seq c.args.body.now c.in_ok-seq.rest.now (λ i. omega (arith, c.type_inv.body i)) (omega arith) (search rules) (search rules))

pub returns-in_err-kind-clause-none : goal.returns-in_err-kind-clause-none
returns-in_err-kind-clause-none c = absurd (kind-ahead c.in_ok-seq.seq c.in_ok-ack.ack c.args.body.now c.in_ok-seq.rest.now c.in_ok-ack.rest.now (λ i. omega (arith, c.type_inv.body i)) (omega arith) (search rules) (search rules) (search rules))

pub returns-clause-some : goal.returns-clause-some
returns-clause-some c = head-stands c.in_ok-seq.seq c.in_ok-ack.ack c.in_ok-kind.kind c.args.body.now c.in_ok-seq.rest.now c.in_ok-ack.rest.now c.in_ok-kind.rest.now (search rules) (search rules) (search rules)
