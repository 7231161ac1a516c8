use Rattle.std.proofs.Common.{rules, arith}
use Rattle.field_bytes.proofs.NumberFields.{u16_stands}
use Rattle.field_bytes.proofs.number_fields.take_u16.Goals as goal

pub returns-clause-some : goal.returns-clause-some
returns-clause-some c = u16_stands c.args.bytes.now c.in_ok-front.front.now c.in_ok-front.rest.now c.from_be_bytes.result (λ i. omega (arith, c.type_inv.bytes i)) (search rules) (search rules) (search rules) (search rules)
