use Rattle.std.proofs.Common.{arith}
use Rattle.plain_programs.proofs.NumberLemmas.{ten_below, ten_within}
use Rattle.plain_programs.proofs.whole_number.number.Goals as goal

pub overflow_mul-number : goal.overflow_mul-number
overflow_mul-number c = omega (arith, ten_below c.loop-digit.number c.loop-digit.digit-index c.loop-digit.invariant.small (omega arith))

pub overflow_add-number : goal.overflow_add-number
overflow_add-number c = omega (arith, ten_below c.loop-digit.number c.loop-digit.digit-index c.loop-digit.invariant.small (omega arith))

pub returns-clause-small : goal.returns-clause-small
returns-clause-small c = ten_within c.loop-digit.number c.loop-digit.digit-index c.loop-digit.invariant.small (omega arith)
