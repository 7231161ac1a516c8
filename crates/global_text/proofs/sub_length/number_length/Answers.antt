use Rattle.std.proofs.Common.{arith, sym}
use Rattle.global_text.proofs.KeyLengths.{number-length, zero-length}
use Rattle.global_text.proofs.sub_length.number_length.Goals as goal

pub returns-then-number-eq0-clause-value : goal.returns-then-number-eq0-clause-value
returns-then-number-eq0-clause-value c = sym (zero-length c.args.number.now c.if-number-eq0.true)

pub returns-clause-value : goal.returns-clause-value
returns-clause-value c = omega (arith, c.digit_count.ensures.value, number-length c.args.number.now c.if-number-eq0.false)
