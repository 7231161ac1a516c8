use Rattle.std.proofs.Common.{◌≡◌, ap, ◌∙◌, arith, length}
use Rattle.subscript_keys.specs.Decimal.{digits}
use Rattle.subscript_keys.proofs.Fractions.{digits-zero, length-digits, length-digits-step}
use Rattle.global_text.proofs.sub_length.digit_count.Goals as goal

pub overflow_add-count : goal.overflow_add-count
overflow_add-count c = omega (arith, c.loop-rest.invariant, length-digits c.args.number 20 (omega arith))

pub loop-rest-preserved : goal.loop-rest-preserved
loop-rest-preserved c = omega (arith, c.loop-rest.invariant, length-digits-step c.loop-rest.rest (omega arith))

pub returns-clause-value : goal.returns-clause-value
returns-clause-value c =
    let none : c.loop-rest.rest ≡ 0 = omega arith in
    omega (arith, c.loop-rest.invariant, ap length (ap digits none ∙ digits-zero))

pub returns-clause-within : goal.returns-clause-within
returns-clause-within c = omega (arith, c.loop-rest.invariant, length-digits c.args.number 20 (omega arith))
