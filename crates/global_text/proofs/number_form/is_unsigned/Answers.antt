use Rattle.std.proofs.Common.{rules}
use Rattle.std.specs.Prelude.{◌==◌}
use Rattle.std.proofs.lemmas.Bool.{false≢true, iff_false, eqb-true}
use Rattle.global_text.specs.Numbers.{BeginsOtherwise}
use Rattle.global_text.proofs.NumberTokens.{at-point, at-other, unsigned-parts}
use Rattle.global_text.proofs.number_form.is_unsigned.Goals as goal

pub returns-then-not-begins_above_zero : goal.returns-then-not-begins_above_zero
returns-then-not-begins_above_zero c =
    (λ t. absurd (false≢true t), λ is. absurd (iff_false c.begins_above_zero.ensures c.if-not-begins_above_zero.true (unsigned-parts c.args.text.now c.split_digits.result.0.now c.split_digits.result.1.now c.split_digits.ensures.whole c.split_digits.ensures.digits c.split_digits.ensures.rest is).whole.first))

pub returns-then-point-eq46 : goal.returns-then-point-eq46
returns-then-point-eq46 c =
    let first : BeginsOtherwise (λ d. d == 48) c.split_digits.result.0.now = c.begins_above_zero.ensures.0 (search rules) in
    at-point c.args.text.now c.split_digits.result.0.now c.split_digits.result.1.now c.in-Some.fraction.now c.in-Some.point.now c.is_fraction.result c.split_digits.ensures.whole c.split_digits.ensures.digits c.split_digits.ensures.rest first (search rules) (search rules) c.is_fraction.ensures

pub returns-else-point-eq46 : goal.returns-else-point-eq46
returns-else-point-eq46 c =
    (λ t. absurd (c.if-point-eq46.false (eqb-true c.in-Some.point.now 46 t)), λ is. absurd (at-other c.args.text.now c.split_digits.result.0.now c.split_digits.result.1.now c.in-Some.fraction.now c.in-Some.point.now c.split_digits.ensures.whole c.split_digits.ensures.digits c.split_digits.ensures.rest (search rules) c.if-point-eq46.false is))
