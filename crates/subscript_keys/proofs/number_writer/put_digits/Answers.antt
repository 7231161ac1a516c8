use Rattle.std.proofs.Common.{◌≡◌, ◌-◌, ◌<◌, ◌++◌, ◌∷◌, [], length, drop, replicate, ap, ◌∙◌, arith, rules}
use Rattle.std.specs.Prelude.{unsigned_abs}
use Rattle.std.proofs.lemmas.Int.{ints}
use Rattle.std.proofs.lemmas.Result.{IfOk-equal}
use Rattle.subscript_keys.specs.Decimal.{digits, whole_digits, fraction_digits, digit_text, fraction_text}
use Rattle.subscript_keys.proofs.Fractions.{length-digits-step}
use Rattle.subscript_keys.proofs.NumberForms.{short-above}
use Rattle.subscript_keys.proofs.NumberTexts.{below-point, filled-up, both-sides}
use Rattle.subscript_keys.proofs.number_writer.put_digits.Goals as goal

pub returns-then-number-le0-clause-ok : goal.returns-then-number-le0-clause-ok
returns-then-number-le0-clause-ok c =
    let number = c.args.number.now in
    let old = c.args.to.now.items in
    let places = c.as_slice-digits.result.now in
    let count = c.from-places.result in
    let same : places ≡ digits number.digits = c.as_slice-digits.ensures ∙ c.of-digits.ensures.value in
    let size : count ≡ unsigned_abs number.exponent = search rules in
    let some : 0 < length places = omega (arith, ap length same, length-digits-step number.digits (short-above number c.requires)) in
    IfOk-equal c.put_raised.result _ _ _ c.put_raised.ensures.ok (
    ap (λ t. t ++ digit_text places) (c.in_ok-put_zeros.ensures.ok ∙ ap (λ t. t ++ digit_text (replicate count 0)) c.in_ok-push.ensures.items)
    ∙ below-point number.exponent count places old (omega (arith, ints)) size some
    ∙ ap (λ s. old ++ digit_text (whole_digits s number.exponent) ++ fraction_text (fraction_digits s number.exponent)) same)

pub returns-then-digits-places-clause-ok : goal.returns-then-digits-places-clause-ok
returns-then-digits-places-clause-ok c =
    let number = c.args.number.now in
    let old = c.args.to.now.items in
    let places = c.as_slice-digits.result.now in
    let count = c.from-places.result in
    let same : places ≡ digits number.digits = c.as_slice-digits.ensures ∙ c.of-digits.ensures.value in
    let size : count ≡ unsigned_abs number.exponent = search rules in
    IfOk-equal c.put_zeros-then-digits-places.result _ _ _ c.put_zeros-then-digits-places.ensures.ok (
    ap (λ t. t ++ digit_text (replicate (count - length places) 0)) c.in_ok-put_raised.ensures.ok
    ∙ filled-up number.exponent count places old (omega (arith, ints)) size (omega arith)
    ∙ ap (λ s. old ++ digit_text (whole_digits s number.exponent) ++ fraction_text (fraction_digits s number.exponent)) same)

pub returns-clause-ok : goal.returns-clause-ok
returns-clause-ok c =
    let number = c.args.number.now in
    let old = c.args.to.now.items in
    let places = c.as_slice-digits.result.now in
    let count = c.from-places.result in
    let same : places ≡ digits number.digits = c.as_slice-digits.ensures ∙ c.of-digits.ensures.value in
    let size : count ≡ unsigned_abs number.exponent = search rules in
    IfOk-equal c.put_raised-3.result _ _ _ c.put_raised-3.ensures.ok (
    ap (λ t. c.push-2.new.self.items ++ digit_text t) c.split_at.ensures.back
    ∙ ap (λ t. t ++ digit_text (drop count places)) (c.in_ok-push-2.ensures.items ∙ ap (λ t. t ++ 46 ∷ []) (c.in_ok-put_raised-2.ensures.ok ∙ ap (λ t. old ++ digit_text t) c.split_at.ensures.front))
    ∙ both-sides number.exponent count places old (omega (arith, ints)) size (omega arith)
    ∙ ap (λ s. old ++ digit_text (whole_digits s number.exponent) ++ fraction_text (fraction_digits s number.exponent)) same)
