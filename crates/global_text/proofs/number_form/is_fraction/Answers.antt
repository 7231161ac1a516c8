use Rattle.std.proofs.Common.{◌<◌, length, arith}
use Rattle.std.proofs.lemmas.Bool.{false≢true}
use Rattle.std.proofs.lemmas.Bool.Decides.{nat_tests}
use Rattle.global_text.proofs.NumberTokens.{no-fraction}
use Rattle.global_text.proofs.number_form.is_fraction.Goals as goal

pub returns-then-not-is_empty : goal.returns-then-not-is_empty
returns-then-not-is_empty c =
    let some : 0 < length c.split_digits.result.1.now = grind (arith, nat_tests) in
    (λ t. absurd (false≢true t), λ is. absurd (no-fraction c.args.text.now c.split_digits.result.0.now c.split_digits.result.1.now c.split_digits.ensures.whole c.split_digits.ensures.digits c.split_digits.ensures.rest some is))
