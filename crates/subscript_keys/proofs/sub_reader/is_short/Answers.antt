use Rattle.std.proofs.Common.{◌≡◌, length, ap, ◌∙◌, arith, refl}
use Rattle.std.proofs.lemmas.Int.{ints}
use Rattle.subscript_keys.specs.Decimal.{digits}
use Rattle.subscript_keys.proofs.Shortness.{InLimits, short_is}
use Rattle.subscript_keys.proofs.sub_reader.is_short.Goals as goal

pub returns : goal.returns
returns c =
    let same : length c.as_slice-count.result.now ≡ length (digits c.args.number.now.digits) = ap length (c.as_slice-count.ensures ∙ c.of.ensures.value) in
    let limits : InLimits c.args.number.now.exponent (digits c.args.number.now.digits) = record { count = omega arith; high = omega (arith, ints); low = omega (arith, ints) } in
    (λ _. short_is c.args.number.now c.if-number-eq0.false limits, λ _. refl)
