use Rattle.std.proofs.Common.{◌≡◌, length, refl, sym, ap, subst, ◌∙◌, arith}
use Rattle.std.proofs.lemmas.Int.{ints}
use Rattle.std.proofs.lemmas.Bool.{iff_false}
use Rattle.subscript_keys.specs.Decimal.{digits, IsShort}
use Rattle.subscript_keys.proofs.PlaceReads.{negative-range, negative-same, negative-is, negative-count}
use Rattle.subscript_keys.proofs.sub_reader.negative_number.Goals as goal

pub returns-then-places-gt-DIGIT_LIMIT-clause-none : goal.returns-then-places-gt-DIGIT_LIMIT-clause-none
returns-then-places-gt-DIGIT_LIMIT-clause-none c = λ number p. absurd (omega (arith, negative-range number c.args.exponent c.args.places.now p))

pub returns-then-exponent-lt46-clause-none : goal.returns-then-exponent-lt46-clause-none
returns-then-exponent-lt46-clause-none c = λ number p. absurd (omega (arith, negative-range number c.args.exponent c.args.places.now p))

pub returns-then-exponent-gt81-clause-none : goal.returns-then-exponent-gt81-clause-none
returns-then-exponent-gt81-clause-none c = λ number p. absurd (omega (arith, negative-range number c.args.exponent c.args.places.now p))

pub returns-then-not-is_short-clause-none : goal.returns-then-not-is_short-clause-none
returns-then-not-is_short-clause-none c = λ number p.
    iff_false c.is_short.ensures c.if-not-is_short.true (subst IsShort (negative-same number _ c.args.exponent c.args.places.now p refl (omega (arith, ints)) c.lowered_value.ensures) p.short)

pub returns-then-as_slice-places-clause-none : goal.returns-then-as_slice-places-clause-none
returns-then-as_slice-places-clause-none c = λ number p.
    let count : length (digits c.lowered_value.result) ≡ length c.args.places.now = negative-count number c.lowered_value.result c.args.exponent c.args.places.now p c.lowered_value.ensures in
    absurd (c.if-as_slice-places.true (ap length (c.as_slice.ensures ∙ c.of.ensures.value) ∙ count))

pub returns-clause-some : goal.returns-clause-some
returns-clause-some c =
    let count : length (digits c.lowered_value.result) ≡ length c.args.places.now = sym (ap length (c.as_slice.ensures ∙ c.of.ensures.value)) ∙ c.if-as_slice-places.false in
    negative-is _ c.args.exponent c.args.places.now c.requires (c.is_short.ensures.0 c.if-not-is_short.false) refl (omega (arith, ints)) (omega arith) c.lowered_value.ensures count
