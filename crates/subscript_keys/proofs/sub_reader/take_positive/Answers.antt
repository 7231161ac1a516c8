use Rattle.std.proofs.Common.{◌≡◌, ℕ, ◌∷◌, List, length, sym, ap, ◌∙◌, inr, arith}
use Rattle.subscript_keys.proofs.NumberReads.{positive-stands, positive-parts, positive-joined}
use Rattle.subscript_keys.proofs.sub_reader.take_positive.Goals as goal

same-first : (a b : ℕ) (s t : List ℕ) → a ∷ s ≡ b ∷ t → a ≡ b
same-first a b s t e = cc

pub returns-in_err-exponent-clause-none : goal.returns-in_err-exponent-clause-none
returns-in_err-exponent-clause-none c = rw c.from_residual.ensures (λ number rest p k.
    absurd (omega (arith, c.in_err-exponent.ensures.cases, ap length (positive-stands number c.args.bytes.now rest p k).spelled)))

pub returns-in_err-end-clause-none : goal.returns-in_err-end-clause-none
returns-in_err-end-clause-none c = rw c.from_residual-in_err-end.ensures (λ number rest p k.
    let parts = positive-parts number c.in_ok-exponent.exponent.now c.split_places.result.0.now c.split_places.result.1.now c.in_ok-exponent.rest.now c.args.bytes.now rest p k c.in_ok-exponent.ensures.cases.0 c.split_places.ensures.whole c.split_places.ensures.places c.split_places.ensures.rest in
    absurd (omega (arith, c.in_err-end.ensures.cases, ap length parts.1)))

pub returns-then-end-ne0-clause-none : goal.returns-then-end-ne0-clause-none
returns-then-end-ne0-clause-none c = λ number rest p k.
    let parts = positive-parts number c.in_ok-exponent.exponent.now c.split_places.result.0.now c.split_places.result.1.now c.in_ok-exponent.rest.now c.args.bytes.now rest p k c.in_ok-exponent.ensures.cases.0 c.split_places.ensures.whole c.split_places.ensures.places c.split_places.ensures.rest in
    absurd (c.if-end-ne0.true (same-first c.in_ok-end.end.now 0 c.in_ok-end.rest.now rest (sym c.in_ok-end.ensures.cases.0 ∙ parts.1)))

pub returns-in_err-number-clause-none : goal.returns-in_err-number-clause-none
returns-in_err-number-clause-none c = rw c.from_residual-in_err-number.ensures (λ number rest p k.
    let parts = positive-parts number c.in_ok-exponent.exponent.now c.split_places.result.0.now c.split_places.result.1.now c.in_ok-exponent.rest.now c.args.bytes.now rest p k c.in_ok-exponent.ensures.cases.0 c.split_places.ensures.whole c.split_places.ensures.places c.split_places.ensures.rest in
    absurd (c.in_err-number.ensures.none number parts.0))

pub returns-clause-some : goal.returns-clause-some
returns-clause-some c = (
  inr c.in_ok-number.ensures.some.short,
  positive-joined c.in_ok-number.number c.in_ok-exponent.exponent.now c.in_ok-end.end.now c.split_places.result.0.now c.split_places.result.1.now c.in_ok-exponent.rest.now c.args.bytes.now c.in_ok-end.rest.now c.in_ok-number.ensures.some c.in_ok-exponent.ensures.cases.0 c.split_places.ensures.whole c.in_ok-end.ensures.cases.0 (omega arith),
)
