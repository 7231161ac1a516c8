use Rattle.std.proofs.Common.{ℕ, ◌+◌, ◌-◌, ◌*◌, ◌^◌, ◌≤◌, map, length, drop, refl, sym, ap, subst, ◌∙◌, arith}
use Rattle.std.specs.Int.Digits.{number_from_digits_after}
use Rattle.subscript_keys.proofs.PlaceTurns.{place-turn, lowered-digit, first-place}
use Rattle.subscript_keys.proofs.sub_reader.lowered_value.Goals as goal

pub loop-place-init : goal.loop-place-init
loop-place-init c = record { all = refl; left = c.requires.places; small = first-place c.args.places.now c.requires.count }

pub overflow_mul-value : goal.overflow_mul-value
overflow_mul-value c =
    let t = place-turn (λ b. 10 - b) lowered-digit c.loop-place.value c.loop-place.place-index c.args.places.now c.loop-place-test.true c.loop-place.invariant.left c.loop-place.invariant.small in
    omega (arith, t.fits)

pub overflow_add-value : goal.overflow_add-value
overflow_add-value c =
    let t = place-turn (λ b. 10 - b) lowered-digit c.loop-place.value c.loop-place.place-index c.args.places.now c.loop-place-test.true c.loop-place.invariant.left c.loop-place.invariant.small in
    omega (arith, t.fits, c.from.ensures)

pub loop-place-preserved : goal.loop-place-preserved
loop-place-preserved c =
    let t = place-turn (λ b. 10 - b) lowered-digit c.loop-place.value c.loop-place.place-index c.args.places.now c.loop-place-test.true c.loop-place.invariant.left c.loop-place.invariant.small in
    let P : ℕ → Type 0 = λ d. (c.loop-place.value * 10 + d + 1) * 10 ^ length (drop (c.loop-place.place-index + 1) c.args.places.now) ≤ 10 ^ 18 in
    record {
      all = ap (λ d. number_from_digits_after 10 (c.loop-place.value * 10 + d) (map (λ b. 10 - b) (drop (c.loop-place.place-index + 1) c.args.places.now))) c.from.ensures ∙ sym t.value ∙ c.loop-place.invariant.all;
      left = t.rest;
      small = subst P (sym c.from.ensures) t.next;
    }
