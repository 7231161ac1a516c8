use Rattle.std.proofs.Common.{◌≡◌, ◌+◌, ◌-◌, ◌*◌, ◌^◌, ◌≤◌, length, drop, map}
use Rattle.std.specs.Int.Digits.{number_from_digits_after}
use Rattle.subscript_keys.specs.Key.{ArePlaces}
use Rattle.subscript_keys.proofs.sub_reader.raised_value.Given as goal

abbrev pub invariant-loop-place : goal.invariant-loop-place
invariant-loop-place l = record {
  all : number_from_digits_after 10 l.value (map (λ b. b - 1) (drop l.place-index l.places)) ≡ number_from_digits_after 10 0 (map (λ b. b - 1) l.places);
  left : ArePlaces (drop l.place-index l.places);
  small : (l.value + 1) * 10 ^ length (drop l.place-index l.places) ≤ 10 ^ 18;
}
