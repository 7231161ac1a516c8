use Rattle.std.proofs.Common.{◌≡◌, ◌+◌, ◌++◌, map, drop}
use Rattle.subscript_keys.specs.Decimal.{AreDigits, BeginsWith}
use Rattle.subscript_keys.proofs.sub_writer.put_raised.Given as goal

abbrev pub invariant-loop-place : goal.invariant-loop-place
invariant-loop-place l = record {
  all : l.to.items ++ map (λ d. d + l.by) (drop l.place-index l.places) ≡ l.initial.to.items ++ map (λ d. d + l.by) l.places;
  left : AreDigits (drop l.place-index l.places);
  front : BeginsWith l.to.items l.initial.to.items;
}
