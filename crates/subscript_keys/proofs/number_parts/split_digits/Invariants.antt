use Rattle.std.proofs.Common.{take}
use Rattle.subscript_keys.specs.Decimal.{AreDigitCharacters}
use Rattle.subscript_keys.proofs.number_parts.split_digits.Given as goal

abbrev pub invariant-loop-place : goal.invariant-loop-place
invariant-loop-place l = AreDigitCharacters (take l.place l.text)
