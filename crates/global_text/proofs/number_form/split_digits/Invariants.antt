use Rattle.std.proofs.Common.{take}
use Rattle.std.specs.Char.{is_ascii_digit}
use Rattle.global_text.specs.Numbers.{Every}
use Rattle.global_text.proofs.number_form.split_digits.Given as goal

abbrev pub invariant-loop-place : goal.invariant-loop-place
invariant-loop-place l = Every is_ascii_digit (take l.place l.text)
