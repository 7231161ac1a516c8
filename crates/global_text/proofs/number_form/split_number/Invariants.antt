use Rattle.std.proofs.Common.{take}
use Rattle.global_text.specs.Numbers.{Every, is_number_byte}
use Rattle.global_text.proofs.number_form.split_number.Given as goal

abbrev pub invariant-loop-place : goal.invariant-loop-place
invariant-loop-place l = Every is_number_byte (take l.place l.text)
