use Rattle.std.proofs.Common.{take}
use Rattle.std.specs.Char.{is_ascii_alphanumeric}
use Rattle.global_text.specs.Numbers.{Every}
use Rattle.global_text.proofs.name_form.split_name.Given as goal

abbrev pub invariant-loop-place : goal.invariant-loop-place
invariant-loop-place l = Every is_ascii_alphanumeric (take l.place l.text)
