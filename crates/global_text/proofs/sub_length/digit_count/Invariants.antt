use Rattle.std.proofs.Common.{◌≡◌, ◌+◌, length}
use Rattle.subscript_keys.specs.Decimal.{digits}
use Rattle.global_text.proofs.sub_length.digit_count.Given as goal

abbrev pub invariant-loop-rest : goal.invariant-loop-rest
invariant-loop-rest l = l.count + length (digits l.rest) ≡ length (digits l.number)

abbrev pub decreases-loop-rest : goal.decreases-loop-rest
decreases-loop-rest l = l.rest
