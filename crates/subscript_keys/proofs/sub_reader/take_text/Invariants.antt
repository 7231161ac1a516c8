use Rattle.std.proofs.Common.{◌≡◌, ◌++◌, length}
use Rattle.subscript_keys.specs.Key.{escaped}
use Rattle.subscript_keys.proofs.sub_reader.take_text.Given as goal

abbrev pub invariant-loop-first : goal.invariant-loop-first
invariant-loop-first l = escaped l.text.items ++ l.rest ≡ l.bytes

abbrev pub decreases-loop-first : goal.decreases-loop-first
decreases-loop-first l = length l.rest
