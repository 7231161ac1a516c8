use Rattle.std.proofs.Common.{◌∷◌, length}
use Rattle.global_text.specs.Strings.{BeginsQuoted}
use Rattle.global_text.proofs.string_reader.take_items.Given as goal

abbrev pub invariant-loop-byte : goal.invariant-loop-byte
invariant-loop-byte l = BeginsQuoted l.string.items (34 ∷ l.text) l.rest

abbrev pub decreases-loop-byte : goal.decreases-loop-byte
decreases-loop-byte l = length l.rest
