use Rattle.std.proofs.Common.{drop, ◌↔◌}
use Rattle.std.specs.Prelude.{IsTrue}
use Rattle.std.specs.List.{AllByRecursion}
use Rattle.std.specs.Char.{is_ascii_alphanumeric}
use Rattle.subscript_keys.proofs.decoder.are_alphanumeric.Given as goal

abbrev pub invariant-loop-byte : goal.invariant-loop-byte
invariant-loop-byte l = AllByRecursion (λ b. IsTrue (is_ascii_alphanumeric b)) (drop l.byte-index l.bytes) ↔ AllByRecursion (λ b. IsTrue (is_ascii_alphanumeric b)) l.bytes
