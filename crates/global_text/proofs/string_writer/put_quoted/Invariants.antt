use Rattle.std.proofs.Common.{◌≡◌, ◌∷◌, ◌++◌, drop}
use Rattle.std.specs.List.{flat_map}
use Rattle.subscript_keys.specs.Decimal.{BeginsWith}
use Rattle.global_text.specs.Printed.{quoted_byte}
use Rattle.global_text.proofs.string_writer.put_quoted.Given as goal

abbrev pub invariant-loop-byte : goal.invariant-loop-byte
invariant-loop-byte l = record {
  all : l.to.items ++ flat_map quoted_byte (drop l.byte-index l.string) ≡ l.fn.to.items ++ 34 ∷ flat_map quoted_byte l.string;
  front : BeginsWith l.to.items l.fn.to.items;
}
