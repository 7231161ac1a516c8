use Rattle.std.proofs.Common.{◌≡◌, ◌++◌, replicate}
use Rattle.subscript_keys.specs.Decimal.{digit_text, BeginsWith}
use Rattle.subscript_keys.proofs.number_writer.put_zeros.Given as goal

abbrev pub invariant-loop-zero : goal.invariant-loop-zero
invariant-loop-zero l = record {
  all : l.to.items ≡ l.initial.to.items ++ digit_text (replicate l._zero 0);
  front : BeginsWith l.to.items l.initial.to.items;
}
