use Rattle.std.proofs.Common.{◌≡◌, ◌≤◌, ◌+◌, ◌*◌, length, drop}
use Rattle.subscript_keys.specs.Key.{escaped}
use Rattle.global_text.proofs.sub_length.text_length.Given as goal

abbrev pub invariant-loop-byte : goal.invariant-loop-byte
invariant-loop-byte l = record {
  all : l.count + length (escaped (drop l.byte-index l.text)) ≡ 3 + length (escaped l.text);
  within : l.count ≤ 3 + 2 * l.byte-index;
}
