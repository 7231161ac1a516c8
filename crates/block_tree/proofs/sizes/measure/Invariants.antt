use Rattle.std.proofs.Common.{◌≡◌, ◌≤◌, ◌+◌, ◌-◌, ◌^◌, min}
use Rattle.block_tree.specs.TreeWords.{size}
use Rattle.block_tree.proofs.sizes.measure.Given as goal

-- what was counted, and what is left
abbrev pub invariant-loop-key : goal.invariant-loop-key
invariant-loop-key l = record {
  fits : l.count ≤ 2 ^ 64 - 1;
  counted : min (l.count + size l.key-iterator) (2 ^ 64 - 1) ≡ min (size l.initial.key-iterator) (2 ^ 64 - 1);
}
