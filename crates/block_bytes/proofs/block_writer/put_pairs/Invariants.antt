use Rattle.std.proofs.Common.{◌≡◌, ◌++◌, drop}
use Rattle.std.specs.List.{AllByRecursion}
use Rattle.block_bytes.specs.Blocks.{pairs_bytes, HasShortLists}
use Rattle.block_bytes.proofs.block_writer.put_pairs.Given as goal

abbrev pub invariant-loop-pair : goal.invariant-loop-pair
invariant-loop-pair l = record {
  short : AllByRecursion HasShortLists (drop l.pair-index l.pairs);
  all : l.to.items ++ pairs_bytes (drop l.pair-index l.pairs) ≡ l.initial.to.items ++ pairs_bytes l.pairs;
}
