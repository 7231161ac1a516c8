use Rattle.std.proofs.Common.{◌≡◌, ◌++◌, length}
use Rattle.std.specs.List.{AllByRecursion}
use Rattle.block_bytes.specs.Blocks.{pairs_bytes, HasShortLists}
use Rattle.block_bytes.proofs.block_reader.take_pairs.Given as goal

abbrev pub invariant-loop : goal.invariant-loop
invariant-loop l = record {
  short : AllByRecursion HasShortLists l.pairs;
  taken : length l.pairs ≡ l.counter;
  all : l.bytes ≡ pairs_bytes l.pairs ++ l.rest;
}
