use Rattle.std.proofs.Common.{◌≡◌, ◌+◌, drop, length}
use Rattle.block_bytes.specs.Blocks.{pairs_bytes}
use Rattle.block_bytes.proofs.block_room.behind_pairs.Given as goal

abbrev pub invariant-loop-pair : goal.invariant-loop-pair
invariant-loop-pair l = l.fn.room + length (pairs_bytes (drop l.pair-index l.pairs)) ≡ l.left + length (pairs_bytes l.pairs)
