use Rattle.std.proofs.Common.{◌≡◌, ◌++◌, map}
use Rattle.block_tree.specs.TreeWords.{as_pair}
use Rattle.block_tree.proofs.copying.pairs_in.Given as goal

-- what was copied, and what is left
abbrev pub invariant-loop-key : goal.invariant-loop-key
invariant-loop-key l = l.copied ++ map as_pair l.key-iterator ≡ map as_pair l.initial.key-iterator
