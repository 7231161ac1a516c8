use Rattle.std.proofs.Common.{◌≡◌, ◌+◌, ◌≤◌, ◌++◌, map, length, vec_len, vec_capacity}
use Rattle.std.specs.Vec.Iter.{into_iter_items}
use Rattle.block_tree.specs.TreeWords.{as_pair}
use Rattle.block_tree.specs.Removals.{all_removed, all_found, bytes_left}
use Rattle.block_tree.proofs.removing.remove_all.Given as goal

-- what was removed, and what is still to be removed
abbrev pub invariant-loop-key : goal.invariant-loop-key
invariant-loop-key l = record {
  can : (goal.iterator-loop-key).can_next l.key-iterator;
  ends : (goal.iterator-loop-key).is_finite l.key-iterator;
  room : vec_len l.removed + length (into_iter_items l.key-iterator) ≤ vec_capacity l.removed;
  pairs : all_removed l.pairs.entries (into_iter_items l.key-iterator) ≡ all_removed l.initial.pairs.entries (into_iter_items l.initial.key-iterator);
  removed : l.removed.items ++ map as_pair (all_found l.pairs.entries (into_iter_items l.key-iterator)) ≡ l.initial.removed.items ++ map as_pair (all_found l.initial.pairs.entries (into_iter_items l.initial.key-iterator));
  bytes : bytes_left l.bytes l.pairs.entries (into_iter_items l.key-iterator) ≡ bytes_left l.initial.bytes l.initial.pairs.entries (into_iter_items l.initial.key-iterator);
}
