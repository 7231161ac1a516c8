use Rattle.std.proofs.Common.{◌≡◌, ◌+◌, ◌≤◌, ◌++◌, length, map, vec_len, vec_capacity}
use Rattle.std.specs.Vec.Iter.{into_iter_items}
use Rattle.block_holders.specs.Notes.{noted_at}
use Rattle.block_holders.proofs.holders.move_noted.Given as goal

-- what was moved and what is still to come
abbrev pub invariant-loop-place : goal.invariant-loop-place
invariant-loop-place l = record {
  can : (goal.iterator-loop-place).can_next l.place-iterator;
  ends : (goal.iterator-loop-place).is_finite l.place-iterator;
  moves : l.drops.items ++ map noted_at (into_iter_items l.place-iterator) ≡ l.initial.drops.items ++ map noted_at (into_iter_items l.initial.place-iterator);
  room : vec_len l.drops + length (into_iter_items l.place-iterator) ≤ vec_capacity l.drops;
}
