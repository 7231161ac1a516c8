use Rattle.std.proofs.Common.{◌≡◌, ◌+◌, ◌≤◌, ◌++◌, length, vec_len, vec_capacity}
use Rattle.std.specs.Vec.Iter.{drain_items, drain_kept}
use Rattle.span_index.proofs.taking.take_range.Given as goal

-- what was moved and what is still to come; what the drain leaves
abbrev pub invariant-loop-place : goal.invariant-loop-place
invariant-loop-place l = record {
  can : (goal.iterator-loop-place).can_next l.place-iterator;
  ends : (goal.iterator-loop-place).is_finite l.place-iterator;
  moves : l.hits.items ++ drain_items l.place-iterator ≡ l.initial.hits.items ++ drain_items l.initial.place-iterator;
  room : vec_len l.hits + length (drain_items l.place-iterator) ≤ vec_capacity l.hits;
  capacity : vec_capacity l.hits ≡ vec_capacity l.initial.hits;
  leaves : drain_kept l.place-iterator ≡ drain_kept l.initial.place-iterator;
}
