use Rattle.std.proofs.Common.{◌≡◌, ◌+◌, ◌≤◌, ◌++◌, filter, length, vec_len, vec_capacity}
use Rattle.std.specs.Vec.Iter.{into_iter_items}
use Rattle.span_index.specs.Ranges.{stays, touches}
use Rattle.span_index.proofs.taking.take_others.Given as goal

-- what was moved and what is still to come
abbrev pub invariant-loop-place : goal.invariant-loop-place
invariant-loop-place l = record {
  can : (goal.iterator-loop-place).can_next l.place-iterator;
  ends : (goal.iterator-loop-place).is_finite l.place-iterator;
  hits : l.hits.items ++ filter (touches l.spans) (into_iter_items l.place-iterator) ≡ l.initial.hits.items ++ filter (touches l.spans) (into_iter_items l.initial.place-iterator);
  kept : l.kept.items ++ filter (stays l.spans) (into_iter_items l.place-iterator) ≡ l.initial.kept.items ++ filter (stays l.spans) (into_iter_items l.initial.place-iterator);
  room : vec_len l.hits + length (filter (touches l.spans) (into_iter_items l.place-iterator)) ≤ vec_capacity l.hits;
  more : vec_len l.kept + length (into_iter_items l.place-iterator) ≤ vec_capacity l.kept;
}
