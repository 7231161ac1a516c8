use Rattle.std.proofs.Common.{◌≡◌, filter, take, vec_capacity}
use Rattle.std.specs.List.Sorted.{IsPermutation}
use Rattle.span_index.specs.Ranges.{stays, touches}
use Rattle.span_index.proofs.taking.take_ordered.Given as goal

-- what the spans so far took and left
abbrev pub invariant-loop-span : goal.invariant-loop-span
invariant-loop-span l = record {
  places : l.places.items ≡ filter (stays (take l.span-index l.spans)) l.initial.places.items;
  hits : IsPermutation (filter (touches (take l.span-index l.spans)) l.initial.places.items) l.hits.items;
  capacity : vec_capacity l.hits ≡ vec_capacity l.initial.hits;
}
