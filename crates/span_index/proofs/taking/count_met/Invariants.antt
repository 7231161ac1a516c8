use Rattle.std.proofs.Common.{◌≤◌, filter, length, take}
use Rattle.span_index.specs.Ranges.{touches}
use Rattle.span_index.proofs.taking.count_met.Given as goal

-- those that meet one of the spans so far
abbrev pub invariant-loop-span : goal.invariant-loop-span
invariant-loop-span l = record {
  all : length (filter (touches (take l.span-index l.spans)) l.places) ≤ l.count;
  most : l.count ≤ length l.places;
}
