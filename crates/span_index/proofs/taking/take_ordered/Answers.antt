use Rattle.std.proofs.Common.{◌≡◌, true, take, refl, sym, ◌∙◌, arith}
use Rattle.std.proofs.lemmas.List.Sorted.{IsPermutation-refl}
use Rattle.span_index.specs.Ranges.{is_full, stays}
use Rattle.span_index.proofs.OrderLemmas.{all-filter}
use Rattle.span_index.proofs.NumberLemmas.{rises-filter}
use Rattle.span_index.proofs.TakeLemmas.{taken-step, kept-step, room-step, stays-none, touches-none}
use Rattle.span_index.proofs.taking.take_ordered.Goals as goal

pub loop-span-init : goal.loop-span-init
loop-span-init c = record {
  places = sym (stays-none c.args.places.now.items);
  hits = rw (touches-none c.args.places.now.items, c.requires.fresh) (IsPermutation-refl _);
  capacity = refl;
}

pub meeting-range-requires-clause-rises : goal.meeting-range-requires-clause-rises
meeting-range-requires-clause-rises c =
    rw (c.as_slice.ensures.value, c.loop-span.invariant.places) (rises-filter (stays (take c.loop-span.span-index c.args.spans.now)) c.args.places.now.items c.requires.rises)

pub meeting-range-requires-clause-full : goal.meeting-range-requires-clause-full
meeting-range-requires-clause-full c =
    rw (c.as_slice.ensures.value, c.loop-span.invariant.places) (all-filter (λ x. is_full x.span ≡ true) (stays (take c.loop-span.span-index c.args.spans.now)) c.args.places.now.items c.requires.full)

pub take_range-requires-clause-room : goal.take_range-requires-clause-room
take_range-requires-clause-room c =
    let range = rw c.as_slice.ensures.value at c.meeting-range.ensures in
    let room = room-step c.args.spans.now c.loop-span.span-index c.span-item.result c.loop-span-test.true c.span-item.is c.args.places.now.items c.loop-span.places.items c.loop-span.invariant.places c.loop-span.hits.items c.loop-span.invariant.hits c.meeting-range.result.first c.meeting-range.result.last range in
    omega (arith, room, c.requires.room, c.loop-span.invariant.capacity)

pub loop-span-preserved : goal.loop-span-preserved
loop-span-preserved c =
    let range = rw c.as_slice.ensures.value at c.meeting-range.ensures in
    record {
      places = c.take_range.ensures.places ∙ kept-step c.args.spans.now c.loop-span.span-index c.span-item.result c.loop-span-test.true c.span-item.is c.args.places.now.items c.loop-span.places.items c.loop-span.invariant.places c.meeting-range.result.first c.meeting-range.result.last range;
      hits = rw c.take_range.ensures.hits (taken-step c.args.spans.now c.loop-span.span-index c.span-item.result c.loop-span-test.true c.span-item.is c.args.places.now.items c.loop-span.places.items c.loop-span.invariant.places c.loop-span.hits.items c.loop-span.invariant.hits c.meeting-range.result.first c.meeting-range.result.last range);
      capacity = c.take_range.ensures.capacity ∙ c.loop-span.invariant.capacity;
    }
