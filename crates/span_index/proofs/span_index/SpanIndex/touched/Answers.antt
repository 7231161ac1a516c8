use Rattle.std.proofs.Common.{◌≤◌, ◌+◌, filter, length, rules, sym, ap, ◌∙◌, arith}
use Rattle.std.specs.List.Sorted.{IsNonDecreasingBy}
use Rattle.std.proofs.lemmas.List.Sorted.{length_permutation, IsNonDecreasingBy-from_sort_by_key}
use Rattle.span_index.specs.SpanWords.{is_touched, is_untouched, touched, untouched}
use Rattle.span_index.specs.Ranges.{stays, touches}
use Rattle.span_index.specs.Indexes.{number_of}
use Rattle.span_index.proofs.FoundLemmas.{length-kept}
use Rattle.span_index.proofs.NumberLemmas.{IsIndex-filter, owned_in-filter}
use Rattle.span_index.proofs.TakeLemmas.{taken-in_order, none-touched, none-left}
use Rattle.span_index.proofs.span_index.SpanIndex.touched.Goals as goal

pub returns-then-room-eq0-clause-hits : goal.returns-then-room-eq0-clause-hits
returns-then-room-eq0-clause-hits c =
    let room = rw (← c.self.view_is) at c.room_for-room.ensures in
    let all = length-kept (is_touched c.args.spans.now) c.self.inside.ordered.items c.self.inside.others.items in
    let none : length (filter (touches c.args.spans.now) c.self.inside.ordered.items) + length (filter (touches c.args.spans.now) c.self.inside.others.items) ≤ 0 = omega (arith, all, room, c.if-room-eq0.true) in
    rw (c.new.ensures.items, ← c.self.view_is) (sym (none-touched (is_touched c.args.spans.now) c.self.inside.ordered.items c.self.inside.others.items none))

pub returns-then-room-eq0-clause-ok : goal.returns-then-room-eq0-clause-ok
returns-then-room-eq0-clause-ok c =
    let room = rw (← c.self.view_is) at c.room_for-room.ensures in
    let all = length-kept (is_touched c.args.spans.now) c.self.inside.ordered.items c.self.inside.others.items in
    let none : length (filter (touches c.args.spans.now) c.self.inside.ordered.items) + length (filter (touches c.args.spans.now) c.self.inside.others.items) ≤ 0 = omega (arith, all, room, c.if-room-eq0.true) in
    rw (← c.self.view_is) (none-left (is_touched c.args.spans.now) c.self.inside.ordered.items c.self.inside.others.items none)

pub take_others-requires-clause-room : goal.take_others-requires-clause-room
take_others-requires-clause-room c =
    let room = rw (← c.self.view_is) at c.room_for-room.ensures in
    let all = length-kept (is_touched c.args.spans.now) c.self.inside.ordered.items c.self.inside.others.items in
    let count = length_permutation _ _ c.take_ordered.ensures.hits in
    rw c.replace-others.ensures.value (omega (arith, all, room, count, c.take_ordered.ensures.capacity, c.in_ok-hits.ensures.capacity))

pub take_ordered-requires-clause-room : goal.take_ordered-requires-clause-room
take_ordered-requires-clause-room c =
    let room = rw (← c.self.view_is) at c.room_for-room.ensures in
    let all = length-kept (is_touched c.args.spans.now) c.self.inside.ordered.items c.self.inside.others.items in
    omega (arith, all, room, c.in_ok-hits.ensures.capacity)

pub invariant_of-self : goal.invariant_of-self
invariant_of-self c =
    rw (c.take_ordered.ensures.places, c.take_others.ensures.kept, c.replace-others.ensures.after, c.replace-others.ensures.value, c.in_ok-kept.ensures.items) (IsIndex-filter c.self.inside.next (stays c.args.spans.now) c.self.inside.ordered.items c.self.inside.others.items c.self.invariant)

pub returns-clause-hits : goal.returns-clause-hits
returns-clause-hits c =
    let rises : IsNonDecreasingBy number_of c.sort_unstable_by_key.new.self.items = IsNonDecreasingBy-from_sort_by_key number_of c.sort_unstable_by_key.new.self.items c.sort_unstable_by_key.ensures.sorted (λ a r f k. search rules) in
    let taken = rw (c.take_others.ensures.hits, c.replace-others.ensures.value) at c.sort_unstable_by_key.ensures.permutation in
    taken-in_order (is_touched c.args.spans.now) c.self.inside.next c.self.inside.ordered.items c.self.inside.others.items c.take_ordered.new.hits.items c.sort_unstable_by_key.new.self.items c.self.invariant.numbered c.take_ordered.ensures.hits taken rises
    ∙ ap (touched c.args.spans.now) c.self.view_is

pub returns-clause-ok : goal.returns-clause-ok
returns-clause-ok c =
    rw (c.take_ordered.ensures.places, c.take_others.ensures.kept, c.replace-others.ensures.after, c.replace-others.ensures.value, c.in_ok-kept.ensures.items) (owned_in-filter (is_untouched c.args.spans.now) c.self.inside.ordered.items c.self.inside.others.items ∙ ap (untouched c.args.spans.now) c.self.view_is)
