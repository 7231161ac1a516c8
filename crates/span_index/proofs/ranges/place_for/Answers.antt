use Rattle.span_index.proofs.RangeLemmas.{Rises-place}
use Rattle.span_index.proofs.ranges.place_for.Goals as goal

pub returns-then-at-count_ended_by-clause-rises : goal.returns-then-at-count_ended_by-clause-rises
returns-then-at-count_ended_by-clause-rises c =
    Rises-place c.args.places.now c.args.span.now c.max-at.result c.count_begun_before.result c.count_ended_before.result c.count_begun_by.result c.count_ended_by.result
    c.max-at.ensures c.if-at-count_begun_by.true c.if-at-count_ended_by.true
    c.count_begun_before.ensures c.count_ended_before.ensures c.count_begun_by.ensures c.count_ended_by.ensures c.requires
