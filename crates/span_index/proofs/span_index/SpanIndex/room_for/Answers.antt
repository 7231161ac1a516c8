use Rattle.std.proofs.Common.{◌≡◌, ◌≤◌, ◌<◌, ◌^◌, filter, length, arith}
use Rattle.std.proofs.lemmas.List.Sums.{count_by-le-length, length-filter}
use Rattle.span_index.specs.SpanWords.{is_touched}
use Rattle.span_index.specs.Ranges.{touches}
use Rattle.span_index.proofs.FoundLemmas.{length-kept}
use Rattle.span_index.proofs.span_index.SpanIndex.room_for.Goals as goal

pub returns : goal.returns
returns c =
    let near : length (filter (touches c.args.spans.now) c.self.inside.ordered.items) ≤ c.count_met-near.result = rw (← c.as_slice.ensures.value) c.count_met-near.ensures.all in
    let far : c.count_touched-far.result ≡ length (filter (touches c.args.spans.now) c.self.inside.others.items) = rw (c.as_slice-2.ensures.value) at c.count_touched-far.ensures in
    let all = length-kept (is_touched c.args.spans.now) c.self.inside.ordered.items c.self.inside.others.items in
    let most : c.count_met-near.result ≤ length c.self.inside.ordered.items = rw (← c.as_slice.ensures.value) c.count_met-near.ensures.most in
    let few : c.count_touched-far.result ≤ length c.self.inside.others.items = omega (arith, far, length-filter (touches c.args.spans.now) c.self.inside.others.items, count_by-le-length (touches c.args.spans.now) c.self.inside.others.items) in
    let least : length c.self.inside.ordered.items < 2 ^ 63 = omega (arith, c.self.inside.ordered.ok.0, c.self.inside.ordered.ok.1, c.self.inside.ordered.small) in
    let less : length c.self.inside.others.items < 2 ^ 63 = omega (arith, c.self.inside.others.ok.0, c.self.inside.others.ok.1, c.self.inside.others.small) in
    rw (← c.self.view_is) (omega (arith, near, far, few, all, most, least, less, c.saturating_add.ensures))
