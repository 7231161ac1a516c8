use Rattle.std.proofs.Common.{subst, sym}
use Rattle.span_index.specs.Ranges.{begins_by, ends_by, holds_it, IsRange}
use Rattle.span_index.proofs.RangeLemmas.{IsRange-between, holds-agrees}
use Rattle.span_index.proofs.ranges.holding.Goals as goal

pub returns : goal.returns
returns c =
    let key = c.args.key.now in
    let xs = c.args.places.now in
    let range = IsRange-between (holds_it key) (ends_by key) (begins_by key) xs (holds-agrees key xs) c.count_ended_by-first.result c.count_begun_by-last.result c.count_ended_by-first.ensures c.count_begun_by-last.ensures in
    subst (IsRange (holds_it key) xs c.count_ended_by-first.result) (sym c.max.ensures) range
