use Rattle.std.proofs.Common.{◌≡◌, true, false, subst, sym, rules}
use Rattle.span_index.specs.Ranges.{begins_before, ends_by, meets_it, is_full, IsRange}
use Rattle.span_index.proofs.RangeLemmas.{IsRange-between, IsRange-empty, meets-agrees}
use Rattle.span_index.proofs.ranges.meeting.Goals as goal

pub returns-then-not-is_full : goal.returns-then-not-is_full
returns-then-not-is_full c =
    let empty : is_full c.args.span.now ≡ false = search rules in
    IsRange-empty c.args.span.now c.args.places.now empty

pub returns : goal.returns
returns c =
    let span = c.args.span.now in
    let xs = c.args.places.now in
    let full : is_full span ≡ true = search rules in
    let range = IsRange-between (meets_it span) (ends_by span.lo) (begins_before span.hi) xs (meets-agrees span xs full c.requires.full) c.count_ended_by-first.result c.count_begun_before-last.result c.count_ended_by-first.ensures c.count_begun_before-last.ensures in
    subst (IsRange (meets_it span) xs c.count_ended_by-first.result) (sym c.max.ensures) range
