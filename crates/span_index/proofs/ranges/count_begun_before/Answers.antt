use Rattle.std.proofs.Common.{rules}
use Rattle.std.proofs.lemmas.List.Sorted.{IsPartitionPoint-from_clause}
use Rattle.span_index.specs.Ranges.{begins_before}
use Rattle.span_index.proofs.KeyLemmas.{parted-begins_before}
use Rattle.span_index.proofs.RangeLemmas.{front_is}
use Rattle.span_index.proofs.ranges.count_begun_before.Goals as goal

pub returns : goal.returns
returns c =
    let xs = c.args.places.now in
    let point = IsPartitionPoint-from_clause (begins_before c.args.key.now) xs c.partition_point.result c.partition_point.ensures.partitioned (parted-begins_before c.args.key.now xs c.requires) (λ a r q k. search rules) in
    front_is (begins_before c.args.key.now) xs c.partition_point.result c.partition_point.ensures.bound point
