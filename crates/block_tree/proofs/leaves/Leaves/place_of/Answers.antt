use Rattle.std.proofs.Common.{◌≡◌, ◌∙◌, rules}
use Rattle.std.proofs.lemmas.List.Sorted.{IsPartitionPoint-from_clause}
use Rattle.block_tree.specs.LeafWords.{EdgesRise}
use Rattle.block_tree.proofs.PlaceLemmas.{begun_by, parted-begun_by, some_begun, place_is}
use Rattle.block_tree.proofs.leaves.Leaves.place_of.Goals as goal

pub overflow_sub-result : goal.overflow_sub-result
overflow_sub-result c =
    let ls = c.deref.result.now in
    let same : ls ≡ c.args.self.now = c.deref.ensures.value ∙ c.self.view_is in
    let rises : EdgesRise ls = rw same c.requires.rises in
    let point = IsPartitionPoint-from_clause (begun_by c.args.key.now) ls c.partition_point.result c.partition_point.ensures.partitioned (parted-begun_by c.args.key.now ls rises) (λ a r q k. search rules) in
    some_begun c.args.key.now ls c.partition_point.result (rw same c.requires.begins) point.1

pub returns-clause-place : goal.returns-clause-place
returns-clause-place c = λ below.
    let ls = c.deref.result.now in
    let same : ls ≡ c.args.self.now = c.deref.ensures.value ∙ c.self.view_is in
    let rises : EdgesRise ls = rw same c.requires.rises in
    let point = IsPartitionPoint-from_clause (begun_by c.args.key.now) ls c.partition_point.result c.partition_point.ensures.partitioned (parted-begun_by c.args.key.now ls rises) (λ a r q k. search rules) in
    rw (← same)
    (place_is c.args.key.now ls c.partition_point.result c.partition_point.ensures.bound point.0 point.1 (some_begun c.args.key.now ls c.partition_point.result (rw same c.requires.begins) point.1) below)
