use Rattle.std.proofs.Common.{◌≡◌, ◌∙◌, false, map, sym, ap, rules}
use Rattle.std.specs.Ordering.{is_lt}
use Rattle.plain_orders.specs.PairMap.{key_cmp, within}
use Rattle.block_tree.specs.TreeWords.{as_pair, is_out, without, size}
use Rattle.block_tree.proofs.RemovalLemmas.{span_removed, span_found, count_left, fewer_leaves, empty_span, all_freed, freed_bytes}
use Rattle.block_tree.proofs.block_tree.BlockTree.kill_span.Goals as goal

pub returns-then-ge-clause-removed : goal.returns-then-ge-clause-removed
returns-then-ge-clause-removed c =
    let empty : is_lt (key_cmp c.args.span.now.lo c.args.span.now.hi) ≡ false = search rules in
    c.new.ensures ∙ ap (map as_pair) (sym (empty_span c.args.span.now c.args.self.now empty).0)

pub returns-then-ge-clause-ok : goal.returns-then-ge-clause-ok
returns-then-ge-clause-ok c =
    let empty : is_lt (key_cmp c.args.span.now.lo c.args.span.now.hi) ≡ false = search rules in
    sym (empty_span c.args.span.now c.args.self.now empty).1

pub tidy-requires-clause-leaves : goal.tidy-requires-clause-leaves
tidy-requires-clause-leaves c =
    let m = c.self.inside.pairs.entries in
    let span = c.args.span.now in
    let left : c.remove_all.new.pairs.entries ≡ without m span = c.remove_all.ensures.pairs ∙ span_removed span m c.in_ok-keys.keys.items c.in_ok-keys.ensures in
    rw left (fewer_leaves (is_out span) m c.self.inside.leaves c.self.invariant.leaves)

pub tidy-requires-clause-freed : goal.tidy-requires-clause-freed
tidy-requires-clause-freed c =
    let m = c.self.inside.pairs.entries in
    let span = c.args.span.now in
    let keys = c.in_ok-keys.keys.items in
    let bytes = c.self.inside.bytes in
    let left : c.remove_all.new.pairs.entries ≡ without m span = c.remove_all.ensures.pairs ∙ span_removed span m keys c.in_ok-keys.ensures in
    let count : c.remove_all.new.bytes ≡ size (without m span) = c.remove_all.ensures.bytes ∙ count_left span m keys c.in_ok-keys.ensures bytes c.self.invariant.counted in
    let freed : c.saturating_sub-freed.result ≡ size (within m span) =
    c.saturating_sub-freed.ensures ∙ freed_bytes m span bytes c.remove_all.new.bytes c.self.invariant.counted count in
    rw left (all_freed m c.self.inside.leaves span c.saturating_sub-freed.result c.self.invariant.leaves freed)

pub invariant_of-self : goal.invariant_of-self
invariant_of-self c =
    let m = c.self.inside.pairs.entries in
    let span = c.args.span.now in
    let keys = c.in_ok-keys.keys.items in
    let left : c.remove_all.new.pairs.entries ≡ without m span = c.remove_all.ensures.pairs ∙ span_removed span m keys c.in_ok-keys.ensures in
    record {
      leaves = c.tidy.ensures.leaves;
      begins = c.tidy.ensures.begins;
      counted = c.remove_all.ensures.bytes ∙ count_left span m keys c.in_ok-keys.ensures c.self.inside.bytes c.self.invariant.counted ∙ ap size (sym left);
    }

pub returns-clause-removed : goal.returns-clause-removed
returns-clause-removed c =
    let m = c.self.inside.pairs.entries in
    rw (← c.self.view_is)
    (c.from_vec.ensures ∙ rw c.in_ok-removed.ensures.items at c.remove_all.ensures.removed
    ∙ ap (map as_pair) (span_found c.args.span.now m c.in_ok-keys.keys.items c.in_ok-keys.ensures))

pub returns-clause-ok : goal.returns-clause-ok
returns-clause-ok c =
    let m = c.self.inside.pairs.entries in
    rw (← c.self.view_is) (c.remove_all.ensures.pairs ∙ span_removed c.args.span.now m c.in_ok-keys.keys.items c.in_ok-keys.ensures)
