use Rattle.std.proofs.Common.{◌≡◌, ◌∙◌, false, map, sym, ap, subst, rules}
use Rattle.std.specs.Ordering.{is_lt}
use Rattle.plain_orders.specs.PairMap.{key_cmp}
use Rattle.block_tree.specs.FlatWords.{AreShort}
use Rattle.block_tree.specs.TreeWords.{as_pair, is_out, without}
use Rattle.block_tree.proofs.FlatLemmas.{part_short}
use Rattle.block_tree.proofs.RemovalLemmas.{span_removed, span_found, empty_span}
use Rattle.block_tree.proofs.flat_pairs.FlatPairsPairTable.kill_span.Goals as goal

pub returns-then-ge-clause-removed : goal.returns-then-ge-clause-removed
returns-then-ge-clause-removed c =
    let empty : is_lt (key_cmp c.args.span.now.lo c.args.span.now.hi) ≡ false = search rules in
    c.new.ensures ∙ ap (map as_pair) (sym (empty_span c.args.span.now c.args.self.now empty).0)

pub returns-then-ge-clause-ok : goal.returns-then-ge-clause-ok
returns-then-ge-clause-ok c =
    let empty : is_lt (key_cmp c.args.span.now.lo c.args.span.now.hi) ≡ false = search rules in
    sym (empty_span c.args.span.now c.args.self.now empty).1

pub invariant_of-self : goal.invariant_of-self
invariant_of-self c =
    let m = c.self.inside.pairs.entries in
    let span = c.args.span.now in
    let left : c.remove_all.new.pairs.entries ≡ without m span = c.remove_all.ensures.pairs ∙ span_removed span m c.in_ok-keys.keys.items c.in_ok-keys.ensures in
    subst AreShort (sym left) (part_short (is_out span) m c.self.invariant)

pub returns-clause-removed : goal.returns-clause-removed
returns-clause-removed c =
    let m = c.self.inside.pairs.entries in
    rw (← c.self.view_is)
    (c.from_vec.ensures ∙ rw c.in_ok-removed.ensures.items at c.remove_all.ensures.removed
    ∙ ap (map as_pair) (span_found c.args.span.now m c.in_ok-keys.keys.items c.in_ok-keys.ensures))

pub returns-clause-ok : goal.returns-clause-ok
returns-clause-ok c =
    let m = c.self.inside.pairs.entries in
    rw (← c.self.view_is) (c.remove_all.ensures.pairs ∙ span_removed c.args.span.now m c.in_ok-keys.keys.items c.in_ok-keys.ensures)
