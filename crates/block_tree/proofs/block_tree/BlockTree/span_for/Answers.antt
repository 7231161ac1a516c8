use Rattle.std.proofs.Common.{◌≡◌, ◌≤◌, ◌+◌, drop, rules, arith}
use Rattle.block_tree.specs.declared.limits.TheConstants.{WHOLE_ROOM}
use Rattle.block_tree.specs.TreeWords.{size}
use Rattle.block_tree.specs.LeafWords.{begin_of}
use Rattle.block_tree.proofs.LeafLemmas.{edges_rise}
use Rattle.block_tree.proofs.RunLemmas.{whole_fits, whole_is_short, leaf_is_short}
use Rattle.block_tree.proofs.block_tree.BlockTree.span_for.Goals as goal

pub place_of-at-requires-clause-rises : goal.place_of-at-requires-clause-rises
place_of-at-requires-clause-rises c = edges_rise _ _ c.self.invariant.leaves

pub returns-then-self-le-WHOLE_ROOM-clause-fits : goal.returns-then-self-le-WHOLE_ROOM-clause-fits
returns-then-self-le-WHOLE_ROOM-clause-fits c =
    let m = c.self.inside.pairs.entries in
    let few : size m ≤ WHOLE_ROOM = omega (arith, c.self.invariant.counted, c.if-self-le-WHOLE_ROOM.true) in
    rw (c.in_ok-span.ensures, ← c.self.view_is) (whole_is_short m few)

pub returns-clause-fits : goal.returns-clause-fits
returns-clause-fits c =
    let at = c.place_of-at.result in
    let ls = c.self.inside.leaves in
    let lo : c.in_ok-clone.field-0 ≡ begin_of (drop at ls) = search rules in
    let hi : c.in_ok-clone-2.field-0 ≡ begin_of (drop (at + 1) ls) = search rules in
    rw (lo, hi, ← c.self.view_is) (leaf_is_short c.self.inside.pairs.entries ls at c.place_of-at.ensures.within c.self.invariant.leaves)

pub returns-clause-whole : goal.returns-clause-whole
returns-clause-whole c = λ fits.
    let m = c.self.inside.pairs.entries in
    let few = whole_fits m (rw c.self.view_is fits) in
    absurd (omega (arith, few, c.self.invariant.counted, c.if-self-le-WHOLE_ROOM.false))
