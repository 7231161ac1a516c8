use Rattle.std.proofs.Common.{◌≡◌, ◌-◌, ◌∙◌, false, drop, ap, rules}
use Rattle.std.specs.Ordering.{is_gt}
use Rattle.plain_orders.specs.PairMap.{key_cmp}
use Rattle.block_tree.specs.LeafWords.{begin_of, first_bytes, IsInLeaf}
use Rattle.block_tree.proofs.LeafLemmas.{edges_rise, united_begins}
use Rattle.block_tree.proofs.RemovalLemmas.{freed_leaves}
use Rattle.block_tree.proofs.tidying.tidy.Goals as goal

pub place_of-first-requires-clause-rises : goal.place_of-first-requires-clause-rises
place_of-first-requires-clause-rises c = edges_rise _ _ c.requires.leaves

pub join-requires-clause-leaves : goal.join-requires-clause-leaves
join-requires-clause-leaves c =
    let ls = c.args.leaves.now in
    let span = c.args.span.now in
    let at = c.place_of-first.result in
    let from : is_gt (key_cmp c.begin.result.now span.lo) ≡ false = search rules in
    let to : is_gt (key_cmp span.hi c.end.result.now) ≡ false = search rules in
    let inside : IsInLeaf span ls at = record { from = rw (← c.begin.ensures) from; to = rw (← c.end.ensures) to } in
    let bytes : c.saturating_sub.result ≡ first_bytes (drop at ls) - c.args.freed = search rules in
    rw c.set_bytes.ensures (freed_leaves c.args.pairs.now.entries ls span c.args.freed at c.saturating_sub.result c.requires.leaves c.requires.freed c.place_of-first.ensures.within inside bytes)

pub join-requires-clause-begins : goal.join-requires-clause-begins
join-requires-clause-begins c = ap begin_of c.set_bytes.ensures ∙ united_begins c.args.leaves.now c.place_of-first.result _ c.saturating_sub.result ∙ c.requires.begins

pub place_of-last-requires-clause-rises : goal.place_of-last-requires-clause-rises
place_of-last-requires-clause-rises c = edges_rise _ _ c.requires.leaves
