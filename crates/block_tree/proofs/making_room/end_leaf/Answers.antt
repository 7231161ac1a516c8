use Rattle.std.proofs.Common.{◌≡◌, ◌++◌, [], ◌∷◌, Less, false, rules, arith}
use Rattle.std.specs.Ordering.{is_lt}
use Rattle.std.proofs.lemmas.List.{length-append}
use Rattle.plain_orders.specs.PairMap.{key_cmp}
use Rattle.block_tree.proofs.CutLemmas.{cut_leaves, behind_above, place_ended, alone_ended, alone_there}
use Rattle.block_tree.proofs.making_room.end_leaf.Goals as goal

pub returns-in_ok-cut-clause-leaves : goal.returns-in_ok-cut-clause-leaves
returns-in_ok-cut-clause-leaves c = λ m a.
    let key = c.args.key.now in
    let below : key_cmp c.in_ok-next.next c.end.result.now ≡ Less = search rules in
    rw (c.in_ok-cut.ensures.ok, c.in_ok-next.ensures)
    (cut_leaves m c.args.leaves.now c.args.at (key ++ 0 ∷ []) c.requires.place.within a (rw c.requires.begun (behind_above key)) (rw (← c.end.ensures, ← c.in_ok-next.ensures) below) (omega (arith, c.requires.short, length-append key (0 ∷ []))))

pub returns-in_ok-cut-clause-place : goal.returns-in_ok-cut-clause-place
returns-in_ok-cut-clause-place c = rw (c.in_ok-cut.ensures.ok, c.in_ok-next.ensures) (place_ended c.args.key.now c.args.leaves.now c.args.at c.requires.place)

pub returns-in_ok-cut-clause-alone : goal.returns-in_ok-cut-clause-alone
returns-in_ok-cut-clause-alone c = rw (c.in_ok-cut.ensures.ok, c.in_ok-next.ensures) (alone_ended c.args.key.now c.args.leaves.now c.args.at c.requires.place c.requires.begun)

pub returns-else-lt-clause-alone : goal.returns-else-lt-clause-alone
returns-else-lt-clause-alone c =
    let level : is_lt (key_cmp c.in_ok-next.next c.end.result.now) ≡ false = search rules in
    alone_there c.args.key.now c.args.leaves.now c.args.at c.requires.begun (rw (← c.end.ensures, ← c.in_ok-next.ensures) level)
