use Rattle.std.proofs.Common.{◌≡◌, Less, false, rules, arith}
use Rattle.std.specs.Ordering.{is_lt}
use Rattle.plain_orders.specs.PairMap.{key_cmp}
use Rattle.block_tree.proofs.CutLemmas.{cut_leaves, cut_next, place_begun, before_end, begins_there}
use Rattle.block_tree.proofs.making_room.begin_leaf.Goals as goal

pub returns-then-lt-clause-leaves : goal.returns-then-lt-clause-leaves
returns-then-lt-clause-leaves c = λ m a.
    let key = c.args.key.now in
    let below : key_cmp c.begin.result.now key ≡ Less = search rules in
    let same : c.in_ok-clone.field-0 ≡ key = search rules in
    let place = c.requires.place in
    rw (c.in_ok-behind.ensures.ok, same)
    (cut_leaves m c.args.leaves.now c.args.at key place.within a (rw (← c.begin.ensures) below) (before_end key c.args.leaves.now c.args.at place) (omega (arith, c.requires.short)))

pub returns-then-lt-clause-place : goal.returns-then-lt-clause-place
returns-then-lt-clause-place c =
    let same : c.in_ok-clone.field-0 ≡ c.args.key.now = search rules in
    rw (c.in_ok-behind.ensures.place, c.in_ok-behind.ensures.ok, same) (place_begun c.args.key.now c.args.leaves.now c.args.at c.requires.place)

pub returns-then-lt-clause-begun : goal.returns-then-lt-clause-begun
returns-then-lt-clause-begun c =
    let same : c.in_ok-clone.field-0 ≡ c.args.key.now = search rules in
    rw (c.in_ok-behind.ensures.place, c.in_ok-behind.ensures.ok, same) (cut_next c.args.leaves.now c.args.at c.args.key.now c.requires.place.within)

pub returns-clause-begun : goal.returns-clause-begun
returns-clause-begun c =
    let level : is_lt (key_cmp c.begin.result.now c.args.key.now) ≡ false = search rules in
    begins_there c.args.key.now c.args.leaves.now c.args.at c.requires.place (rw (← c.begin.ensures) level)
