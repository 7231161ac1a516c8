use Rattle.std.proofs.Common.{◌≡◌, false}
use Rattle.std.specs.Ordering.{is_gt}
use Rattle.plain_orders.specs.PairMap.{key_cmp}
use Rattle.block_tree.specs.FlatWords.{StandsAt}
use Rattle.block_tree.proofs.flat_pairs.FlatPairs.cut_for.Given as goal

-- the run that is walked over begins at or before the key
abbrev pub invariant-loop-next : goal.invariant-loop-next
invariant-loop-next l = record {
  can : (goal.iterator-loop-next).can_next l.next-iterator;
  ends : (goal.iterator-loop-next).is_finite l.next-iterator;
  stands : StandsAt l.initial.next-iterator l.next-iterator l.lo l.before l.last;
  below : is_gt (key_cmp l.lo l.key) ≡ false;
}
