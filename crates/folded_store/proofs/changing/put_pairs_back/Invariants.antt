use Rattle.std.proofs.Common.{◌≡◌, map}
use Rattle.std.specs.Vec.Iter.{into_iter_items}
use Rattle.plain_orders.specs.PairMap.{put_all}
use Rattle.end_words.specs.Runs.{as_entry}
use Rattle.folded_store.specs.Limits.{PairsFit, MapFits}
use Rattle.folded_store.proofs.changing.put_pairs_back.Given as goal

-- what is put back, and what is still to be put back
abbrev pub invariant-loop-pair : goal.invariant-loop-pair
invariant-loop-pair g l = record {
  can : (goal.iterator-loop-pair g).can_next l.pair-iterator;
  ends : (goal.iterator-loop-pair g).is_finite l.pair-iterator;
  fits : MapFits (g.P.PairTable.pairs l.pairs);
  left : PairsFit (map as_entry (into_iter_items l.pair-iterator));
  same : put_all (g.P.PairTable.pairs l.pairs) (map as_entry (into_iter_items l.pair-iterator)) ≡ put_all (g.P.PairTable.pairs l.initial.pairs) (map as_entry (into_iter_items l.initial.pair-iterator));
}
