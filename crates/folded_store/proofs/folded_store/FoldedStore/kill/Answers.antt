use Rattle.std.proofs.Common.{sym, subst, map}
use Rattle.plain_orders.specs.Fold.{OldPairs}
use Rattle.end_words.specs.Runs.{as_entry}
use Rattle.folded_store.specs.Limits.{PairsFit, MapFits}
use Rattle.folded_store.proofs.FitLemmas.{kill_holds, pairs_under_fit, note_fits}
use Rattle.folded_store.proofs.folded_store.FoldedStore.kill.Goals as goal

pub invariant_of-self-then-name-eq0 : goal.invariant_of-self-then-name-eq0
invariant_of-self-then-name-eq0 g c = record {
  pairs = subst MapFits (sym c.in_ok-pairs.ensures.ok) (kill_holds (g.P.PairTable.pairs c.self.inside.pairs) c.args.key.now c.self.invariant.pairs);
  begun = c.self.invariant.begun;
}

pub invariant_of-self-in_err-node : goal.invariant_of-self-in_err-node
invariant_of-self-in_err-node g c = record {
  pairs = subst MapFits (sym c.in_ok-pairs.ensures.ok) (kill_holds (g.P.PairTable.pairs c.self.inside.pairs) c.args.key.now c.self.invariant.pairs);
  begun = c.self.invariant.begun;
}

pub invariant_of-self-2 : goal.invariant_of-self-2
invariant_of-self-2 g c =
    let m = (g.P.PairTable.pairs c.self.inside.pairs) in
    let n = c.args.name in
    let removed = map as_entry c.in_ok-pairs.pairs in
    let fits : PairsFit removed = subst PairsFit (sym c.in_ok-pairs.ensures.removed) (pairs_under_fit m c.args.key.now c.self.invariant.pairs.pairs) in
    record {
      pairs = subst MapFits (sym c.in_ok-pairs.ensures.ok) (kill_holds m c.args.key.now c.self.invariant.pairs);
      begun = note_fits c.note.result n.session n.job n.txn (OldPairs c.in_ok-node.node removed) c.self.inside.begun c.note.new.self fits c.self.invariant.begun c.note.ensures.ok c.note.ensures.err;
    }
