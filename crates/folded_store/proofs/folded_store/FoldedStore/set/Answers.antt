use Rattle.std.proofs.Common.{◌≡◌, rules}
use Rattle.plain_orders.specs.Fold.{OldValue}
use Rattle.folded_store.specs.Limits.{ValueFits}
use Rattle.folded_store.proofs.FitLemmas.{set_holds, old_fits, note_fits}
use Rattle.folded_store.proofs.folded_store.FoldedStore.set.Goals as goal

pub invariant_of-self-then-name-eq0 : goal.invariant_of-self-then-name-eq0
invariant_of-self-then-name-eq0 g c =
    let node : c.in_ok-node.node ≡ c.args.key.now = search rules in
    let text : c.in_ok-text.text ≡ c.args.value.now = search rules in
    record {
      pairs = set_holds (g.P.PairTable.pairs c.self.inside.pairs) (g.P.PairTable.pairs c.set.new.self) c.args.key.now c.args.value.now c.in_ok-node.node c.in_ok-text.text c.requires node text c.in_ok-old.ensures.ok c.self.invariant.pairs;
      begun = c.self.invariant.begun;
    }

pub invariant_of-self-in_err-node-2 : goal.invariant_of-self-in_err-node-2
invariant_of-self-in_err-node-2 g c =
    let node : c.in_ok-node.node ≡ c.args.key.now = search rules in
    let text : c.in_ok-text.text ≡ c.args.value.now = search rules in
    record {
      pairs = set_holds (g.P.PairTable.pairs c.self.inside.pairs) (g.P.PairTable.pairs c.set.new.self) c.args.key.now c.args.value.now c.in_ok-node.node c.in_ok-text.text c.requires node text c.in_ok-old.ensures.ok c.self.invariant.pairs;
      begun = c.self.invariant.begun;
    }

pub invariant_of-self-2 : goal.invariant_of-self-2
invariant_of-self-2 g c =
    let m = (g.P.PairTable.pairs c.self.inside.pairs) in
    let n = c.args.name in
    let node : c.in_ok-node.node ≡ c.args.key.now = search rules in
    let text : c.in_ok-text.text ≡ c.args.value.now = search rules in
    let copy : c.in_ok-node-2.node ≡ c.args.key.now = search rules in
    let fits : ValueFits c.in_ok-node-2.node c.in_ok-old.old =
    old_fits m c.args.key.now c.in_ok-node.node c.in_ok-node-2.node c.in_ok-old.old c.requires.key_may node copy c.in_ok-old.ensures.old c.self.invariant.pairs.pairs in
    record {
      pairs = set_holds m (g.P.PairTable.pairs c.set.new.self) c.args.key.now c.args.value.now c.in_ok-node.node c.in_ok-text.text c.requires node text c.in_ok-old.ensures.ok c.self.invariant.pairs;
      begun = note_fits c.note.result n.session n.job n.txn (OldValue c.in_ok-node-2.node c.in_ok-old.old) c.self.inside.begun c.note.new.self fits c.self.invariant.begun c.note.ensures.ok c.note.ensures.err;
    }
