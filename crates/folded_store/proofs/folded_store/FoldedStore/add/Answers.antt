use Rattle.std.proofs.Common.{◌≡◌, ◌≤◌, List, ℕ, length, sym, subst, rules}
use Rattle.subscript_keys.specs.declared.limits.TheConstants.{VALUE_LIMIT}
use Rattle.plain_orders.specs.declared.sum.Sum.TheVariants.{Whole}
use Rattle.plain_orders.specs.PairMap.{value_at}
use Rattle.plain_orders.specs.Fold.{sum_with}
use Rattle.plain_orders.specs.Numbers.{integer_text}
use Rattle.plain_orders.specs.Ordered.{SetMay}
use Rattle.folded_store.proofs.FitLemmas.{set_holds, sum_text_fits}
use Rattle.folded_store.proofs.folded_store.FoldedStore.add.Goals as goal

pub set-requires-clause-value : goal.set-requires-clause-value
set-requires-clause-value g c =
    let o = value_at c.args.self.now.pairs c.args.key.now in
    let told : sum_with o c.args.amount ≡ Whole c.in-Whole.number = search rules in
    let may : SetMay c.args.key.now (integer_text c.in-Whole.number) = sum_text_fits c.args.key.now o c.args.amount c.in-Whole.number c.requires told in
    let text : c.in_ok-value.value ≡ integer_text c.in-Whole.number = search rules in
    subst (λ (v : List ℕ). length v ≤ VALUE_LIMIT) (sym text) may.within

pub invariant_of-self-in_ok-set : goal.invariant_of-self-in_ok-set
invariant_of-self-in_ok-set g c =
    let m = (g.P.PairTable.pairs c.self.inside.pairs) in
    let o = value_at c.args.self.now.pairs c.args.key.now in
    let told : sum_with o c.args.amount ≡ Whole c.in-Whole.number = search rules in
    let may : SetMay c.args.key.now (integer_text c.in-Whole.number) = sum_text_fits c.args.key.now o c.args.amount c.in-Whole.number c.requires told in
    let node : c.in_ok-node.node ≡ c.args.key.now = search rules in
    let text : c.in_ok-value.value ≡ integer_text c.in-Whole.number = search rules in
    record {
      pairs = set_holds m (g.P.PairTable.pairs c.set.new.self) c.args.key.now (integer_text c.in-Whole.number) c.in_ok-node.node c.in_ok-value.value may node text c.in_ok-set.ensures.ok c.self.invariant.pairs;
      begun = c.self.invariant.begun;
    }

pub invariant_of-self-in_ok-set-2 : goal.invariant_of-self-in_ok-set-2
invariant_of-self-in_ok-set-2 g c =
    let m = (g.P.PairTable.pairs c.self.inside.pairs) in
    let o = value_at c.args.self.now.pairs c.args.key.now in
    let told : sum_with o c.args.amount ≡ Whole c.in-Whole.number = search rules in
    let may : SetMay c.args.key.now (integer_text c.in-Whole.number) = sum_text_fits c.args.key.now o c.args.amount c.in-Whole.number c.requires told in
    let node : c.in_ok-node.node ≡ c.args.key.now = search rules in
    let text : c.in_ok-value.value ≡ integer_text c.in-Whole.number = search rules in
    record {
      pairs = set_holds m (g.P.PairTable.pairs c.set.new.self) c.args.key.now (integer_text c.in-Whole.number) c.in_ok-node.node c.in_ok-value.value may node text c.in_ok-set.ensures.ok c.self.invariant.pairs;
      begun = c.self.invariant.begun;
    }
