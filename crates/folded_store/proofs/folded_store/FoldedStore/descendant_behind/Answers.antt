use Rattle.std.proofs.Common.{◌≡◌, ◌∙◌, Some, None, sym, ap, cond, true, false, rules}
use Rattle.plain_orders.specs.PairMap.{is_under}
use Rattle.folded_store.proofs.FitLemmas.{fit_keys}
use Rattle.folded_store.proofs.SearchLemmas.{behind_none, behind_some}
use Rattle.folded_store.proofs.folded_store.FoldedStore.descendant_behind.Goals as goal

pub returns-in_err-key : goal.returns-in_err-key
returns-in_err-key g c =
    let m = (g.P.PairTable.pairs c.self.inside.pairs) in
    rw (c.from_residual.ensures, ← c.self.view_is)
    (record {
      value = sym (behind_none c.args.node.now c.args.bytes.now c.requires m c.self.invariant.pairs.rises (sym c.in_err-key.ensures));
      keys = fit_keys m c.self.invariant.pairs.pairs;
    })

pub returns-then-not-starts_with : goal.returns-then-not-starts_with
returns-then-not-starts_with g c =
    let m = (g.P.PairTable.pairs c.self.inside.pairs) in
    let apart : is_under c.args.node.now c.in_ok-key.key.now ≡ false = search rules in
    rw (← c.self.view_is)
    (record {
      value = sym (behind_some c.args.node.now c.args.bytes.now c.requires m c.self.invariant.pairs.rises _ _ (sym c.in_ok-key.ensures) ∙ ap (λ b. cond b (Some c.in_ok-key.key.now) None) apart);
      keys = fit_keys m c.self.invariant.pairs.pairs;
    })

pub returns : goal.returns
returns g c =
    let m = (g.P.PairTable.pairs c.self.inside.pairs) in
    let under : is_under c.args.node.now c.in_ok-key.key.now ≡ true = search rules in
    rw (← c.self.view_is)
    (record {
      value = sym (behind_some c.args.node.now c.args.bytes.now c.requires m c.self.invariant.pairs.rises _ _ (sym c.in_ok-key.ensures) ∙ ap (λ b. cond b (Some c.in_ok-key.key.now) None) under);
      keys = fit_keys m c.self.invariant.pairs.pairs;
    })
