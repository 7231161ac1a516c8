use Rattle.std.proofs.Common.{◌≡◌, ◌++◌, ◌∙◌, sym, refl, rules}
use Rattle.subscript_keys.specs.Key.{sub_bytes, IsSub}
use Rattle.subscript_keys.specs.Span.{span_hi}
use Rattle.plain_programs.proofs.SearchLemmas.{next_key-first}
use Rattle.plain_orders.proofs.NodeKeys.{child_key}
use Rattle.plain_programs.proofs.KeyLemmas.{next_key-behind}
use Rattle.folded_store.proofs.folded_store.FoldedStore.next_key.Goals as goal

pub returns-in-None-clause-value : goal.returns-in-None-clause-value
returns-in-None-clause-value g c = rw c.in-None.is (c.descendant_behind.ensures.value ∙ sym (next_key-first c.args.self.now.pairs c.args.parent.now))

pub returns-in_ok-end-in-Some-clause-value : goal.returns-in_ok-end-in-Some-clause-value
returns-in_ok-end-in-Some-clause-value g c =
    let sub : IsSub c.in-Some.sub.now = rw c.in-Some.is at c.requires.sub in
    let end : c.in_ok-end-in-Some.end ≡ span_hi (c.args.parent.now ++ sub_bytes c.in-Some.sub.now) = search rules in
    rw (c.in-Some.is, c.descendant_behind-in-Some.ensures.value, end)
    (sym (next_key-behind c.args.parent.now c.in-Some.sub.now _ refl (child_key c.args.parent.now c.in-Some.sub.now c.requires.parent sub) c.args.self.now.pairs c.descendant_behind-in-Some.ensures.keys))
