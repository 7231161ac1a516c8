use Rattle.std.proofs.Common.{◌≡◌, ℕ, ◌+◌, ◌-◌, ◌<◌, ◌≤◌, Bool, true, false, List, length, take, rules, sym, ◌∙◌, ap, subst, arith}
use Rattle.std.specs.List.{list_any}
use Rattle.std.specs.List.Sorted.{IsStrictlySortedBy}
use Rattle.std.specs.Map.{keys_of}
use Rattle.plain_orders.specs.PairMap.{key_cmp}
use Rattle.lock_index.specs.IndexWords.{numbers_at}
use Rattle.lock_index.proofs.NameLemmas.{front_found, front_next, all_fronts}
use Rattle.lock_index.proofs.overlaps.NumberIndex+KeyBytes.any_above.Goals as goal

pub returns-then-any_passes : goal.returns-then-any_passes
returns-then-any_passes g c =
    let test : ℕ → Bool = g.T.NumberTest.passes c.args.test.now in
    let any : list_any test (numbers_at key_cmp c.loop-shorter.bytes.items c.args.self.now) ≡ true = ap (λ (b : List ℕ). list_any test (numbers_at key_cmp b c.args.self.now)) (sym c.from_vec-front.ensures) ∙ ap (list_any test) (sym c.numbers.ensures) ∙ sym c.any_passes.ensures ∙ c.if-any_passes.true in
    sym (front_found c.args.name.now test c.args.self.now c.loop-shorter._shorter c.loop-shorter.bytes.items c.loop-shorter.invariant any)

pub loop-shorter-preserved : goal.loop-shorter-preserved
loop-shorter-preserved g c =
    let test : ℕ → Bool = g.T.NumberTest.passes c.args.test.now in
    let none : list_any test (numbers_at key_cmp c.loop-shorter.bytes.items c.args.self.now) ≡ false = ap (λ (b : List ℕ). list_any test (numbers_at key_cmp b c.args.self.now)) (sym c.from_vec-front.ensures) ∙ ap (list_any test) (sym c.numbers.ensures) ∙ sym c.any_passes.ensures ∙ c.if-any_passes.false in
    let shorter : c.pop.new.self.items ≡ take (length c.loop-shorter.bytes.items - 1) c.loop-shorter.bytes.items = search rules in
    let within : c.loop-shorter._shorter < length c.args.name.now + 1 = grind (arith, c.as_slice.ensures, c.loop-shorter-test.true) in
    front_next c.args.name.now test c.args.self.now c.loop-shorter._shorter c.loop-shorter.bytes.items c.pop.new.self.items c.loop-shorter.invariant within shorter none

pub returns : goal.returns
returns g c =
    let sorted = subst (λ (es : List (List ℕ × List ℕ)). IsStrictlySortedBy key_cmp (keys_of es)) c.self.view_is c.len.ensures.ordered in
    let all : length c.args.name.now + 1 ≤ c.loop-shorter._shorter = grind (arith, c.as_slice.ensures, c.loop-shorter-test.false) in
    sym (all_fronts c.args.name.now (g.T.NumberTest.passes c.args.test.now) c.args.self.now c.loop-shorter._shorter c.loop-shorter.bytes.items c.loop-shorter.invariant all sorted)
