use Rattle.std.proofs.Common.{◌≡◌, ℕ, List, Some, None, rules, refl, sym, ◌∙◌, ap, subst}
use Rattle.std.specs.List.{find}
use Rattle.std.specs.List.Sorted.{IsStrictlySortedBy}
use Rattle.std.specs.Map.{keys_of, values_of, remove_entry, set_value}
use Rattle.std.specs.BTreeMap.{is_at}
use Rattle.std.specs.Ordering.{nat_cmp}
use Rattle.std.proofs.lemmas.Bool.{ne_eqb}
use Rattle.std.proofs.lemmas.Map.Steps.{set_value_same}
use Rattle.lock_index.specs.IndexWords.{row_at, passes_at}
use Rattle.lock_table.specs.declared.rows.Hold.{Hold}
use Rattle.lock_table.specs.LockWords.{is_lane}
use Rattle.lock_table.specs.HoldIndex.{IsNameIndex}
use Rattle.lock_table.proofs.HoldLemmas.{lowered_none, lowered_row, first_passes, first_not_none, lane_named}
use Rattle.lock_table.proofs.IndexLemmas.{lane_is, name_changed, name_removed}
use Rattle.lock_table.proofs.holds.Holds.lower.Goals as goal

pub returns-in_default : goal.returns-in_default
returns-in_default c =
    let found : find (passes_at (is_lane c.args.who c.args.name.now c.args.mode) c.self.inside.rows.entries) c.numbers-numbers.result.now ≡ None = search rules in
    let lane = lane_is c.args.who c.args.name.now c.args.mode c.self.inside.next c.self.inside.names c.self.inside.rows.entries c.numbers-numbers.result.now None c.self.invariant c.numbers-numbers.ensures found in
    rw (← c.self.view_is) (sym (lowered_none c.args.who c.args.name.now c.args.mode c.self.inside.rows.entries lane))

pub returns-in_default-get_mut : goal.returns-in_default-get_mut
returns-in_default-get_mut c =
    let found : find (passes_at (is_lane c.args.who c.args.name.now c.args.mode) c.self.inside.rows.entries) c.numbers-numbers.result.now ≡ Some c.in-Some.number = search rules in
    let lane = lane_is c.args.who c.args.name.now c.args.mode c.self.inside.next c.self.inside.names c.self.inside.rows.entries c.numbers-numbers.result.now (Some c.in-Some.number) c.self.invariant c.numbers-numbers.ensures found in
    let none : row_at c.self.inside.rows.entries c.in-Some.number ≡ None = search rules in
    absurd (first_not_none (is_lane c.args.who c.args.name.now c.args.mode) c.in-Some.number c.self.inside.rows.entries c.self.invariant.rising lane none)

pub invariant_of-self-then-hold-ne1 : goal.invariant_of-self-then-hold-ne1
invariant_of-self-then-hold-ne1 c =
    let there : row_at c.self.inside.rows.entries c.in-Some.number ≡ Some c.in-Some-get_mut.hold.now = search rules in
    let less : Hold = record c.in-Some-get_mut.hold.now { count = c.saturating_sub-hold.result } in
    let written : (c.get_mut.follows.lender less).entries ≡ set_value (is_at (nat_cmp c.in-Some.number)) c.self.inside.rows.entries less = search rules in
    subst (IsNameIndex c.self.inside.next c.self.inside.names) (sym written)
    (name_changed c.self.inside.next c.in-Some.number c.self.inside.names c.self.inside.rows.entries c.in-Some-get_mut.hold.now less c.self.invariant there refl)

pub returns-then-hold-ne1 : goal.returns-then-hold-ne1
returns-then-hold-ne1 c =
    let found : find (passes_at (is_lane c.args.who c.args.name.now c.args.mode) c.self.inside.rows.entries) c.numbers-numbers.result.now ≡ Some c.in-Some.number = search rules in
    let lane = lane_is c.args.who c.args.name.now c.args.mode c.self.inside.next c.self.inside.names c.self.inside.rows.entries c.numbers-numbers.result.now (Some c.in-Some.number) c.self.invariant c.numbers-numbers.ensures found in
    let there : row_at c.self.inside.rows.entries c.in-Some.number ≡ Some c.in-Some-get_mut.hold.now = search rules in
    let less : Hold = record c.in-Some-get_mut.hold.now { count = c.saturating_sub-hold.result } in
    let written : (c.get_mut.follows.lender less).entries ≡ set_value (is_at (nat_cmp c.in-Some.number)) c.self.inside.rows.entries less = search rules in
    rw (← c.self.view_is, lowered_row c.args.who c.args.name.now c.args.mode c.in-Some.number c.self.inside.rows.entries c.in-Some-get_mut.hold.now c.self.invariant.rising lane there, ne_eqb _ _ c.if-hold-ne1.true)
    (ap values_of written ∙ ap (λ (k : ℕ). values_of (set_value (is_at (nat_cmp c.in-Some.number)) c.self.inside.rows.entries (record c.in-Some-get_mut.hold.now { count = k }))) c.saturating_sub-hold.ensures)

pub invariant_of-self-2 : goal.invariant_of-self-2
invariant_of-self-2 c =
    let found : find (passes_at (is_lane c.args.who c.args.name.now c.args.mode) c.self.inside.rows.entries) c.numbers-numbers.result.now ≡ Some c.in-Some.number = search rules in
    let lane = lane_is c.args.who c.args.name.now c.args.mode c.self.inside.next c.self.inside.names c.self.inside.rows.entries c.numbers-numbers.result.now (Some c.in-Some.number) c.self.invariant c.numbers-numbers.ensures found in
    let there : row_at c.self.inside.rows.entries c.in-Some.number ≡ Some c.in-Some-get_mut.hold.now = search rules in
    let written : (c.get_mut.follows.lender c.in-Some-get_mut.hold.now).entries ≡ set_value (is_at (nat_cmp c.in-Some.number)) c.self.inside.rows.entries c.in-Some-get_mut.hold.now = search rules in
    let removed : c.remove.new.self.entries ≡ remove_entry (is_at (nat_cmp c.in-Some.number)) c.self.inside.rows.entries =
    c.remove.ensures.entries ∙ ap (remove_entry (is_at (nat_cmp c.in-Some.number))) (written ∙ set_value_same (is_at (nat_cmp c.in-Some.number)) c.self.inside.rows.entries c.in-Some-get_mut.hold.now there) in
    let own = lane_named c.args.who c.args.name.now c.args.mode c.in-Some-get_mut.hold.now (first_passes (is_lane c.args.who c.args.name.now c.args.mode) c.in-Some.number c.self.inside.rows.entries c.in-Some-get_mut.hold.now c.self.invariant.rising lane there) in
    let rising = subst (λ (es : List (ℕ × Hold)). IsStrictlySortedBy nat_cmp (keys_of es)) removed c.remove.ensures.ordered in
    subst (IsNameIndex c.self.inside.next c.remove-2.new.self) (sym removed)
    (name_removed c.self.inside.next c.in-Some.number c.self.inside.names c.remove-2.new.self c.self.inside.rows.entries c.in-Some-get_mut.hold.now c.args.name.now c.self.invariant there own rising c.remove-2.ensures)

pub returns : goal.returns
returns c =
    let found : find (passes_at (is_lane c.args.who c.args.name.now c.args.mode) c.self.inside.rows.entries) c.numbers-numbers.result.now ≡ Some c.in-Some.number = search rules in
    let lane = lane_is c.args.who c.args.name.now c.args.mode c.self.inside.next c.self.inside.names c.self.inside.rows.entries c.numbers-numbers.result.now (Some c.in-Some.number) c.self.invariant c.numbers-numbers.ensures found in
    let there : row_at c.self.inside.rows.entries c.in-Some.number ≡ Some c.in-Some-get_mut.hold.now = search rules in
    let written : (c.get_mut.follows.lender c.in-Some-get_mut.hold.now).entries ≡ set_value (is_at (nat_cmp c.in-Some.number)) c.self.inside.rows.entries c.in-Some-get_mut.hold.now = search rules in
    let removed : c.remove.new.self.entries ≡ remove_entry (is_at (nat_cmp c.in-Some.number)) c.self.inside.rows.entries =
    c.remove.ensures.entries ∙ ap (remove_entry (is_at (nat_cmp c.in-Some.number))) (written ∙ set_value_same (is_at (nat_cmp c.in-Some.number)) c.self.inside.rows.entries c.in-Some-get_mut.hold.now there) in
    rw (← c.self.view_is, lowered_row c.args.who c.args.name.now c.args.mode c.in-Some.number c.self.inside.rows.entries c.in-Some-get_mut.hold.now c.self.invariant.rising lane there, c.if-hold-ne1.false) (ap values_of removed)
