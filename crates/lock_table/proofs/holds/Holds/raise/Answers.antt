use Rattle.std.proofs.Common.{◌≡◌, ◌+◌, ◌<◌, ◌≤◌, ◌^◌, List, [], ◌∷◌, ◌++◌, Some, None, rules, sym, ap, subst, refl, arith}
use Rattle.std.specs.List.{find}
use Rattle.std.specs.Map.{values_of, set_value}
use Rattle.std.specs.BTreeMap.{is_at}
use Rattle.std.specs.Ordering.{nat_cmp}
use Rattle.lock_index.specs.IndexWords.{row_at, passes_at}
use Rattle.lock_table.specs.declared.rows.Hold.{Hold}
use Rattle.lock_table.specs.LockWords.{is_lane, raised}
use Rattle.lock_table.specs.Counts.{held_count}
use Rattle.lock_table.specs.HoldIndex.{IsNameIndex}
use Rattle.lock_table.proofs.HoldLemmas.{raised_row, raised_new, count_there, first_passes, first_not_none}
use Rattle.lock_table.proofs.IndexLemmas.{lane_is, name_changed}
use Rattle.lock_table.proofs.holds.Holds.raise.Goals as goal

pub returns-in_default-clause-ok : goal.returns-in_default-clause-ok
returns-in_default-clause-ok c =
    let found : find (passes_at (is_lane c.args.hold.who c.args.hold.name c.args.hold.mode) c.self.inside.rows.entries) c.numbers-numbers.result.now ≡ None = search rules in
    let lane = lane_is c.args.hold.who c.args.hold.name c.args.hold.mode c.self.inside.next c.self.inside.names c.self.inside.rows.entries c.numbers-numbers.result.now None c.self.invariant c.numbers-numbers.ensures found in
    let same = subst (λ (hs : List Hold). raised c.args.hold.who c.args.hold.name c.args.hold.mode c.args.hold.count c.args.hold.at hs ≡ hs ++ c.args.hold ∷ []) c.self.view_is
    (raised_new c.args.hold.who c.args.hold.name c.args.hold.mode c.args.hold.count c.args.hold.at c.self.inside.rows.entries lane) in
    rw same c.push.ensures.ok

pub returns-in_default-get_mut-clause-ok : goal.returns-in_default-get_mut-clause-ok
returns-in_default-get_mut-clause-ok c =
    let found : find (passes_at (is_lane c.args.hold.who c.args.hold.name c.args.hold.mode) c.self.inside.rows.entries) c.numbers-numbers.result.now ≡ Some c.in-Some.number = search rules in
    let lane = lane_is c.args.hold.who c.args.hold.name c.args.hold.mode c.self.inside.next c.self.inside.names c.self.inside.rows.entries c.numbers-numbers.result.now (Some c.in-Some.number) c.self.invariant c.numbers-numbers.ensures found in
    let none : row_at c.self.inside.rows.entries c.in-Some.number ≡ None = search rules in
    absurd (first_not_none (is_lane c.args.hold.who c.args.hold.name c.args.hold.mode) c.in-Some.number c.self.inside.rows.entries c.self.invariant.rising lane none)

pub overflow_add-held : goal.overflow_add-held
overflow_add-held c =
    let found : find (passes_at (is_lane c.args.hold.who c.args.hold.name c.args.hold.mode) c.self.inside.rows.entries) c.numbers-numbers.result.now ≡ Some c.in-Some.number = search rules in
    let lane = lane_is c.args.hold.who c.args.hold.name c.args.hold.mode c.self.inside.next c.self.inside.names c.self.inside.rows.entries c.numbers-numbers.result.now (Some c.in-Some.number) c.self.invariant c.numbers-numbers.ensures found in
    let there : row_at c.self.inside.rows.entries c.in-Some.number ≡ Some c.in-Some-get_mut.held.now = search rules in
    let own = first_passes (is_lane c.args.hold.who c.args.hold.name c.args.hold.mode) c.in-Some.number c.self.inside.rows.entries c.in-Some-get_mut.held.now c.self.invariant.rising lane there in
    let count : c.in-Some-get_mut.held.now.count ≤ held_count c.args.hold.who c.args.hold.name c.args.hold.mode (values_of c.self.inside.rows.entries) =
    count_there c.args.hold.who c.args.hold.name c.args.hold.mode c.in-Some.number c.self.inside.rows.entries c.in-Some-get_mut.held.now there own in
    let room : held_count c.args.hold.who c.args.hold.name c.args.hold.mode (values_of c.self.inside.rows.entries) + c.args.hold.count < 2 ^ 32 = rw c.self.view_is c.requires.room in
    omega (arith, count, room)

pub invariant_of-self-2 : goal.invariant_of-self-2
invariant_of-self-2 c =
    let there : row_at c.self.inside.rows.entries c.in-Some.number ≡ Some c.in-Some-get_mut.held.now = search rules in
    let more : Hold = record c.in-Some-get_mut.held.now { count = c.in-Some-get_mut.held.now.count + c.args.hold.count } in
    let written : (c.get_mut.follows.lender more).entries ≡ set_value (is_at (nat_cmp c.in-Some.number)) c.self.inside.rows.entries more = search rules in
    subst (IsNameIndex c.self.inside.next c.self.inside.names) (sym written)
    (name_changed c.self.inside.next c.in-Some.number c.self.inside.names c.self.inside.rows.entries c.in-Some-get_mut.held.now more c.self.invariant there refl)

pub returns-clause-ok : goal.returns-clause-ok
returns-clause-ok c =
    let found : find (passes_at (is_lane c.args.hold.who c.args.hold.name c.args.hold.mode) c.self.inside.rows.entries) c.numbers-numbers.result.now ≡ Some c.in-Some.number = search rules in
    let lane = lane_is c.args.hold.who c.args.hold.name c.args.hold.mode c.self.inside.next c.self.inside.names c.self.inside.rows.entries c.numbers-numbers.result.now (Some c.in-Some.number) c.self.invariant c.numbers-numbers.ensures found in
    let there : row_at c.self.inside.rows.entries c.in-Some.number ≡ Some c.in-Some-get_mut.held.now = search rules in
    let more : Hold = record c.in-Some-get_mut.held.now { count = c.in-Some-get_mut.held.now.count + c.args.hold.count } in
    let written : (c.get_mut.follows.lender more).entries ≡ set_value (is_at (nat_cmp c.in-Some.number)) c.self.inside.rows.entries more = search rules in
    rw (← c.self.view_is, raised_row c.args.hold.who c.args.hold.name c.args.hold.mode c.in-Some.number c.args.hold.count c.args.hold.at c.self.inside.rows.entries c.in-Some-get_mut.held.now c.self.invariant.rising lane there) (ap values_of written)
