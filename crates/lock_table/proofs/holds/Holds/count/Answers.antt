use Rattle.std.proofs.Common.{◌≡◌, ℕ, ◌+◌, ◌<◌, ◌≤◌, ◌^◌, length, take, get_or, sym, ◌∙◌, ap, arith}
use Rattle.std.specs.List.{sum_by}
use Rattle.std.specs.Map.{values_of}
use Rattle.std.proofs.lemmas.List.Sums.{sum_by_more, sum_by_more_le}
use Rattle.lock_table.specs.Counts.{held_count, count_in}
use Rattle.lock_table.specs.HoldIndex.{is_named, weight_at}
use Rattle.lock_table.proofs.HoldLemmas.{sum_numbered, other_name, take_all}
use Rattle.lock_table.proofs.holds.Holds.count.Goals as goal

pub overflow_add-total : goal.overflow_add-total
overflow_add-total c =
    let f : ℕ → ℕ = weight_at (count_in c.args.who c.args.name.now c.args.mode) c.self.inside.rows.entries in
    let all : sum_by f c.numbers-numbers.result.now ≡ held_count c.args.who c.args.name.now c.args.mode (values_of c.self.inside.rows.entries) =
    ap (sum_by f) (c.numbers-numbers.ensures ∙ c.self.invariant.named c.args.name.now) ∙ sum_numbered (is_named c.args.name.now) (count_in c.args.who c.args.name.now c.args.mode) (other_name c.args.who c.args.name.now c.args.mode) c.self.inside.rows.entries c.self.invariant.rising in
    let le : sum_by f (take c.loop-number.number-index c.numbers-numbers.result.now) + f (get_or c.numbers-numbers.result.now c.loop-number.number-index 0) ≤ sum_by f c.numbers-numbers.result.now = sum_by_more_le f c.numbers-numbers.result.now c.loop-number.number-index 0 c.loop-number-test.true in
    let total : c.loop-number.total ≡ sum_by f (take c.loop-number.number-index c.numbers-numbers.result.now) = c.loop-number.invariant in
    let one : c.lane_count-total.result ≡ f (get_or c.numbers-numbers.result.now c.loop-number.number-index 0) = c.lane_count-total.ensures in
    let room : held_count c.args.who c.args.name.now c.args.mode (values_of c.self.inside.rows.entries) < 2 ^ 32 = rw c.self.view_is c.requires in
    omega (arith, all, le, total, one, room)

pub loop-number-preserved : goal.loop-number-preserved
loop-number-preserved c =
    let f : ℕ → ℕ = weight_at (count_in c.args.who c.args.name.now c.args.mode) c.self.inside.rows.entries in
    let more : sum_by f (take (c.loop-number.number-index + 1) c.numbers-numbers.result.now) ≡ sum_by f (take c.loop-number.number-index c.numbers-numbers.result.now) + f (get_or c.numbers-numbers.result.now c.loop-number.number-index 0) = sum_by_more f c.numbers-numbers.result.now c.loop-number.number-index 0 c.loop-number-test.true in
    let total : c.loop-number.total ≡ sum_by f (take c.loop-number.number-index c.numbers-numbers.result.now) = c.loop-number.invariant in
    let one : c.lane_count-total.result ≡ f (get_or c.numbers-numbers.result.now c.loop-number.number-index 0) = c.lane_count-total.ensures in
    ap (λ (k : ℕ). k + c.lane_count-total.result) total ∙ ap (λ (k : ℕ). sum_by f (take c.loop-number.number-index c.numbers-numbers.result.now) + k) one ∙ sym more

pub returns : goal.returns
returns c =
    let f : ℕ → ℕ = weight_at (count_in c.args.who c.args.name.now c.args.mode) c.self.inside.rows.entries in
    let all : sum_by f c.numbers-numbers.result.now ≡ held_count c.args.who c.args.name.now c.args.mode (values_of c.self.inside.rows.entries) =
    ap (sum_by f) (c.numbers-numbers.ensures ∙ c.self.invariant.named c.args.name.now) ∙ sum_numbered (is_named c.args.name.now) (count_in c.args.who c.args.name.now c.args.mode) (other_name c.args.who c.args.name.now c.args.mode) c.self.inside.rows.entries c.self.invariant.rising in
    let done : length c.numbers-numbers.result.now ≤ c.loop-number.number-index = grind (arith, c.loop-number-test.false) in
    rw (← c.self.view_is) (c.loop-number.invariant ∙ ap (sum_by f) (take_all c.loop-number.number-index c.numbers-numbers.result.now done) ∙ all)
