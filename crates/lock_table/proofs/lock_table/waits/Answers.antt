use Rattle.std.proofs.Common.{◌≡◌, ◌⊎◌, inl, inr, Bool, true, false, not, ◌&&◌, ◌||◌, rules, sym, ◌∙◌, ap}
use Rattle.std.specs.List.{list_any}
use Rattle.plain_orders.specs.declared.mode.Mode.TheVariants.{Exclusive, Shared}
use Rattle.lock_table.specs.LockWords.{is_barred, is_lane, has_name, goes_before}
use Rattle.lock_table.specs.Counts.{is_of_holder}
use Rattle.lock_table.proofs.HoldLemmas.{in_either_mode}
use Rattle.lock_table.proofs.lock_table.waits.Goals as goal

-- one of two is true
one_of_two : (a b : Bool) → (a ≡ true) ⊎ (a ≡ false × b ≡ true) → (a || b) ≡ true
one_of_two a b (inl first) = ap (λ (x : Bool). x || b) first
one_of_two a b (inr second) = ap (λ (x : Bool). x || b) second.0 ∙ second.1

pub returns-then-exclusive : goal.returns-then-exclusive
returns-then-exclusive c =
    let none : list_any (is_barred c.args.request.now.who c.args.request.now.name c.args.request.now.mode) c.args.holds.now ≡ false = search rules in
    let other : list_any (is_of_holder c.args.request.now.who c.args.request.now.name) c.args.holds.now ≡ true =
    in_either_mode c.args.request.now.who c.args.request.now.name c.args.holds.now
    ∙ sym (ap (λ (b : Bool). b || list_any (is_lane c.args.request.now.who c.args.request.now.name Shared) c.args.holds.now) c.have-exclusive.ensures)
    ∙ sym (ap (λ (b : Bool). c.have-exclusive.result || b) c.have-shared.ensures)
    ∙ one_of_two c.have-exclusive.result c.have-shared.result c.then-exclusive.either in
    sym (ap (λ (b : Bool). b || (not (list_any (has_name c.args.request.now) c.args.holds.now) && list_any (goes_before c.args.request.now) c.args.earlier.now)) none
    ∙ ap (λ (b : Bool). not b && list_any (goes_before c.args.request.now) c.args.earlier.now) other)

pub returns : goal.returns
returns c =
    let none : list_any (is_barred c.args.request.now.who c.args.request.now.name c.args.request.now.mode) c.args.holds.now ≡ false = search rules in
    let exclusive : list_any (is_lane c.args.request.now.who c.args.request.now.name Exclusive) c.args.holds.now ≡ false = search rules in
    let shared : list_any (is_lane c.args.request.now.who c.args.request.now.name Shared) c.args.holds.now ≡ false = search rules in
    let other : list_any (is_of_holder c.args.request.now.who c.args.request.now.name) c.args.holds.now ≡ false =
    in_either_mode c.args.request.now.who c.args.request.now.name c.args.holds.now ∙ ap (λ (b : Bool). b || list_any (is_lane c.args.request.now.who c.args.request.now.name Shared) c.args.holds.now) exclusive ∙ shared in
    let behind : c.is_behind.result ≡ list_any (goes_before c.args.request.now) c.args.earlier.now = c.is_behind.ensures in
    behind
    ∙ sym (ap (λ (b : Bool). b || (not (list_any (has_name c.args.request.now) c.args.holds.now) && list_any (goes_before c.args.request.now) c.args.earlier.now)) none
    ∙ ap (λ (b : Bool). not b && list_any (goes_before c.args.request.now) c.args.earlier.now) other)
