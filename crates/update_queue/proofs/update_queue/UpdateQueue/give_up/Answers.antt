use Rattle.std.proofs.Common.{◌≡◌, ◌+◌, ◌≤◌, length, drop, rules, arith, ◌-◌, length-drop}
use Rattle.std.proofs.lemmas.Grind.{common_steps}
use Rattle.std.specs.Vec.{vec_capacity}
use Rattle.update_queue.specs.declared.update_queue.TheConstants.{PLACES}
use Rattle.update_queue.specs.Items.{IsInOrder}
use Rattle.update_queue.proofs.ItemLemmas.{in_order_behind}
use Rattle.update_queue.proofs.update_queue.UpdateQueue.give_up.Goals as goal

pub invariant_of-self : goal.invariant_of-self
invariant_of-self c =
    let items : c.drop.new.self.0.items ≡ drop (c.self.inside.given_up + c.args.count) c.self.inside.items.items = search rules in
    let capacity : PLACES ≤ vec_capacity c.drop.new.self.0 = omega (arith, c.drop.ensures.capacity, c.drain.ensures.capacity, c.self.invariant.2) in
    let len : length c.drop.new.self.0.items ≡ length c.self.inside.items.items - (c.self.inside.given_up + c.args.count) = rw (items, length-drop) in
    let order : IsInOrder c.drop.new.self.0.items = rw items (in_order_behind c.self.inside.given_up c.args.count c.self.inside.items.items c.self.invariant.3) in
    (grind (arith, common_steps), omega arith, capacity, order)

pub invariant_of-self-else-self-len : goal.invariant_of-self-else-self-len
invariant_of-self-else-self-len c =
    (omega (arith, c.self.invariant.0), omega arith, c.self.invariant.2, in_order_behind c.self.inside.given_up c.args.count c.self.inside.items.items c.self.invariant.3)
