use Rattle.std.proofs.Common.{[], ◌∷◌}
use Rattle.global_text.proofs.Fronts.{front_trans, front_longer}
use Rattle.global_text.proofs.node_printer.put_node.Goals as goal

pub returns-clause-front : goal.returns-clause-front
returns-clause-front c =
    front_trans c.args.to.now.items c.push.new.self.items c.put_subs.new.to.items (front_longer c.args.to.now.items c.push.new.self.items (94 ∷ []) c.in_ok-push.ensures.items)
    (front_trans c.push.new.self.items c.extend_from_slice.new.self.items c.put_subs.new.to.items (front_longer c.push.new.self.items c.extend_from_slice.new.self.items c.as_slice.result.now c.in_ok-extend_from_slice.ensures.items) c.put_subs.ensures.front)
