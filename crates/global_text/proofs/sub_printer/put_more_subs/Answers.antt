use Rattle.std.proofs.Common.{[], ◌∷◌}
use Rattle.global_text.proofs.Fronts.{front_trans, front_longer}
use Rattle.global_text.proofs.sub_printer.put_more_subs.Goals as goal

pub returns-in_err-put_sub-clause-front : goal.returns-in_err-put_sub-clause-front
returns-in_err-put_sub-clause-front c =
    front_trans c.args.to.now.items c.loop-sub.to.items c.put_sub.new.to.items c.loop-sub.invariant.front
    (front_trans c.loop-sub.to.items c.push.new.self.items c.put_sub.new.to.items (front_longer c.loop-sub.to.items c.push.new.self.items (44 ∷ []) c.in_ok-push.ensures.items) c.put_sub.ensures.front)
