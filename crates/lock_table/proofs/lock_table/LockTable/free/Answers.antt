use Rattle.lock_table.proofs.CountLemmas.{fit_lowered}
use Rattle.lock_table.proofs.lock_table.LockTable.free.Goals as goal

pub invariant_of-self : goal.invariant_of-self
invariant_of-self c = rw c.lower.ensures (fit_lowered c.args.who c.args.name.now c.args.mode c.self.inside.holds c.self.inside.requests.items c.self.invariant)
