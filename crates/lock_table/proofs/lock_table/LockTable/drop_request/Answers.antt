use Rattle.lock_table.specs.LockWords.{is_other_ticket}
use Rattle.lock_table.proofs.CountLemmas.{fit_dropped}
use Rattle.lock_table.proofs.lock_table.LockTable.drop_request.Goals as goal

pub invariant_of-self : goal.invariant_of-self
invariant_of-self c =
    rw c.drop_ticket.ensures (fit_dropped (is_other_ticket c.args.session c.args.ticket) c.self.inside.holds c.self.inside.requests.items c.self.invariant)
