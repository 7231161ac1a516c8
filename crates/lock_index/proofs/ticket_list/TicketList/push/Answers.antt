use Rattle.lock_index.proofs.TicketLemmas.{ticket_pushed}
use Rattle.lock_index.proofs.ticket_list.TicketList.push.Goals as goal

pub invariant_of-self-2 : goal.invariant_of-self-2
invariant_of-self-2 g c =
    rw c.in_ok-push_row.ensures.rows
    (ticket_pushed g.T.Ticketed.session g.T.Ticketed.ticket c.self.inside.next c.self.inside.index c.push_row.new.index c.self.inside.rows.entries c.args.row c.self.invariant
    (rw (← c.session.ensures, ← c.ticket.ensures) c.in_ok-push_row.ensures.index))
