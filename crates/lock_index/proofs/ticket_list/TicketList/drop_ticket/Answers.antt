use Rattle.lock_index.proofs.TicketLemmas.{ticket_dropped, values_without}
use Rattle.lock_index.proofs.ticket_list.TicketList.drop_ticket.Goals as goal

pub invariant_of-self : goal.invariant_of-self
invariant_of-self g c =
    rw (c.remove_rows.ensures, c.as_slice.ensures.value)
    (ticket_dropped g.T.Ticketed.session g.T.Ticketed.ticket c.args.session c.args.ticket c.self.inside.next c.self.inside.index c.take-numbers.new.self c.self.inside.rows.entries c.take-numbers.result.items c.self.invariant c.take-numbers.ensures.value c.take-numbers.ensures.rest)

pub returns : goal.returns
returns g c =
    rw (← c.self.view_is, c.remove_rows.ensures, c.as_slice.ensures.value)
    (values_without g.T.Ticketed.session g.T.Ticketed.ticket c.args.session c.args.ticket c.self.inside.next c.self.inside.index c.self.inside.rows.entries c.take-numbers.result.items c.self.invariant c.take-numbers.ensures.value)
