use Rattle.std.proofs.Common.{subst}
use Rattle.lock_index.specs.TicketWords.{IsTicketIndex}
use Rattle.lock_index.proofs.TicketLemmas.{ticket_popped}
use Rattle.lock_index.proofs.ticket_list.TicketList.drop_last.Goals as goal

pub invariant_of-self : goal.invariant_of-self
invariant_of-self g c =
    ticket_popped g.T.Ticketed.session g.T.Ticketed.ticket c.self.inside.next c.self.inside.index c.remove.new.self c.pop_last.new.self.entries c.in-Some.number c.in-Some.row
    (subst (IsTicketIndex g.T.Ticketed.session g.T.Ticketed.ticket c.self.inside.next c.self.inside.index) c.in-Some.ensures.removal c.self.invariant)
    c.pop_last.ensures.ordered (rw (← c.session.ensures, ← c.ticket.ensures) c.remove.ensures)
