use Rattle.std.proofs.Common.{◌∙◌, sym, ap}
use Rattle.std.specs.Option.{option_copied}
use Rattle.lock_index.specs.TicketWords.{has_ticket}
use Rattle.lock_index.proofs.RowLemmas.{no_first, first_row}
use Rattle.lock_index.proofs.KeyLemmas.{first_none, first_some}
use Rattle.lock_index.proofs.ticket_list.TicketList.first_with.Goals as goal

pub returns-in_err-number : goal.returns-in_err-number
returns-in_err-number g c =
    let none = first_none c.numbers.result.now (sym c.first.ensures.value ∙ ap option_copied c.in_err-number.was) in
    let found = no_first (has_ticket g.T.Ticketed.session g.T.Ticketed.ticket c.args.session c.args.ticket) c.self.inside.rows.entries (sym (c.self.invariant.tickets c.args.session c.args.ticket) ∙ sym c.numbers.ensures ∙ none) in
    rw (← c.self.view_is, c.from_residual.ensures) (sym found)

pub returns : goal.returns
returns g c =
    let some = first_some c.numbers.result.now c.in_ok-number.number.now (sym c.first.ensures.value ∙ ap option_copied c.in_ok-number.was) in
    let found = first_row (has_ticket g.T.Ticketed.session g.T.Ticketed.ticket c.args.session c.args.ticket) c.self.inside.rows.entries c.in_ok-number.number.now some.0 c.self.invariant.rising (sym (c.self.invariant.tickets c.args.session c.args.ticket) ∙ sym c.numbers.ensures ∙ some.1) in
    rw (← c.self.view_is) (c.get.ensures.value ∙ found)
