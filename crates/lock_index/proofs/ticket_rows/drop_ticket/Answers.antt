use Rattle.std.proofs.Common.{rules}
use Rattle.std.proofs.lemmas.Fn.{filter_same}
use Rattle.lock_index.specs.TicketWords.{has_other_ticket}
use Rattle.lock_index.proofs.ticket_rows.drop_ticket.Goals as goal

pub returns : goal.returns
returns g c = filter_same _ (has_other_ticket g.T.Ticketed.session g.T.Ticketed.ticket c.args.session c.args.ticket) _ (λ x b f t. search rules) _ _ c.retain.ensures.filtered
