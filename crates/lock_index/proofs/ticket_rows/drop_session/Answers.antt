use Rattle.std.proofs.Common.{rules}
use Rattle.std.proofs.lemmas.Fn.{filter_same}
use Rattle.lock_index.specs.TicketWords.{is_elsewhere}
use Rattle.lock_index.proofs.ticket_rows.drop_session.Goals as goal

pub returns : goal.returns
returns g c = filter_same _ (is_elsewhere g.T.Ticketed.session c.args.session) _ (λ x b f t. search rules) _ _ c.retain.ensures.filtered
