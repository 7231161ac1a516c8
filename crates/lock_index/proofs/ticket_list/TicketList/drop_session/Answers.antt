use Rattle.std.proofs.Common.{ℕ, rules, ap, ◌∙◌}
use Rattle.std.specs.Map.{values_of}
use Rattle.std.proofs.lemmas.Map.Made.{filter_same_pairs}
use Rattle.lock_index.specs.TicketWords.{is_elsewhere}
use Rattle.lock_index.proofs.RowLemmas.{values_filtered}
use Rattle.lock_index.proofs.TicketLemmas.{ticket_kept}
use Rattle.lock_index.proofs.ticket_list.TicketList.drop_session.Goals as goal

pub invariant_of-self : goal.invariant_of-self
invariant_of-self g c =
    let left = filter_same_pairs _ (λ (e : ℕ × g.row.T.Denot). is_elsewhere g.T.Ticketed.session c.args.session e.1) _ (λ k v b w f t. search rules) _ _ c.retain.ensures.filtered in
    ticket_kept g.T.Ticketed.session g.T.Ticketed.ticket c.args.session c.self.inside.next c.self.inside.index c.keep_rows.new.self c.self.inside.rows.entries c.retain.new.self.entries c.self.invariant left c.keep_rows.ensures

pub returns : goal.returns
returns g c =
    let left = filter_same_pairs _ (λ (e : ℕ × g.row.T.Denot). is_elsewhere g.T.Ticketed.session c.args.session e.1) _ (λ k v b w f t. search rules) _ _ c.retain.ensures.filtered in
    rw (← c.self.view_is) (ap values_of left ∙ values_filtered (is_elsewhere g.T.Ticketed.session c.args.session) c.self.inside.rows.entries)
