use Rattle.std.proofs.Common.{ℕ, rules, ap, ◌∙◌}
use Rattle.std.specs.Map.{values_of}
use Rattle.std.proofs.lemmas.Map.Made.{filter_same_pairs}
use Rattle.lock_index.proofs.RowLemmas.{values_filtered}
use Rattle.lock_table.specs.declared.rows.Hold.{Hold}
use Rattle.lock_table.specs.LockWords.{is_hold_elsewhere}
use Rattle.lock_table.proofs.IndexLemmas.{name_kept}
use Rattle.lock_table.proofs.holds.Holds.drop_session.Goals as goal

pub invariant_of-self : goal.invariant_of-self
invariant_of-self c =
    let left = filter_same_pairs _ (λ (e : ℕ × Hold). is_hold_elsewhere c.args.session e.1) _ (λ k v b w f t. search rules) _ _ c.retain.ensures.filtered in
    name_kept c.args.session c.self.inside.next c.self.inside.names c.keep_rows.new.self c.self.inside.rows.entries c.retain.new.self.entries c.self.invariant left c.keep_rows.ensures

pub returns : goal.returns
returns c =
    let left = filter_same_pairs _ (λ (e : ℕ × Hold). is_hold_elsewhere c.args.session e.1) _ (λ k v b w f t. search rules) _ _ c.retain.ensures.filtered in
    rw (← c.self.view_is) (ap values_of left ∙ values_filtered (is_hold_elsewhere c.args.session) c.self.inside.rows.entries)
