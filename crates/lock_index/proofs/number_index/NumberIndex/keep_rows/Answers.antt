use Rattle.std.proofs.Common.{ℕ, Bool, rules}
use Rattle.std.proofs.lemmas.Map.Made.{map_same_pairs, filter_same_pairs}
use Rattle.std.specs.List.{filter}
use Rattle.lock_index.specs.IndexWords.{has_row}
use Rattle.lock_index.proofs.KeyLemmas.{kept_at, is_some_number}
use Rattle.lock_index.proofs.number_index.NumberIndex.keep_rows.Goals as goal

pub returns : goal.returns
returns g c = λ q.
    let test : ℕ → Bool = has_row c.args.rows.now.entries in
    let kept = map_same_pairs _ (filter test) _ (λ k v b w f t. search rules) _ _ c.retain.ensures.filtered in
    let full = filter_same_pairs _ (is_some_number g.row.K.Denot) _ (λ k v b w f t. search rules) _ _ c.retain-2.ensures.filtered in
    rw (← c.self.view_is) (kept_at g.met.K.Ord.total test q _ _ _ kept full c.retain-2.ensures.was_ordered)
