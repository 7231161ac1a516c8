use Rattle.std.proofs.Common.{[], ◌∷◌, refl, arith, rules, inl, inr}
use Rattle.std.specs.Prelude.{false}
use Rattle.script_fits.specs.Locking.{no_past}
use Rattle.fit_examples.specs.Groups.{two, past_with, held_x}
use Rattle.fit_examples.proofs.Hearing.{told_kept}
use Rattle.fit_examples.proofs.EndLaws.{no_commit}
use Rattle.fit_examples.proofs.examples.held_back_examples.Goals as goal

pub returns : goal.returns
returns c = (
  (inr (_, (_, _, refl, refl), refl, refl, inl (refl, (_ ∷ _ ∷ [], _, refl, (refl, (refl, (tt, tt))), record { issued = []; given = _ ∷ []; closing = _; whole = refl; together = (refl, (tt, tt)); items = (refl, refl); unlocks = (_, inr (refl, (_, refl, refl)), refl); level = refl }, refl, refl))), (refl, (refl, (refl, tt)))),
  no_commit two 0 5 false (past_with (held_x ∷ [])) _ _ _ _ [] refl refl (search rules),
  search rules,
  no_commit two 0 5 false (past_with (held_x ∷ [])) _ _ _ _ [] refl refl (search rules),
  no_commit two 0 5 false (past_with (held_x ∷ [])) _ _ _ _ [] refl refl (search rules),
  no_commit two 0 5 false (past_with (held_x ∷ [])) _ _ _ _ [] refl refl (search rules),
  no_commit two 0 5 false (past_with (held_x ∷ [])) _ _ _ _ [] refl refl (search rules),
  no_commit two 0 5 false (past_with (held_x ∷ [])) _ _ _ _ [] refl refl (search rules),
  no_commit two 0 5 false no_past _ _ _ _ [] refl refl (search rules),
  (inr (_, (_, _, refl, refl), refl, refl, inl (refl, (_ ∷ _ ∷ [], _, refl, (refl, (refl, (tt, tt))), record { issued = []; given = _ ∷ []; closing = _; whole = refl; together = (refl, (tt, tt)); items = (refl, refl); unlocks = (_, inr (refl, (_, refl, refl)), (_, inl (refl, refl), refl)); level = refl }, refl, refl))), (refl, (refl, (refl, tt)))),
  no_commit two 0 5 false (past_with (held_x ∷ held_x ∷ [])) _ _ _ _ [] refl refl (search rules),
  (inr (_, (_, _, refl, refl), refl, refl, inl (refl, (_ ∷ [], _, refl, (refl, (tt, tt)), record { issued = []; given = []; closing = _; whole = refl; together = (tt, tt); items = (refl, refl); unlocks = (_, inl (refl, refl), refl); level = refl }, refl, refl))), (refl, (refl, tt))),
  no_commit two 0 5 false (past_with (held_x ∷ [])) _ _ _ _ [] refl refl (search rules),
  (inr (_, (_, _, refl, refl), refl, refl, inl (refl, (_ ∷ [], _, refl, (refl, (tt, tt)), record { issued = []; given = []; closing = _; whole = refl; together = (tt, tt); items = (refl, refl); unlocks = (_, inl (refl, refl), refl); level = refl }, refl, refl))), (refl, (refl, tt))),
  no_commit two 0 5 false (past_with (held_x ∷ [])) _ _ _ _ [] refl refl (search rules),
  (inr (_, (_, _, refl, refl), refl, refl, inl (refl, (_ ∷ [], _, refl, (refl, (tt, tt)), record { issued = []; given = []; closing = _; whole = refl; together = (tt, tt); items = (refl, refl); unlocks = (_, inl (refl, refl), refl); level = refl }, refl, refl))), (refl, (refl, tt))),
  no_commit two 0 5 false (past_with (held_x ∷ [])) _ _ _ _ [] refl refl (search rules),
  ((_, (_, _, refl, refl), omega arith, refl, inl (refl, (_ ∷ _ ∷ [], _, refl, (refl, (refl, (tt, tt))), record { issued = []; given = _ ∷ []; closing = _; whole = refl; together = (refl, (tt, tt)); items = (refl, refl); unlocks = (_, inr (refl, (_, refl, refl)), refl); level = refl }, refl, refl))), (_, (_, _, refl, refl), λ d u. told_kept d)),
)
