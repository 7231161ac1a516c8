use Rattle.std.proofs.Common.{[], ◌∷◌, refl, arith, rules, inl, inr}
use Rattle.std.specs.Prelude.{false}
use Rattle.script_fits.specs.Locking.{no_past}
use Rattle.fit_examples.specs.Groups.{two}
use Rattle.fit_examples.proofs.Hearing.{told_within, told_more}
use Rattle.fit_examples.proofs.EndLaws.{no_commit, no_rollback}
use Rattle.fit_examples.proofs.examples.empty_end_examples.Goals as goal

pub returns : goal.returns
returns c = (
  (inr (_, (_, _, refl, refl), refl, refl, inl (refl, (_ ∷ [], _, refl, (refl, (tt, tt)), record { issued = []; given = []; closing = _; whole = refl; together = (tt, tt); items = (refl, refl); unlocks = refl; level = refl }, refl, refl))), (refl, (refl, tt))),
  (inr (_, (_, _, refl, refl), refl, refl, inl (refl, (_ ∷ [], _, refl, (refl, (tt, tt)), record { issued = []; given = []; closing = _; whole = refl; together = (tt, tt); items = (refl, refl); unlocks = refl; level = refl }, refl, refl))), (refl, (refl, tt))),
  search rules,
  no_commit two 0 5 false no_past _ _ _ _ [] refl refl (search rules),
  no_commit two 0 5 false no_past _ _ _ _ [] refl refl (search rules),
  no_commit two 0 5 false no_past _ _ _ _ [] refl refl (search rules),
  no_commit two 0 5 false no_past _ _ _ _ [] refl refl (search rules),
  no_commit two 0 5 false no_past _ _ _ _ [] refl refl (search rules),
  no_commit two 0 5 false no_past _ _ _ _ [] refl refl (search rules),
  no_commit two 0 5 false no_past _ _ _ _ [] refl refl (search rules),
  no_commit two 0 5 false no_past _ _ _ _ [] refl refl (search rules),
  search rules,
  (inl (_, 1, (_, _, refl, refl), (refl, (tt, tt)), refl, omega arith, refl, refl, refl), (refl, (refl, tt))),
  (inl (_, 1, (_, _, refl, refl), (refl, (tt, tt)), refl, omega arith, refl, refl, refl), (refl, (refl, tt))),
  search rules,
  search rules,
  (inl (_, 1, (_, _, refl, refl), (refl, (tt, tt)), refl, omega arith, refl, refl, refl), (refl, (refl, tt))),
  search rules,
  ((_, (_, _, refl, refl), omega arith, refl, inl (refl, (_ ∷ [], _, refl, (refl, (tt, tt)), record { issued = []; given = []; closing = _; whole = refl; together = (tt, tt); items = (refl, refl); unlocks = refl; level = refl }, refl, refl))), (_, (_, _, refl, refl), λ d u. told_within d)),
  ((_, (_, _, refl, refl), omega arith, refl, inl (refl, (_ ∷ [], _, refl, (refl, (tt, tt)), record { issued = []; given = []; closing = _; whole = refl; together = (tt, tt); items = (refl, refl); unlocks = refl; level = refl }, refl, refl))), (_, (_, _, refl, refl), λ d u. told_more d)),
  search rules,
  no_rollback two 0 5 no_past _ _ _ _ [] refl (search rules),
  no_rollback two 0 5 no_past _ _ _ _ [] refl (search rules),
  no_rollback two 0 5 no_past _ _ _ _ [] refl (search rules),
  no_rollback two 0 5 no_past _ _ _ _ [] refl (search rules),
  no_rollback two 0 5 no_past _ _ _ _ [] refl (search rules),
  search rules,
)
