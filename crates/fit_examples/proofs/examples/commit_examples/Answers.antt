use Rattle.std.proofs.Common.{[], ◌∷◌, refl, rules, inr}
use Rattle.std.specs.Prelude.{false}
use Rattle.script_fits.specs.Locking.{no_past}
use Rattle.fit_examples.specs.Groups.{two}
use Rattle.fit_examples.proofs.EndLaws.{no_commit}
use Rattle.fit_examples.proofs.examples.commit_examples.Goals as goal

pub returns : goal.returns
returns c = (
  (inr (_, (_, _, refl, refl), refl, refl, inr (_, (λ e. absurd (cc e)), record { issued = _ ∷ _ ∷ []; given = []; closing = _; whole = refl; together = (refl, (refl, (tt, tt))); items = (2, _, _, refl, refl, (2, [], [], refl, refl, (refl, refl))); unlocks = refl; level = refl }, refl)), (refl, (refl, (refl, tt)))),
  (inr (_, (_, _, refl, refl), refl, refl, inr (_, (λ e. absurd (cc e)), record { issued = _ ∷ []; given = []; closing = _; whole = refl; together = (refl, (tt, tt)); items = (2, [], [], refl, refl, (refl, refl)); unlocks = refl; level = refl }, refl)), (refl, (refl, tt))),
  λ f. absurd (cc f.1.0),
  no_commit two 0 5 false no_past _ _ _ _ (1 ∷ []) refl refl (search rules),
  no_commit two 0 5 false no_past _ _ _ _ (0 ∷ 1 ∷ []) refl refl (search rules),
  no_commit two 0 5 false no_past _ _ _ _ (0 ∷ 1 ∷ []) refl refl (search rules),
  no_commit two 0 5 false no_past _ _ _ _ (0 ∷ 1 ∷ []) refl refl (search rules),
  no_commit two 0 5 false no_past _ _ _ _ (0 ∷ 1 ∷ []) refl refl (search rules),
  no_commit two 0 5 false no_past _ _ _ _ (0 ∷ []) refl refl (search rules),
  no_commit two 0 5 false no_past _ _ _ _ (0 ∷ 1 ∷ []) refl refl (search rules),
  no_commit two 0 5 false no_past _ _ _ _ (0 ∷ 1 ∷ []) refl refl (search rules),
  no_commit two 0 5 false no_past _ _ _ _ (0 ∷ 1 ∷ []) refl refl (search rules),
  no_commit two 0 5 false no_past _ _ _ _ (0 ∷ 1 ∷ []) refl refl (search rules),
  no_commit two 0 5 false no_past _ _ _ _ (0 ∷ 1 ∷ []) refl refl (search rules),
  no_commit two 0 5 false no_past _ _ _ _ (0 ∷ 1 ∷ []) refl refl (search rules),
  no_commit two 0 5 false no_past _ _ _ _ (0 ∷ 1 ∷ []) refl refl (search rules),
  no_commit two 0 5 false no_past _ _ _ _ (0 ∷ 1 ∷ []) refl refl (search rules),
  no_commit two 0 5 false no_past _ _ _ _ (0 ∷ 1 ∷ []) refl refl (search rules),
  no_commit two 0 5 false no_past _ _ _ _ (0 ∷ 1 ∷ []) refl refl (search rules),
  no_commit two 0 5 false no_past _ _ _ _ (0 ∷ 1 ∷ []) refl refl (search rules),
  no_commit two 0 5 false no_past _ _ _ _ (0 ∷ 1 ∷ []) refl refl (search rules),
  search rules,
)
