use Rattle.std.proofs.Common.{[], ◌∷◌, refl, rules, inr}
use Rattle.std.specs.Prelude.{false, true}
use Rattle.script_fits.specs.Locking.{no_past}
use Rattle.fit_examples.specs.Groups.{two}
use Rattle.fit_examples.proofs.EndLaws.{no_commit}
use Rattle.fit_examples.proofs.examples.awaited_commit_examples.Goals as goal

pub returns : goal.returns
returns c = (
  (inr (_, (_, _, refl, refl), refl, refl, inr (_, (_ ∷ _ ∷ _ ∷ [], _, _, (λ e. absurd (cc e)), refl, (refl, (tt, tt)), record { issued = _ ∷ _ ∷ []; given = []; closing = _; whole = refl; together = (refl, (refl, (tt, tt))); items = (2, _, _, refl, refl, (2, [], [], refl, refl, (refl, refl))); unlocks = refl; level = refl }, (4, _, _, refl, refl, (4, [], [], refl, refl, (refl, refl)))), refl)), (refl, (refl, (refl, (refl, (refl, tt)))))),
  no_commit two 0 5 true no_past _ _ _ _ (0 ∷ 1 ∷ []) refl refl (search rules),
  no_commit two 0 5 true no_past _ _ _ _ (0 ∷ 1 ∷ []) refl refl (search rules),
  no_commit two 0 5 true no_past _ _ _ _ (0 ∷ 1 ∷ []) refl refl (search rules),
  no_commit two 0 5 true no_past _ _ _ _ (0 ∷ 1 ∷ []) refl refl (search rules),
  no_commit two 0 5 true no_past _ _ _ _ (0 ∷ 1 ∷ []) refl refl (search rules),
  no_commit two 0 5 true no_past _ _ _ _ (0 ∷ 1 ∷ []) refl refl (search rules),
  no_commit two 0 5 true no_past _ _ _ _ (0 ∷ 1 ∷ []) refl refl (search rules),
  no_commit two 0 5 true no_past _ _ _ _ (0 ∷ 1 ∷ []) refl refl (search rules),
  no_commit two 0 5 true no_past _ _ _ _ (0 ∷ 1 ∷ []) refl refl (search rules),
  no_commit two 0 5 true no_past _ _ _ _ (0 ∷ 1 ∷ []) refl refl (search rules),
  no_commit two 0 5 true no_past _ _ _ _ (0 ∷ 1 ∷ []) refl refl (search rules),
  no_commit two 0 5 true no_past _ _ _ _ (0 ∷ 1 ∷ []) refl refl (search rules),
  no_commit two 0 5 true no_past _ _ _ _ (0 ∷ 1 ∷ []) refl refl (search rules),
  no_commit two 0 5 true no_past _ _ _ _ (0 ∷ 1 ∷ []) refl refl (search rules),
  no_commit two 0 5 false no_past _ _ _ _ (0 ∷ 1 ∷ []) refl refl (search rules),
)
