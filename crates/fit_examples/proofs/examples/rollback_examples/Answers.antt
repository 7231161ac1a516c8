use Rattle.std.proofs.Common.{[], ◌∷◌, refl, arith, rules, inr}
use Rattle.script_fits.specs.Locking.{no_past}
use Rattle.fit_examples.specs.Groups.{two}
use Rattle.fit_examples.proofs.Hearing.{told_both, told_deeper, told_lost, not_heard}
use Rattle.app_job.specs.declared.command.Command.TheVariants.{Rollback}
use Rattle.fit_examples.proofs.EndLaws.{no_rollback}
use Rattle.fit_examples.proofs.examples.rollback_examples.Goals as goal

pub returns : goal.returns
returns c = (
  ((_, (_, _, refl, refl), omega arith, refl, inr (_, (_ ∷ _ ∷ _ ∷ [], _, _, (λ e. absurd (cc e)), refl, (refl, (tt, tt)), record { issued = _ ∷ _ ∷ []; given = []; closing = _; whole = refl; together = (refl, (refl, (tt, tt))); items = (2, _, _, refl, refl, (2, [], [], refl, refl, (refl, refl))); unlocks = refl; level = refl }, (4, _, _, refl, refl, (4, [], [], refl, refl, (refl, refl)))), refl)), (_, (_, _, refl, refl), λ d u. told_both d)),
  ((_, (_, _, refl, refl), omega arith, refl, inr (_, (_ ∷ _ ∷ _ ∷ [], _, _, (λ e. absurd (cc e)), refl, (refl, (tt, tt)), record { issued = _ ∷ _ ∷ []; given = []; closing = _; whole = refl; together = (refl, (refl, (tt, tt))); items = (2, _, _, refl, refl, (2, [], [], refl, refl, (refl, refl))); unlocks = refl; level = refl }, (4, _, _, refl, refl, (4, [], [], refl, refl, (refl, refl)))), refl)), (_, (_, _, refl, refl), λ d u. told_deeper d)),
  ((_, (_, _, refl, refl), omega arith, refl, inr (_, (_ ∷ _ ∷ [], _, _, (λ e. absurd (cc e)), refl, (tt, tt), record { issued = _ ∷ []; given = []; closing = _; whole = refl; together = (refl, (tt, tt)); items = (2, [], [], refl, refl, (refl, refl)); unlocks = refl; level = refl }, (4, [], [], refl, refl, (refl, refl))), refl)), (_, (_, _, refl, refl), λ d u. told_lost d)),
  λ f. not_heard 0 0 Rollback _ _ (2, refl) refl f.1,
  no_rollback two 0 5 no_past _ _ _ _ (0 ∷ 1 ∷ []) refl (search rules),
  no_rollback two 0 5 no_past _ _ _ _ (0 ∷ 1 ∷ []) refl (search rules),
  no_rollback two 0 5 no_past _ _ _ _ (0 ∷ 1 ∷ []) refl (search rules),
  no_rollback two 0 5 no_past _ _ _ _ (0 ∷ 1 ∷ []) refl (search rules),
  no_rollback two 0 5 no_past _ _ _ _ (0 ∷ 1 ∷ []) refl (search rules),
  no_rollback two 0 5 no_past _ _ _ _ (0 ∷ 1 ∷ []) refl (search rules),
  no_rollback two 0 5 no_past _ _ _ _ (0 ∷ 1 ∷ []) refl (search rules),
  no_rollback two 0 5 no_past _ _ _ _ (0 ∷ 1 ∷ []) refl (search rules),
  no_rollback two 0 5 no_past _ _ _ _ (0 ∷ 1 ∷ []) refl (search rules),
  no_rollback two 0 5 no_past _ _ _ _ (0 ∷ 1 ∷ []) refl (search rules),
  no_rollback two 0 5 no_past _ _ _ _ (0 ∷ 1 ∷ []) refl (search rules),
  no_rollback two 0 5 no_past _ _ _ _ (0 ∷ 1 ∷ []) refl (search rules),
  no_rollback two 0 5 no_past _ _ _ _ (0 ∷ 1 ∷ []) refl (search rules),
  no_rollback two 0 5 no_past _ _ _ _ (0 ∷ 1 ∷ []) refl (search rules),
)
