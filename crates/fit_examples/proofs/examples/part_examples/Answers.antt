use Rattle.std.proofs.Common.{[], ◌∷◌, refl, arith, rules, inl, inr}
use Rattle.script_fits.specs.Locking.{no_past}
use Rattle.fit_examples.specs.Groups.{two}
use Rattle.fit_examples.proofs.Hearing.{told_both, not_heard}
use Rattle.fit_examples.proofs.JobLaws.{neither}
use Rattle.app_job.specs.declared.command.Command.TheVariants.{Rollback}
use Rattle.fit_examples.proofs.PartLaws.{no_commit_part, no_rollback_part}
use Rattle.fit_examples.proofs.examples.part_examples.Goals as goal

pub returns : goal.returns
returns c = (
  (refl, refl),
  search rules,
  inl (refl, refl),
  inr ((1, refl), refl),
  search rules,
  search rules,
  search rules,
  search rules,
  inl (refl, refl),
  inr ((refl, (refl, (refl, tt))), (_, (_, _, refl, refl), refl), (_, _, (_, _, refl, refl), omega arith, refl, (λ e. absurd (cc e)), record { issued = _ ∷ _ ∷ []; given = []; closing = _; whole = refl; together = (refl, (refl, (tt, tt))); items = (2, _, _, refl, refl, (2, [], [], refl, refl, (refl, refl))); unlocks = refl; level = refl })),
  no_commit_part two 0 5 no_past _ _ _ (0 ∷ 1 ∷ []) refl (search rules),
  no_commit_part two 0 5 no_past _ _ _ (0 ∷ 1 ∷ []) refl (search rules),
  no_commit_part two 0 5 no_past _ _ _ (0 ∷ 1 ∷ []) refl (search rules),
  no_commit_part two 0 5 no_past _ _ _ [] refl (search rules),
  search rules,
  inr ((_, _, (_, _, refl, refl), omega arith, refl, (λ e. absurd (cc e)), record { issued = _ ∷ _ ∷ []; given = []; closing = _; whole = refl; together = (refl, (refl, (tt, tt))); items = (2, _, _, refl, refl, (2, [], [], refl, refl, (refl, refl))); unlocks = refl; level = refl }), (_, (_, _, refl, refl), λ d u. told_both d)),
  λ f. neither f (λ n. absurd (cc n.0)) (λ p. not_heard 0 0 Rollback _ _ (2, refl) refl p.1),
  no_rollback_part two 0 5 no_past _ _ _ (0 ∷ 1 ∷ []) refl (search rules),
  no_rollback_part two 0 5 no_past _ _ _ (0 ∷ 1 ∷ []) refl (search rules),
  search rules,
  search rules,
  search rules,
  search rules,
  search rules,
)
