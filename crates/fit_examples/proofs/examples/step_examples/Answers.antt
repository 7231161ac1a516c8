use Rattle.std.proofs.Common.{[], ◌∷◌, ◌≡◌, refl, arith, rules}
use Rattle.std.specs.Prelude.{false, true}
use Rattle.script_fits.specs.Locking.{no_past}
use Rattle.fit_examples.specs.Groups.{two}
use Rattle.fit_examples.proofs.EndLaws.{no_commit}
use Rattle.fit_examples.proofs.PartLaws.{no_refusal}
use Rattle.plain_orders.specs.declared.refused.Refused.TheVariants.{RollbackOnly}
use Rattle.std.specs.Prelude.{is_some, None}
use Rattle.plain_orders.specs.declared.via.Via.TheVariants.{Fetched}
use Rattle.std.proofs.Common.{subst}
use Rattle.plain_runs.specs.Run.{state_after}
use Rattle.app_job.specs.declared.command.Command.TheVariants.{Set}
use Rattle.fit_examples.specs.Groups.{at_x, five}
use Rattle.fit_examples.specs.Trails.{set_lost}
use Rattle.fit_examples.proofs.examples.step_examples.Goals as goal

pub returns : goal.returns
returns c = (
  λ f. absurd (cc f.1.0),
  ((2, Fetched, None, refl, refl), refl),
  λ f. absurd (cc f.1.0),
  λ f. absurd (cc f.1.0),
  λ f. absurd (cc f.2.0),
  ([], _, RollbackOnly, refl, (refl, refl), refl, (refl, (λ d e. subst (λ x. is_some (((state_after two set_lost).server_at x).known_at 0).bar ≡ false) e refl), (λ e. absurd (cc e))), refl),
  no_refusal two 0 5 (Set at_x five) no_past [] _ RollbackOnly _ _ refl (λ f. absurd (cc (f.1.1 0 refl))),
  λ f. omega (arith, f.0.3.0),
  λ f. omega (arith, f.0.2.0),
  λ f. omega (arith, f.1.0),
  search rules,
  no_commit two 0 5 false no_past _ _ _ _ (0 ∷ 1 ∷ []) refl refl (search rules),
  no_commit two 0 5 true no_past _ _ _ _ (0 ∷ 1 ∷ []) refl refl (search rules),
  (tt, (tt, (tt, (tt, (tt, (tt, (tt, (tt, (tt, (tt, (tt, (refl, tt)))))))))))),
  λ f. absurd (cc f.1.1.1.1.1.1.1.1.1.1.1.1.1.1.0),
)
