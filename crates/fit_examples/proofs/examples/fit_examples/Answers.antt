use Rattle.std.proofs.Common.{arith}
use Rattle.std.proofs.Common.{subst, sym}
use Rattle.std.specs.List.{AllByRecursion}
use Rattle.script_fits.specs.Fits.{BeginsOnce}
use Rattle.script_fits.specs.Naming.{IsDeclared}
use Rattle.fit_examples.specs.Scripts.{declared}
use Rattle.fit_examples.proofs.examples.fit_examples.Goals as goal

pub returns : goal.returns
returns c = (
  λ nets out e f. subst (λ t. BeginsOnce t 0 → ⊥) (sym e) (λ o. absurd (cc o)) f.jobs.opened.0,
  λ nets out e f. subst (λ t. BeginsOnce t 0 → ⊥) (sym e) (λ o. absurd (cc o)) f.jobs.opened.0,
  λ nets out e f. subst (λ t. AllByRecursion (IsDeclared declared.layout) t → ⊥) (sym e) (λ d. omega (arith, d.1.0)) f.jobs.declared,
)
