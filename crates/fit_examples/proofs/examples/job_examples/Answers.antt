use Rattle.std.proofs.Common.{[], ◌∷◌, refl, arith, rules, inl, inr}
use Rattle.script_fits.specs.Locking.{no_past}
use Rattle.fit_examples.specs.Groups.{two}
use Rattle.std.specs.Prelude.{pos}
use Rattle.fit_examples.proofs.PartLaws.{not_refused}
use Rattle.app_job.specs.declared.command.Command.TheVariants.{Set, Incr}
use Rattle.fit_examples.specs.Groups.{at_x, five}
use Rattle.fit_examples.proofs.JobLaws.{no_first, no_commands, nothing_refused, neither}
use Rattle.fit_examples.proofs.examples.job_examples.Goals as goal

pub returns : goal.returns
returns c = (
  record { done = _ ∷ _ ∷ []; rest = _ ∷ []; its = _ ∷ _ ∷ _ ∷ []; begun = _ ∷ []; left = _; lines = refl; whole = refl; each = (_ ∷ _ ∷ [], _ ∷ [], _ ∷ [], _, [], refl, refl, inl ((_, (_, _, refl, refl), (refl, (tt, tt)), omega arith, refl, refl), (refl, (refl, tt)), refl), (_ ∷ [], [], [], _, [], refl, refl, inl ((1, refl, refl), (refl, tt), refl), (refl, refl, refl))); last = ([], inr ((2, refl), refl)) },
  record { done = _ ∷ _ ∷ []; rest = _ ∷ []; its = _ ∷ _ ∷ _ ∷ []; begun = []; left = _; lines = refl; whole = refl; each = (_ ∷ _ ∷ [], _ ∷ [], _ ∷ [], _, [], refl, refl, inl ((_, (_, _, refl, refl), (refl, (tt, tt)), omega arith, refl, refl), (refl, (refl, tt)), refl), (_ ∷ [], [], [], _, [], refl, refl, inl ((1, refl, refl), (refl, tt), refl), (refl, refl, refl))); last = ([], inl (refl, refl)) },
  record { done = _ ∷ _ ∷ []; rest = []; its = _ ∷ _ ∷ _ ∷ []; begun = []; left = _; lines = refl; whole = refl; each = (_ ∷ _ ∷ [], _ ∷ [], _ ∷ [], _, [], refl, refl, inl ((_, (_, _, refl, refl), (refl, (tt, tt)), omega arith, refl, refl), (refl, (refl, tt)), refl), (_ ∷ [], [], [], _, [], refl, refl, inl ((1, refl, refl), (refl, tt), refl), (refl, refl, refl))); last = refl },
  record { done = []; rest = _; its = []; begun = []; left = _; lines = refl; whole = refl; each = (refl, refl, refl); last = ([], (refl, refl)) },
  λ ends. no_first two 0 1 (Incr at_x (pos 3)) _ _ ends (λ h. search rules) ((λ a h o d e. neither d (search rules) (nothing_refused two 0 1 (Incr at_x (pos 3)) no_past a h)), ((λ a h o d e. neither d (search rules) (not_refused two 0 1 (Incr at_x (pos 3)) no_past ([]) _ a h (λ r e. absurd (cc e)))), (λ a h o d e. neither d (search rules) (not_refused two 0 1 (Incr at_x (pos 3)) no_past (_ ∷ []) _ a h (λ r e. absurd (cc e)))))),
  λ ends. no_first two 0 1 (Set at_x five) _ _ ends (λ h. search rules) ((λ a h o d e. neither d (search rules) (nothing_refused two 0 1 (Set at_x five) no_past a h)), ((λ a h o d e. neither d (search rules) (not_refused two 0 1 (Set at_x five) no_past ([]) _ a h (λ r e. absurd (cc e)))), (λ a h o d e. neither d (search rules) (not_refused two 0 1 (Set at_x five) no_past (_ ∷ []) _ a h (λ r e. absurd (cc e)))))),
  λ ends. no_commands two 0 _ _ ends,
  no_first two 0 1 (Set at_x five) _ _ _ (λ h. search rules) ((λ a h o d e. search rules), (λ a h o d e. search rules)),
  no_first two 0 1 (Set at_x five) _ _ _ (λ h. search rules) ((λ a h o d e. search rules), (λ a h o d e. search rules)),
  no_first two 0 1 (Set at_x five) _ _ _ (λ h. search rules) ((λ a h o d e. search rules), (λ a h o d e. search rules)),
  no_first two 0 1 (Set at_x five) _ _ _ (λ h. search rules) ((λ a h o d e. neither d (search rules) (nothing_refused two 0 1 (Set at_x five) no_past a h)), (λ a h o d e. neither d (search rules) (not_refused two 0 1 (Set at_x five) no_past ([]) _ a h (λ r e. absurd (cc e))))),
)
