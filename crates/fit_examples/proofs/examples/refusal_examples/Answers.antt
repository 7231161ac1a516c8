use Rattle.std.proofs.Common.{[], ◌∷◌, ◌≡◌, refl, arith, rules, inl, inr}
use Rattle.std.specs.Prelude.{false, true}
use Rattle.script_fits.specs.Locking.{no_past}
use Rattle.fit_examples.specs.Groups.{two, past_with, held_x}
use Rattle.std.specs.Prelude.{pos}
use Rattle.fit_examples.proofs.Hearing.{told_both}
use Rattle.fit_examples.proofs.PartLaws.{no_refusal, not_refused}
use Rattle.plain_orders.specs.declared.refused.Refused.TheVariants.{NoTransaction, TooDeep, RollbackOnly, LockTimeout, Network}
use Rattle.plain_orders.specs.declared.refused.ReasonName.TheVariants.{Reset}
use Rattle.plain_orders.specs.declared.refused.LinkName.TheVariants.{Recovery}
use Rattle.app_job.specs.declared.reason.Reason.TheVariants.{Reset as ResetReason}
use Rattle.std.specs.Prelude.{Some, pos}
use Rattle.plain_orders.specs.declared.mode.Mode.TheVariants.{Exclusive}
use Rattle.app_job.specs.declared.command.Command.TheVariants.{Set, Get, Incr, Lock, Start, Commit, Rollback}
use Rattle.fit_examples.specs.Groups.{at_x, x_at_1, five}
use Rattle.fit_examples.proofs.PartLaws.{no_update}
use Rattle.std.specs.Prelude.{is_some}
use Rattle.std.proofs.Common.{subst}
use Rattle.plain_runs.specs.Run.{state_after}
use Rattle.fit_examples.specs.Trails.{within}
use Rattle.fit_examples.proofs.examples.refusal_examples.Goals as goal

pub returns : goal.returns
returns c = (
  ([], _, Network 0 Recovery Reset, refl, (refl, refl), refl, (refl, inl refl), (ResetReason 3, refl, refl)),
  ([], _, Network 0 Recovery Reset, refl, (refl, refl), refl, (refl, inl refl), (ResetReason 9, refl, refl)),
  not_refused two 0 5 (Set at_x five) no_past [] _ _ _ (λ r e. absurd (cc e)),
  no_refusal two 0 5 (Set x_at_1 five) no_past ([]) _ (Network 0 Recovery Reset) _ _ refl (search rules),
  no_refusal two 0 5 (Start) no_past ([]) _ (Network 0 Recovery Reset) _ _ refl (search rules),
  no_refusal two 0 5 (Set at_x five) no_past ([]) _ (Network 0 Recovery Reset) _ _ refl (search rules),
  no_refusal two 0 5 (Set at_x five) no_past ([]) _ (Network 0 Recovery Reset) _ _ refl (search rules),
  no_refusal two 0 5 (Set at_x five) no_past ([]) _ (Network 0 Recovery Reset) _ _ refl (search rules),
  no_refusal two 0 5 (Set at_x five) no_past (_ ∷ []) _ (Network 0 Recovery Reset) _ _ refl (search rules),
  no_refusal two 0 5 (Get at_x) no_past (_ ∷ []) _ (Network 0 Recovery Reset) _ _ refl (search rules),
  ([], _, Network 0 Recovery Reset, refl, inl (refl, refl), refl, (refl, inl refl), (ResetReason 3, refl, refl)),
  (_ ∷ [], _, Network 0 Recovery Reset, refl, inr ((1, refl), refl), refl, (refl, inl refl), (ResetReason 3, refl, refl)),
  no_refusal two 0 5 (Incr at_x (pos 3)) no_past (_ ∷ _ ∷ []) _ (Network 0 Recovery Reset) _ _ refl (search rules),
  (_ ∷ _ ∷ _ ∷ [], _, Network 0 Recovery Reset, refl, inr ((refl, (refl, (refl, tt))), (_, (_, _, refl, refl), refl), (_, _, (_, _, refl, refl), omega arith, refl, (λ e. absurd (cc e)), record { issued = _ ∷ _ ∷ []; given = []; closing = _; whole = refl; together = (refl, (refl, (tt, tt))); items = (2, _, _, refl, refl, (2, [], [], refl, refl, (refl, refl))); unlocks = refl; level = refl })), refl, ((2, refl), inr (inl (λ e. absurd (cc e)))), (ResetReason 3, refl, refl)),
  no_refusal two 0 5 (Commit false) no_past (_ ∷ _ ∷ _ ∷ []) _ (Network 0 Recovery Reset) _ _ refl (search rules),
  (_ ∷ _ ∷ _ ∷ [], _, Network 0 Recovery Reset, refl, inr ((_, _, (_, _, refl, refl), omega arith, refl, (λ e. absurd (cc e)), record { issued = _ ∷ _ ∷ []; given = []; closing = _; whole = refl; together = (refl, (refl, (tt, tt))); items = (2, _, _, refl, refl, (2, [], [], refl, refl, (refl, refl))); unlocks = refl; level = refl }), (_, (_, _, refl, refl), λ d u. told_both d)), refl, ((2, refl), inr (inl (λ e. absurd (cc e)))), (ResetReason 3, refl, refl)),
  no_refusal two 0 5 (Commit true) no_past [] _ (Network 1 Recovery Reset) _ _ refl (λ f. no_update f.1.0),
  ([], _, NoTransaction, refl, inl (refl, refl), refl, (refl, refl), refl),
  ([], _, NoTransaction, refl, inl (refl, refl), refl, (refl, refl), refl),
  no_refusal two 0 5 (Set at_x five) no_past ([]) _ NoTransaction _ _ refl (search rules),
  no_refusal two 0 5 (Commit true) no_past (_ ∷ _ ∷ _ ∷ []) _ NoTransaction _ _ refl (search rules),
  ([], _, TooDeep, refl, (refl, refl), refl, refl, refl),
  no_refusal two 0 5 (Set at_x five) no_past ([]) _ TooDeep _ _ refl (search rules),
  ([], _, RollbackOnly, refl, (refl, refl), refl, (refl, (λ d e. subst (λ x. is_some (((state_after two within).server_at x).known_at 0).bar ≡ false) e refl), (λ e. absurd (cc e))), refl),
  no_refusal two 0 5 (Rollback) no_past ([]) _ RollbackOnly _ _ refl (search rules),
  no_refusal two 0 5 (Set at_x five) no_past ([]) _ RollbackOnly _ _ refl (search rules),
  no_refusal two 0 5 (Lock at_x Exclusive (Some 3)) no_past ([]) _ LockTimeout _ _ refl (search rules),
  no_refusal two 0 5 (Set at_x five) (past_with (held_x ∷ [])) [] _ (Network 0 Recovery Reset) _ _ refl (search rules),
)
