-- An application server's ends stay few.
use Rattle.std.proofs.Common.{◌<◌, ◌^◌, subst, sym}
use Rattle.std.proofs.lemmas.List.{length-replicate}
use Rattle.app_rules.specs.AppState.{no_end}
use Rattle.app_rules.specs.Laws.{FewEndsStay}
use Rattle.app_rules.proofs.StepLaws.{steps_at_one_end}
use Rattle.app_rules.proofs.JobKept.{job_steps_keep}

pub few_ends_stay : FewEndsStay
few_ends_stay = record {
  first = λ app servers times low. subst (λ n. n < 2 ^ 8) (sym (length-replicate servers no_end)) low;
  steps = λ old new now input outs step few. subst (λ n. n < 2 ^ 8) (sym (steps_at_one_end old new now input outs step).0.ends) few;
  job_steps = λ a new j job now line command answer outs step few. subst (λ n. n < 2 ^ 8) (sym (job_steps_keep a new j job now line command answer outs step).0.ends) few;
}
