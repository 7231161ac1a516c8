-- What a whole step of a get, a shape or a next writes is what its turn does.
use Rattle.std.proofs.Common.{◌≡◌, ℕ, Bool, true, false, List, [], ◌∷◌, length, Option, None, refl, sym, ◌∙◌, ap, subst}
use Rattle.std.specs.Prelude.{IfSome}
use Rattle.std.specs.List.{range_with_len}
use Rattle.plain_orders.specs.declared.act.Act.{Act}
use Rattle.plain_runs.specs.Plain.{Server}
use Rattle.app_job.specs.Limits.{CommandMay, server_of}
use Rattle.app_job.specs.declared.answer.Answer.{Answer}
use Rattle.app_job.specs.declared.command.Command.{Command}
use Rattle.app_job.specs.declared.command.Command.TheVariants.{Set, Kill, Get, Shape, Next, Incr, Lock, Unlock, Start, Commit, Rollback, Sync}
use Rattle.app_job.specs.declared.refusal.Refusal.{Refusal}
use Rattle.app_rules.specs.declared.app_outs.AppOuts.{AppOuts}
use Rattle.app_rules.specs.AppState.{AppState}
use Rattle.app_rules.specs.JobState.{JobState, Turn, Work}
use Rattle.app_rules.specs.JobStep.{Does, JobStep, Turns, is_waiting, kept, left_at, left_by, work_of}
use Rattle.app_rules.specs.Refusing.{refusal_of}
use Rattle.app_rules.specs.Works.{Sofar, sets}
use Rattle.cached_reads.specs.Reads.{WritesRead}
use Rattle.cached_reads.specs.StepReads.{ReadsAt, StandsAt}
use Rattle.cached_reads.proofs.MayCome.{gets_may, nexts_may, shapes_may}

-- what is put and written stays where a command is over
left_outs : (job : ℕ) (ds : List ℕ) (b : Sofar) → (left_at job ds b).outs ≡ b.outs
left_outs job [] b = refl
left_outs job (d ∷ ds) b = left_outs job ds (sets d (left_by job) b)

kept_outs : (b : Bool) (w : Work) → (kept b w).ends.outs ≡ w.ends.outs
kept_outs true w = refl
kept_outs false w = left_outs w.job.index (range_with_len 0 (length w.ends.state.ends)) w.ends

module _ (v : Server) (app : ℕ) (a : AppState) (j : JobState) (now line : ℕ) where
  abbrev begins : Work
  begins = work_of a j now line

  -- what the command does, by its turn
  turned : (command : Command) (t : Turn) → Does command now begins t → CommandMay command → IfSome (server_of command) (StandsAt v app begins)
      → ReadsAt command v app begins t.work.ends.outs.acts
  turned (Set at value) t does may stands = tt
  turned (Kill at) t does may stands = tt
  turned (Get at) t does may stands = subst (λ (u : Turn). WritesRead v app at.server begins u) (sym does) (gets_may v app at begins may stands)
  turned (Shape at) t does may stands = subst (λ (u : Turn). WritesRead v app at.server begins u) (sym does) (shapes_may v app at begins may stands)
  turned (Next parent sub) t does may stands = nexts_may v app parent sub begins t may.0 may.1 stands does
  turned (Incr at amount) t does may stands = tt
  turned (Lock at mode wait) t does may stands = tt
  turned (Unlock at mode at_once) t does may stands = tt
  turned Start t does may stands = tt
  turned (Commit sync) t does may stands = tt
  turned Rollback t does may stands = tt
  turned (Sync server) t does may stands = tt

-- So a step writes nothing, or one read that may come.
pub steps_reads_may : (v : Server) (app : ℕ) (a : AppState) (j : JobState) (now line : ℕ) (command : Command) (answer : Answer) (outs : AppOuts)
    (new_app : AppState) (new_job : JobState)
    → JobStep a j now line command answer outs new_app new_job → CommandMay command → refusal_of command a j (work_of a j now line).at ≡ None
    → IfSome (server_of command) (StandsAt v app (work_of a j now line)) → ReadsAt command v app (work_of a j now line) outs.acts
steps_reads_may v app a j now line command answer outs new_app new_job step may unrefused stands =
    subst (λ (acts : List Act). ReadsAt command v app (work_of a j now line) acts) same (turned v app a j now line command step.turn does may stands)
  where
    does : Does command now (work_of a j now line) step.turn
    does = subst (λ (r : Option Refusal). Turns r command now (work_of a j now line) step.turn) unrefused step.turns

    same : step.turn.work.ends.outs.acts ≡ outs.acts
    same = sym (ap (λ (o : AppOuts). o.acts) (step.puts ∙ kept_outs (is_waiting step.turn.answer) step.turn.work))
