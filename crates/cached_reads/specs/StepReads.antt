-- What a whole step of a get, a shape or a next writes.
use Rattle.std.specs.Prelude.{◌≡◌, ◌⊎◌, ℕ, true, List, [], None, IfSome}
use Rattle.plain_orders.specs.declared.act.Act.{Act}
use Rattle.plain_runs.specs.Plain.{Server}
use Rattle.app_job.specs.Limits.{CommandMay, server_of}
use Rattle.app_job.specs.declared.answer.Answer.{Answer}
use Rattle.app_job.specs.declared.command.Command.{Command}
use Rattle.app_job.specs.declared.command.Command.TheVariants.{Set, Kill, Get, Shape, Next, Incr, Lock, Unlock, Start, Commit, Rollback, Sync}
use Rattle.app_rules.specs.declared.app_outs.AppOuts.{AppOuts}
use Rattle.app_rules.specs.AppState.{AppState}
use Rattle.app_rules.specs.Issuing.{is_up}
use Rattle.app_rules.specs.JobState.{JobState, Work}
use Rattle.app_rules.specs.JobStep.{JobStep, work_of}
use Rattle.app_rules.specs.Refusing.{refusal_of}
use Rattle.cached_reads.specs.Reads.{ReadsStand, ReadWritten}

-- nothing is written, or one read that may come
abbrev pub OneRead : Server → ℕ → ℕ → Work → List Act → Type 0
OneRead v app d w acts = (acts ≡ []) ⊎ ReadWritten v app d w acts

-- by the command, where it reads
abbrev pub ReadsAt : Command → Server → ℕ → Work → List Act → Type 0
ReadsAt (Set at value) v app w acts = Unit {0}
ReadsAt (Kill at) v app w acts = Unit {0}
ReadsAt (Get at) v app w acts = OneRead v app at.server w acts
ReadsAt (Shape at) v app w acts = OneRead v app at.server w acts
ReadsAt (Next parent sub) v app w acts = OneRead v app parent.server w acts
ReadsAt (Incr at amount) v app w acts = Unit {0}
ReadsAt (Lock at mode wait) v app w acts = Unit {0}
ReadsAt (Unlock at mode now) v app w acts = Unit {0}
ReadsAt Start v app w acts = Unit {0}
ReadsAt (Commit sync) v app w acts = Unit {0}
ReadsAt Rollback v app w acts = Unit {0}
ReadsAt (Sync server) v app w acts = Unit {0}

-- where the connection is Normal, the reads stand
abbrev pub StandsAt : Server → ℕ → Work → ℕ → Type 0
StandsAt v app w d = is_up w d ≡ true → ReadsStand v app d w

-- A step of a command that reads and isn't refused writes nothing, or one read that may come.
abbrev pub StepsReadsMay : Type 0
StepsReadsMay = (v : Server) (app : ℕ) (a : AppState) (j : JobState) (now line : ℕ) (command : Command) (answer : Answer) (outs : AppOuts) (new_app : AppState)
    (new_job : JobState)
    → JobStep a j now line command answer outs new_app new_job → CommandMay command → refusal_of command a j (work_of a j now line).at ≡ None
    → IfSome (server_of command) (StandsAt v app (work_of a j now line)) → ReadsAt command v app (work_of a j now line) outs.acts
