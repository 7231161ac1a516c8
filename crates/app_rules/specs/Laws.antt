-- What the steps of an application server's ends leave as it was, and that these steps and those of its jobs are there and are determined.
use Rattle.std.specs.Prelude.{◌≡◌, ◌≢◌, ◌<◌, ◌^◌, ℕ, List, length, Option, Some, None, IfSome}
use Rattle.std.specs.List.{AllByRecursion}
use Rattle.subscript_keys.specs.declared.run.Run.{Run}
use Rattle.plain_orders.specs.Keys.{HasKeys}
use Rattle.ecp_messages.specs.declared.up.Up.{Up}
use Rattle.end_words.specs.Laws.{SendsFirsts}
use Rattle.end_words.specs.Runs.{pairs_of}
use Rattle.app_job.specs.declared.command.Command.TheVariants as commands
use Rattle.app_rules.specs.declared.app_in.AppIn.{AppIn}
use Rattle.app_rules.specs.declared.app_in.AppIn.TheVariants.{Frame, Connected, NoWay, Broken, Join, Tick}
use Rattle.app_rules.specs.declared.app_outs.AppOuts.{AppOuts}
use Rattle.plain_orders.specs.declared.layout.Times.{Times}
use Rattle.app_rules.specs.AppState.{AppState, IsServer, HasFewEnds}
use Rattle.app_rules.specs.Works.{Sofar, end_at, session_at}
use Rattle.app_job.specs.declared.command.Command.{Command}
use Rattle.app_job.specs.declared.answer.Answer.{Answer}
use Rattle.app_rules.specs.AppStep.{AppMay, AppStep, started}
use Rattle.app_rules.specs.JobState.{JobState}
use Rattle.app_rules.specs.JobStep.{JobMay, JobStep}

-- the data server that an input names; a tick names none
abbrev pub named_by : AppIn → Option ℕ
named_by (Frame d down) = Some d
named_by (Connected d) = Some d
named_by (NoWay d fails_before fails_after) = Some d
named_by (Broken d) = Some d
named_by (Join d) = Some d
named_by Tick = None

-- the same application server, with as many ends
pub record IsSameApp (a b : AppState) : Type 0 where
  pub app : b.app ≡ a.app
  pub times : b.times ≡ a.times
  pub ends : length b.ends ≡ length a.ends

-- each end but that with this data server is as it was
abbrev pub KeepsOthers : AppState → AppState → ℕ → Type 0
KeepsOthers a b d = (e : ℕ) → e ≢ d → end_at b e ≡ end_at a e

-- a step leaves all ends but that with the data server which its input names
abbrev pub StepsAtOneEnd : Type 0
StepsAtOneEnd = (old new : AppState) (now : ℕ) (input : AppIn) (outs : AppOuts)
    → AppStep old now input outs new → IsSameApp old new × IfSome (named_by input) (KeepsOthers old new)

-- the same job, which counts as many data servers
pub record IsSameJob (a b : JobState) : Type 0 where
  pub index : b.index ≡ a.index
  pub app : b.app ≡ a.app
  pub used : length b.used ≡ length a.used

-- a job's step keeps who and how many they are
abbrev pub JobStepsKeep : Type 0
JobStepsKeep = (a new : AppState) (j job : JobState) (now line : ℕ) (command : Command) (answer : Answer) (outs : AppOuts)
    → JobStep a j now line command answer outs new job → IsSameApp a new × IsSameJob j job

-- an application server of fewer than 256 data servers has few ends, and keeps them
pub record FewEndsStay : Type 0 where
  pub first : (app servers : ℕ) (times : Times) → servers < 2 ^ 8 → HasFewEnds (started app servers times)
  pub steps : (old new : AppState) (now : ℕ) (input : AppIn) (outs : AppOuts) → AppStep old now input outs new → HasFewEnds old → HasFewEnds new
  pub job_steps : (a new : AppState) (j job : JobState) (now line : ℕ) (command : Command) (answer : Answer) (outs : AppOuts)
      → JobStep a j now line command answer outs new job → HasFewEnds a → HasFewEnds new

-- two states of an application server in which its end with this data server is one
pub record IsAlikeAt (a b : AppState) (d : ℕ) : Type 0 where
  pub app : b.app ≡ a.app
  pub times : b.times ≡ a.times
  pub there : IsServer a d
  pub there_too : IsServer b d
  pub same_end : end_at b d ≡ end_at a d

-- a step at one end reads nothing of the others: what it puts, writes and leaves at that end is decided by that end alone
abbrev pub StepsAlone : Type 0
StepsAlone = (a b new other : AppState) (d now : ℕ) (input : AppIn) (outs other_outs : AppOuts) → named_by input ≡ Some d → IsAlikeAt a b d
    → AppStep a now input outs new → AppStep b now input other_outs other → (end_at other d ≡ end_at new d) × (other_outs ≡ outs)

-- the state, the moment and the input decide what a step puts, writes and leaves
abbrev pub StepsAlike : Type 0
StepsAlike = (old new other : AppState) (now : ℕ) (input : AppIn) (outs other_outs : AppOuts)
    → AppStep old now input outs new → AppStep old now input other_outs other → (other ≡ new) × (other_outs ≡ outs)

-- the same of a job's step, its line and its command
abbrev pub JobStepsAlike : Type 0
JobStepsAlike = (a new other : AppState) (j job other_job : JobState) (now line : ℕ) (command : Command) (answer other_answer : Answer) (outs other_outs : AppOuts)
    → JobStep a j now line command answer outs new job → JobStep a j now line command other_answer other_outs other other_job
    → (other ≡ new) × (other_outs ≡ outs) × (other_job ≡ job) × (other_answer ≡ answer)

-- an input that may come has an outcome
abbrev pub StepIsThere : Type 0
StepIsThere = (a : AppState) (now : ℕ) (input : AppIn) → AppMay a input → (c : Sofar) × AppStep a now input c.outs c.state

-- the keys of some runs are nodes'
abbrev pub HaveNodeKeys : List Run → Type 0
HaveNodeKeys runs = AllByRecursion (λ run. HasKeys (pairs_of run)) runs

-- the keys of the runs in which a next looks are nodes'
abbrev pub KeysAreNodes : AppState → Command → Type 0
KeysAreNodes a (commands.Set at value) = Unit {0}
KeysAreNodes a (commands.Kill at) = Unit {0}
KeysAreNodes a (commands.Get at) = Unit {0}
KeysAreNodes a (commands.Shape at) = Unit {0}
KeysAreNodes a (commands.Next parent sub) = HaveNodeKeys (session_at a parent.server).cache
KeysAreNodes a (commands.Incr at amount) = Unit {0}
KeysAreNodes a (commands.Lock at mode wait) = Unit {0}
KeysAreNodes a (commands.Unlock at mode now) = Unit {0}
KeysAreNodes a commands.Start = Unit {0}
KeysAreNodes a (commands.Commit sync) = Unit {0}
KeysAreNodes a commands.Rollback = Unit {0}
KeysAreNodes a (commands.Sync server) = Unit {0}

-- what a job's step makes
pub record JobMade (a : AppState) (j : JobState) (now line : ℕ) (command : Command) : Type 0 where
  pub answer : Answer
  pub outs : AppOuts
  pub app : AppState
  pub job : JobState
  pub its : JobStep a j now line command answer outs app job

-- a command that may come is answered
abbrev pub JobStepIsThere : Type 0
JobStepIsThere = (a : AppState) (j : JobState) (now line : ℕ) (command : Command) → JobMay a j command → KeysAreNodes a command → JobMade a j now line command

-- What a session sends again are messages that were put in it, each with its first number.
abbrev pub UpsAgainAreFirsts : Type 0
UpsAgainAreFirsts = SendsFirsts Up
