-- A job's command lines, one after the other.
use Rattle.std.specs.Prelude.{◌≡◌, ℕ, ◌==◌, if◌then◌else◌, List, [], ◌∷◌, ◌++◌, Option, Some, filter}
use Rattle.std.specs.List.{flat_map}
use Rattle.plain_orders.specs.declared.layout.Layout.{Layout}
use Rattle.app_job.specs.declared.answer.Answer.{Answer}
use Rattle.app_job.specs.declared.command.Command.{Command}
use Rattle.job_script.specs.declared.script_line.ScriptLine.{ScriptLine}
use Rattle.job_script.specs.declared.todo.Todo.{Todo}
use Rattle.job_script.specs.declared.todo.Todo.TheVariants.{Job, Hold, Flow, Up, Down, Save, Pump, Tick, Break, Mend, Crash, Restart, Die, Await}
use Rattle.script_fits.specs.Moments.{Moment}
use Rattle.script_fits.specs.Locking.{HeldBack, Past, no_past}
use Rattle.script_fits.specs.Commands.{Part, IsDone}

-- a command, and the script's line that it stands at
pub record CommandLine : Type 0 where
  pub line : ℕ
  pub command : Command

-- the command of a line, if it is one of this job
abbrev pub command_of : ℕ → ℕ → Todo → List CommandLine
command_of j line (Job job command) = if job == j then record { line = line; command = command } ∷ [] else []
command_of j line Hold = []
command_of j line Flow = []
command_of j line (Up app server) = []
command_of j line (Down app server) = []
command_of j line (Save server) = []
command_of j line Pump = []
command_of j line (Tick count) = []
command_of j line (Break app server) = []
command_of j line (Mend app server) = []
command_of j line (Crash server pick) = []
command_of j line (Restart server) = []
command_of j line (Die app) = []
command_of j line (Await job) = []

-- the command lines of a job, in order
abbrev pub commands_of : ℕ → List ScriptLine → List CommandLine
commands_of j lines = flat_map (λ (l : ScriptLine). command_of j l.line l.todo) lines

-- a command that has its end: its job and line, its answer, and the place of its last act in the trail
pub record Ended : Type 0 where
  pub job : ℕ
  pub line : ℕ
  pub answer : Answer
  pub place : ℕ

-- those of a job, in order
abbrev pub ended_of : ℕ → List Ended → List Ended
ended_of j ends = filter (λ (e : Ended). e.job == j) ends

-- the place of the last of some moments, or of what went before
abbrev pub last_place : ℕ → List Moment → ℕ
last_place k [] = k
last_place k (m ∷ ms) = last_place m.place ms

-- the clock at the last of some moments, or at what went before
abbrev pub last_clock : Option ℕ → List Moment → Option ℕ
last_clock o [] = o
last_clock o (m ∷ ms) = last_clock (Some m.before.clock) ms

-- what a command leaves for those after it
abbrev pub past_after : Past → List Moment → List HeldBack → Past
past_after past ms held = record { held_back = held; clock = last_clock past.clock ms }

-- the end of a command that did this
abbrev pub end_of : ℕ → ℕ → Answer → List Moment → Ended
end_of job line answer ms = record { job = job; line = line; answer = answer; place = last_place 0 ms }

-- commands that were done one after the other: their moments, their ends, and what the last leaves
abbrev pub AreDone : Layout → ℕ → Past → List CommandLine → List Moment → List Ended → Past → Type 0
AreDone l job past [] ms ends left = (ms ≡ []) × (ends ≡ []) × (left ≡ past)
AreDone l job past (c ∷ cs) ms ends left =
    (its : List Moment) × (rest : List Moment) × (others : List Ended) × (answer : Answer) × (held : List HeldBack)
    × (ms ≡ its ++ rest) × (ends ≡ end_of job c.line answer its ∷ others) × IsDone l job c.line c.command past its answer held
    × AreDone l job (past_after past its held) cs rest others left

-- the first of some commands may have been begun, and no other
abbrev pub IsBegun : Layout → ℕ → Past → List CommandLine → List Moment → Type 0
IsBegun l job past [] ms = ms ≡ []
IsBegun l job past (c ∷ cs) ms = (held : List HeldBack) × Part l job c.line c.command past ms held

-- A job's moments and ends: its commands from the first on were done in their order, at most one more was begun, and nothing else.
pub record DoesJob (l : Layout) (job : ℕ) (commands : List CommandLine) (ms : List Moment) (ends : List Ended) : Type 0 where
  pub done : List CommandLine
  pub rest : List CommandLine
  pub its : List Moment
  pub begun : List Moment
  pub left : Past
  pub lines : commands ≡ done ++ rest
  pub whole : ms ≡ its ++ begun
  pub each : AreDone l job no_past done its ends left
  pub last : IsBegun l job left rest begun
