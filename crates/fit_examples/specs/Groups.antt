-- What the examples are made of: two data servers, some nodes, and groups of moments of a trail.
use Rattle.std.specs.Prelude.{ℕ, List, [], ◌∷◌, ◌++◌, length, Some}
use Rattle.plain_orders.specs.declared.act.Act.{Act}
use Rattle.plain_orders.specs.declared.act.Act.TheVariants.{Opened, Enter, Synced, Met}
use Rattle.plain_orders.specs.declared.entry.Entry.TheVariants.{Opened as OpenEntry}
use Rattle.plain_orders.specs.declared.layout.Layout.{Layout}
use Rattle.plain_orders.specs.declared.mode.Mode.TheVariants.{Exclusive, Shared}
use Rattle.app_job.specs.declared.answer.Answer.{Answer}
use Rattle.app_job.specs.declared.command.Command.{Command}
use Rattle.app_job.specs.declared.place.Place.{Place}
use Rattle.app_job.specs.Sites.{Site}
use Rattle.plain_runs.specs.Run.{state_after}
use Rattle.script_fits.specs.Moments.{Moment, moments_from, moments_of}
use Rattle.script_fits.specs.Locking.{HeldBack, Past, no_past}
use Rattle.script_fits.specs.Commands.{Whole, Part, RefusedAfter}
use Rattle.script_fits.specs.JobLines.{CommandLine, Ended, DoesJob}
use Rattle.script_fits.specs.Lines.{LineAdds}
use Rattle.script_fits.specs.Walk.{SoFar}
use Rattle.job_script.specs.declared.script_line.ScriptLine.{ScriptLine}
use Rattle.job_script.specs.declared.todo.Todo.{Todo}
use Rattle.transcript.specs.declared.piece.Piece.{Piece}
use Rattle.transcript.specs.declared.piece.Piece.TheVariants.{Answered}
use Rattle.std.specs.Prelude.{true, false, ◌==◌}

-- two data servers and two application servers; the jobs 0 and 2 run on the first, job 1 on the second
abbrev pub two : Layout
two = record { servers = 2; apps = 2; job_apps = 0 ∷ 1 ∷ 0 ∷ []; times = record { retry = 5; trouble = 60; recover = 100; round = 60 } }

-- ^x at the data server 0
abbrev pub at_x : Site
at_x = record { server = 0; node = record { name = 120 ∷ []; subs = [] }; key = 120 ∷ 0 ∷ [] }

-- ^y at the data server 0
abbrev pub at_y : Site
at_y = record { server = 0; node = record { name = 121 ∷ []; subs = [] }; key = 121 ∷ 0 ∷ [] }

-- ^x at the data server 1
abbrev pub x_at_1 : Site
x_at_1 = record { server = 1; node = record { name = 120 ∷ []; subs = [] }; key = 120 ∷ 0 ∷ [] }

-- a value
abbrev pub five : List ℕ
five = 53 ∷ []

-- another value
abbrev pub six : List ℕ
six = 54 ∷ []

-- a number at a data server
abbrev pub place : ℕ → ℕ → Place
place server number = record { server = server; number = number }

-- an unlock of ^x that is held back
abbrev pub held_x : HeldBack
held_x = record { server = 0; session = 2; mode = Exclusive; key = 120 ∷ 0 ∷ [] }

-- the same with the other mode
abbrev pub shared_x : HeldBack
shared_x = record { server = 0; session = 2; mode = Shared; key = 120 ∷ 0 ∷ [] }

-- an unlock of ^y that is held back
abbrev pub held_y : HeldBack
held_y = record { server = 0; session = 2; mode = Exclusive; key = 121 ∷ 0 ∷ [] }

-- earlier lines held these unlocks back
abbrev pub past_with : List HeldBack → Past
past_with held = record { held_back = held; clock = Some 0 }

-- the job's last act before came at this moment
abbrev pub past_at : ℕ → Past
past_at clock = record { held_back = []; clock = Some clock }

-- both data servers begin, and the first application server meets a session at each
abbrev pub met : List Act
met = Opened 0 [] ∷ Opened 1 [] ∷ Enter 0 (OpenEntry 2 0) ∷ Synced 0 2 ∷ Met 0 0 2 ∷ Enter 1 (OpenEntry 2 0) ∷ Synced 1 2 ∷ Met 0 1 2 ∷ []

-- the moments of a job among the acts that follow a trail
abbrev pub group : List Act → ℕ → List Act → List Moment
group front job acts = moments_of job (moments_from two (length front) (state_after two front) acts)

-- following this trail these acts are the whole of job 0's command at line 5, with this answer
abbrev pub Does : List Act → Command → List Act → Answer → Type 0
Does front command acts answer = Whole two 0 5 command no_past (group front 0 acts) answer []

-- the same with what the earlier lines left, and what is held back after it
abbrev pub DoesHeld : List Act → Past → Command → List Act → Answer → List HeldBack → Type 0
DoesHeld front past command acts answer held = Whole two 0 5 command past (group front 0 acts) answer held

-- these acts of another job are the whole of job 0's command
abbrev pub DoesAs : ℕ → Command → List Act → Answer → Type 0
DoesAs job command acts answer = Whole two 0 5 command no_past (group met job acts) answer []

-- following this trail these acts are a part of job 0's command at line 5
abbrev pub Begins : List Act → Command → List Act → Type 0
Begins front command acts = Part two 0 5 command no_past (group front 0 acts) []

-- following this trail these acts are a refusal of job 0's command at line 5, and what went before it, with this answer
abbrev pub IsRefused : List Act → Command → List Act → Answer → Type 0
IsRefused front command acts answer = RefusedAfter two 0 5 command no_past (group front 0 acts) answer []

-- a command at a line
abbrev pub at_line : ℕ → Command → CommandLine
at_line line command = record { line = line; command = command }

-- the end of a command of job 0: its line, its answer, and its place in the trail
abbrev pub ended : ℕ → Answer → ℕ → Ended
ended line answer place = record { job = 0; line = line; answer = answer; place = place }

-- these acts that follow a trail are what job 0 does for its commands, and these are their ends
abbrev pub JobDoes : List Act → List CommandLine → List Act → List Ended → Type 0
JobDoes front commands acts ends = DoesJob two 0 commands (group front 0 acts) ends

-- what stands before a line: acts, lines, pieces; no data server is down, and messages flow
abbrev pub so_far : List Act → List ScriptLine → List Piece → SoFar
so_far acts lines pieces = record { lines = lines; acts = acts; pieces = pieces; ends = []; down = λ _. false; flows = true }

-- messages are held, and the first data server has an entry unsaved
abbrev pub in_hold : SoFar
in_hold = record (so_far (met ++ Enter 0 (OpenEntry 3 1) ∷ []) [] []) { flows = false }

-- the first data server is down
abbrev pub when_down : SoFar
when_down = record { lines = []; acts = met; pieces = []; ends = []; down = λ d. d == 0; flows = true }

-- line 5 of a script adds these acts, pieces and ends
abbrev pub Adds : SoFar → Todo → List Act → List Piece → List Ended → Type 0
Adds s todo acts pieces ends = LineAdds two s (record { line = 5; todo = todo }) (record { acts = acts; pieces = pieces; ends = ends })

-- an answer to job 0 at a line
abbrev pub says : ℕ → Answer → Piece
says line answer = Answered (record { job = 0; line = line; answer = answer })
