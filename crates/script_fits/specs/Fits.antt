-- A script fits an output.
use Rattle.std.specs.Prelude.{Option, Some, None, false, ◌≡◌, ◌⊎◌, ℕ, ◌+◌, ◌≤◌, true, List, [], ◌∷◌, ◌++◌, length, slice_get, IfSome, map, Any, filter, ◌==◌}
use Rattle.std.specs.List.{flat_map, range_with_len, AllByRecursion}
use Rattle.plain_orders.specs.declared.act.Act.{Act}
use Rattle.plain_runs.specs.Plain.{app_of}
use Rattle.plain_runs.specs.Run.{state_after}
use Rattle.job_script.specs.declared.script.Script.{Script}
use Rattle.script_fits.specs.declared.output.Output.{Output}
use Rattle.plain_orders.specs.declared.act.Act.TheVariants.{Read}
use Rattle.script_fits.specs.Moments.{Moment, moments, moments_of}
use Rattle.script_fits.specs.JobLines.{CommandLine, commands_of, Ended, ended_of, DoesJob}
use Rattle.script_fits.specs.Pieces.{answers_in, has_wait}
use Rattle.script_fits.specs.Naming.{IsDeclared, opened_in}
use Rattle.script_fits.specs.Walk.{Added, after_opening}
use Rattle.script_fits.specs.Breaks.{NetCounts, no_causes, causes_after, BreaksWithin, range_of, LiesIn, AreApart}
use Rattle.script_fits.specs.Lines.{LinesAdd, answer_line}

-- the places of these rise, from k on
abbrev pub AreRising : ℕ → List Ended → Type 0
AreRising k [] = Unit {0}
AreRising k (e ∷ ends) = (k ≤ e.place) × AreRising (e.place + 1) ends

-- at the end a job's application server died, or the job's first command without an end, if there is one, has a waiting line
abbrev pub HasEnds : Script → Output → List Ended → ℕ → Type 0
HasEnds script out ends j =
    ((state_after script.layout out.trail).died_at (app_of script.layout j) ≡ true)
    ⊎ IfSome (slice_get (commands_of j script.lines) (length (ended_of j ends))) (λ (c : CommandLine). has_wait j c.line out.pieces.items ≡ true)

-- a data server begins once
abbrev pub BeginsOnce : List Act → ℕ → Type 0
BeginsOnce trail d = length (filter (λ o. o == d) (flat_map opened_in trail)) ≡ 1

-- What every way of running a script owes at least: the commands of each job in their order, each with just its answer.
pub record AnswersJobs (script : Script) (out : Output) (ends : List Ended) : Type 0 where
  -- what acts name is declared
  pub declared : AllByRecursion (IsDeclared script.layout) out.trail
  -- each declared data server begins once
  pub opened : AllByRecursion (BeginsOnce out.trail) (range_with_len 0 script.layout.servers)
  -- each job's commands stand in their order, each with the acts of its row
  pub jobs : (j : ℕ) → DoesJob script.layout j (commands_of j script.lines) (moments_of j (moments script.layout out.trail)) (ended_of j ends)
  -- the answers stand in the order of the acts that end their commands
  pub rising : AreRising 0 ends
  pub answers : answers_in out.pieces.items ≡ map answer_line ends

-- an act by which a data server begins
abbrev pub IsOpening : Act → Type 0
IsOpening act = length (opened_in act) ≡ 1

-- the job of an act alone, if it is a read
abbrev pub reader_in : Act → Option ℕ
reader_in (Read job line d at via question) = Some job
reader_in act = None

-- a job that reads hasn't to roll back first
abbrev pub IsReadFree : Moment → Type 0
IsReadFree m = IfSome (reader_in m.act) (λ j. (m.before.job_at j).rollback_only ≡ false)

-- What a script that is run line by line owes beside this: trail and transcript are cut into the opening and one part for each line.
pub record FollowsLines (script : Script) (nets : List NetCounts) (out : Output) (ends : List Ended) : Type 0 where
  pub opening : List Act
  pub added : List Added
  -- the declared data servers begin, in their order, and nothing else comes before the first line
  pub begins : AllByRecursion IsOpening opening
  pub in_order : flat_map opened_in opening ≡ range_with_len 0 script.layout.servers
  pub trail : out.trail ≡ opening ++ flat_map (λ (a : Added). a.acts) added
  pub pieces : out.pieces.items ≡ flat_map (λ (a : Added). a.pieces) added
  pub whole : ends ≡ flat_map (λ (a : Added). a.ends) added
  pub lines : LinesAdd script.layout (after_opening opening) script.lines added
  -- none of a living job's commands is left without a word
  pub over : (j : ℕ) → HasEnds script out ends j
  -- no job reads while it has to roll back first, as one may that reads from a cache without its server's lock
  pub reads : AllByRecursion IsReadFree (moments script.layout out.trail)
  -- there is one net at most
  pub one : length nets ≤ 1
  -- connections broke for causes, or with faults of the nets
  pub breaks : BreaksWithin nets (causes_after no_causes script.lines added).unexplained
  -- each failed connect lies within what the net counted, and no two overlap
  pub failed : AllByRecursion (λ r. Any (LiesIn r) nets) (flat_map range_of out.trail)
  pub apart : AreApart (flat_map range_of out.trail)

-- the script fits the output, the nets having counted this
pub record Fits (script : Script) (nets : List NetCounts) (out : Output) : Type 0 where
  pub ends : List Ended
  pub jobs : AnswersJobs script out ends
  pub lines : FollowsLines script nets out ends
