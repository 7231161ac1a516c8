-- The acts of a trail with the state before each of them.
use Rattle.std.specs.Prelude.{◌≡◌, ℕ, Bool, false, ◌==◌, ◌+◌, List, [], ◌∷◌, Option, Some, None, map, filter, slice_get, IfSome}
use Rattle.std.specs.List.{AllByRecursion}
use Rattle.plain_orders.specs.declared.act.Act.{Act}
use Rattle.plain_orders.specs.declared.act.Act.TheVariants.{Opened, Enter, Synced, Shut, Release, Met, Told, Back, Crash, Issue, Read, Grant, Granted, GiveUp, Quit, Free, Counted, NotWhole, Range, Committed, RolledBack, Reached, Level, Done, Refused, Broke, Mended, Tick, Lose, Died}
use Rattle.plain_orders.specs.declared.layout.Layout.{Layout}
use Rattle.plain_runs.specs.Plain.{Plain, start}
use Rattle.plain_runs.specs.Step.{after}

-- an act, its place in the trail from 0, and the plain machine's state before it
pub record Moment : Type 0 where
  pub place : ℕ
  pub before : Plain
  pub act : Act

-- the moments of some acts, from a place and a state on
abbrev pub moments_from : Layout → ℕ → Plain → List Act → List Moment
moments_from l k p [] = []
moments_from l k p (a ∷ acts) = record { place = k; before = p; act = a } ∷ moments_from l (k + 1) (after l p a) acts

-- the moments of a trail
abbrev pub moments : Layout → List Act → List Moment
moments l acts = moments_from l 0 start acts

-- the acts of some moments
abbrev pub acts_in : List Moment → List Act
acts_in ms = map (λ m. m.act) ms

-- the acts of one step stand one right after the other
abbrev pub AreTogether : List Moment → Type 0
AreTogether [] = Unit {0}
AreTogether (m ∷ ms) = IfSome (slice_get ms 0) (λ n. n.place ≡ m.place + 1) × AreTogether ms

-- at none of these moments has the job to roll back first
abbrev pub IsFree : ℕ → List Moment → Type 0
IsFree job ms = AllByRecursion (λ (m : Moment). (m.before.job_at job).rollback_only ≡ false) ms

-- the job of an act that a job makes
abbrev pub job_of : Act → Option ℕ
job_of (Opened d entries) = None
job_of (Enter d entry) = None
job_of (Synced d n) = None
job_of (Shut d session cause) = None
job_of (Release d session) = None
job_of (Met app d session) = None
job_of (Told app d session epoch kept) = None
job_of (Back d) = None
job_of (Crash d kept) = None
job_of (Issue job line d w item) = Some job
job_of (Read job line d at via question) = Some job
job_of (Grant d session job mode key at) = None
job_of (Granted job line d at) = Some job
job_of (GiveUp job line d mode key) = Some job
job_of (Quit job line d mode key) = Some job
job_of (Free d session job mode key) = None
job_of (Counted job line d at sum) = Some job
job_of (NotWhole job line d at) = Some job
job_of (Range job line d at) = Some job
job_of (Committed job line d at) = Some job
job_of (RolledBack job line d at) = Some job
job_of (Reached job line d at) = Some job
job_of (Level job line level) = Some job
job_of (Done job line) = Some job
job_of (Refused job line refusal) = Some job
job_of (Broke app d end time) = None
job_of (Mended app d) = None
job_of (Tick time) = None
job_of (Lose app d loss) = None
job_of (Died app) = None

-- the job is this one
abbrev pub is_job : ℕ → Option ℕ → Bool
is_job j None = false
is_job j (Some job) = job == j

-- the moments of a job, in order
abbrev pub moments_of : ℕ → List Moment → List Moment
moments_of j ms = filter (λ m. is_job j (job_of m.act)) ms
