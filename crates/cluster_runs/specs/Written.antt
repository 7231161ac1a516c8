-- The acts of a trail that were written while something was so.
use Rattle.std.specs.Prelude.{ℕ, Bool, false, ◌==◌, ◌&&◌, ◌+◌, if◌then◌else◌, List, [], ◌∷◌, length, Option, Some, None}
use Rattle.std.specs.List.{filter, range_with_len}
use Rattle.plain_orders.specs.declared.act.Act.{Act}
use Rattle.plain_orders.specs.declared.act.Act.TheVariants as act
use Rattle.plain_orders.specs.declared.layout.Layout.{Layout}
use Rattle.plain_runs.specs.Plain.{Plain, start, current, session_in, runs_on}
use Rattle.plain_runs.specs.Step.{after}

-- from a state on, the acts before which a test holds of the plain machine
abbrev pub written_from : Layout → (Plain → Bool) → Plain → List Act → List Act
written_from l test p [] = []
written_from l test p (a ∷ acts) = if test p then a ∷ written_from l test (after l p a) acts else written_from l test (after l p a) acts

-- the same of a whole trail
abbrev pub written_while : Layout → List Act → (Plain → Bool) → List Act
written_while l trail test = written_from l test start trail

-- the data server has its k-th order, from 0
abbrev pub has_order : ℕ → ℕ → Plain → Bool
has_order server k p = current (p.server_at server) == k

-- it is this number
abbrev pub is_number : ℕ → Option ℕ → Bool
is_number n None = false
is_number n (Some m) = m == n

-- the pair has this session
abbrev pub has_session : ℕ → ℕ → ℕ → Plain → Bool
has_session app server session p = is_number session ((p.server_at server).pair_at app).session

-- and the session is told of the k-th order
abbrev pub is_told_of : ℕ → ℕ → ℕ → ℕ → Plain → Bool
is_told_of app server session k p = has_session app server session p && (session_in (p.server_at server) session).told == k

-- the places of a data server's orders
abbrev pub order_places : Plain → ℕ → List ℕ
order_places p server = range_with_len 0 (current (p.server_at server) + 1)

-- how many a test finds
abbrev pub count_of : {X : Type 0} → (X → Bool) → List X → ℕ
count_of test xs = length (filter test xs)

-- the job of an act, where it is one of a job
abbrev pub job_of : Act → Option ℕ
job_of (act.Opened server entries) = None
job_of (act.Enter server entry) = None
job_of (act.Synced server number) = None
job_of (act.Shut server session cause) = None
job_of (act.Release server session) = None
job_of (act.Met app server session) = None
job_of (act.Told app server session epoch kept) = None
job_of (act.Back server) = None
job_of (act.Crash server kept) = None
job_of (act.Issue job line server w item) = Some job
job_of (act.Read job line server at via question) = Some job
job_of (act.Grant server session job mode key at) = None
job_of (act.Granted job line server at) = Some job
job_of (act.GiveUp job line server mode key) = Some job
job_of (act.Quit job line server mode key) = Some job
job_of (act.Free server session job mode key) = None
job_of (act.Counted job line server at sum) = Some job
job_of (act.NotWhole job line server at) = Some job
job_of (act.Range job line server at) = Some job
job_of (act.Committed job line server at) = Some job
job_of (act.RolledBack job line server at) = Some job
job_of (act.Reached job line server at) = Some job
job_of (act.Level job line level) = Some job
job_of (act.Done job line) = Some job
job_of (act.Refused job line refusal) = Some job
job_of (act.Broke app server end time) = None
job_of (act.Mended app server) = None
job_of (act.Lose app server loss) = None
job_of (act.Died app) = None
job_of (act.Tick time) = None

-- a job of this application server
abbrev pub is_of_app : Layout → ℕ → Option ℕ → Bool
is_of_app l app None = false
is_of_app l app (Some job) = runs_on l app job

-- an act of such a job
abbrev pub is_act_of : Layout → ℕ → Act → Bool
is_act_of l app a = is_of_app l app (job_of a)

-- the acts of the jobs of an application server
abbrev pub acts_of : Layout → ℕ → List Act → List Act
acts_of l app acts = filter (is_act_of l app) acts
