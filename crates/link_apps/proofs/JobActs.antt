-- What a job's command writes loses no session, and what it puts has numbers.
use Rattle.std.proofs.Common.{◌≡◌, ℕ, Bool, true, ◌&&◌, List, [], ◌∷◌, refl, ◌∙◌, ap}
use Rattle.std.specs.List.{AllByRecursion, list_all}
use Rattle.plain_orders.specs.declared.act.Act.{Act}
use Rattle.plain_orders.specs.declared.act.Act.TheVariants.{Opened, Enter, Synced, Shut, Release, Met, Told, Back, Crash, Issue, Read, Grant as GrantAct, Granted, GiveUp, Quit, Free, Counted, NotWhole, Range, Committed, RolledBack, Reached, Level, Done, Refused, Broke, Mended, Tick, Lose, Died}
use Rattle.ecp_messages.specs.declared.up.Up.{Up}
use Rattle.ecp_messages.specs.declared.up.Up.TheVariants as ups
use Rattle.cluster_invariant.specs.Link.{is_numbered_up}
use Rattle.cluster_steps.proofs.JobPieces.{IsOfJob, IsPutByJob}
use Rattle.link_apps.proofs.EnteredStays.{keeps_entered}

-- acts of jobs

job_enters : (app d : ℕ) (a : Act) → IsOfJob a → keeps_entered app d a ≡ true
job_enters app d (Opened e entries) of_job = absurd of_job
job_enters app d (Enter e entry) of_job = absurd of_job
job_enters app d (Synced e n) of_job = absurd of_job
job_enters app d (Shut e session cause) of_job = absurd of_job
job_enters app d (Release e session) of_job = absurd of_job
job_enters app d (Met a e session) of_job = absurd of_job
job_enters app d (Told a e session epoch kept) of_job = absurd of_job
job_enters app d (Back e) of_job = absurd of_job
job_enters app d (Crash e kept) of_job = absurd of_job
job_enters app d (Issue job line e w item) of_job = refl
job_enters app d (Read job line e at via question) of_job = refl
job_enters app d (GrantAct e session job mode key at) of_job = absurd of_job
job_enters app d (Granted job line e at) of_job = refl
job_enters app d (GiveUp job line e mode key) of_job = refl
job_enters app d (Quit job line e mode key) of_job = refl
job_enters app d (Free e session job mode key) of_job = absurd of_job
job_enters app d (Counted job line e at sum) of_job = refl
job_enters app d (NotWhole job line e at) of_job = refl
job_enters app d (Range job line e at) of_job = refl
job_enters app d (Committed job line e at) of_job = refl
job_enters app d (RolledBack job line e at) of_job = refl
job_enters app d (Reached job line e at) of_job = refl
job_enters app d (Level job line level) of_job = refl
job_enters app d (Done job line) of_job = refl
job_enters app d (Refused job line refusal) of_job = refl
job_enters app d (Broke a e end time) of_job = absurd of_job
job_enters app d (Mended a e) of_job = absurd of_job
job_enters app d (Tick time) of_job = absurd of_job
job_enters app d (Lose a e loss) of_job = absurd of_job
job_enters app d (Died a) of_job = absurd of_job

pub all_enter : (app d : ℕ) (ws : List Act) → AllByRecursion IsOfJob ws → AllByRecursion (λ a. keeps_entered app d a ≡ true) ws
all_enter app d [] of_job = tt
all_enter app d (a ∷ ws) of_job = (job_enters app d a of_job.0, all_enter app d ws of_job.1)

-- what a job puts has a number

by_job_numbered : (m : Up) → IsPutByJob m → is_numbered_up m ≡ true
by_job_numbered (ups.Hello app dial) may = absurd may
by_job_numbered (ups.Recover app session epoch said dial) may = absurd may
by_job_numbered (ups.Update w job txn op) may = refl
by_job_numbered (ups.Add w job key amount) may = refl
by_job_numbered (ups.Fetch key) may = refl
by_job_numbered (ups.Ask ticket job mode key) may = refl
by_job_numbered (ups.Unlock job mode key) may = refl
by_job_numbered (ups.Cancel ticket) may = refl
by_job_numbered (ups.Commit w job txn wanted) may = refl
by_job_numbered (ups.Rollback w job txn) may = refl
by_job_numbered (ups.Sync ticket) may = refl
by_job_numbered ups.Done may = absurd may
by_job_numbered (ups.Claim job mode number at key) may = absurd may
by_job_numbered ups.Bare may = absurd may

pub all_by_job : (ms : List Up) → AllByRecursion IsPutByJob ms → list_all is_numbered_up ms ≡ true
all_by_job [] may = refl
all_by_job (m ∷ ms) may = ap (λ (b : Bool). b && list_all is_numbered_up ms) (by_job_numbered m may.0) ∙ all_by_job ms may.1
