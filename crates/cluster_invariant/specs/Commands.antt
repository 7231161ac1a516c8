-- The commands that the requests of application ends are of.
use Rattle.std.specs.Prelude.{◌≡◌, ◌<◌, ◌≤◌, ℕ, false, List, Some, IfSome, IsSomeAnd, get_or}
use Rattle.std.specs.List.{AllByRecursion}
use Rattle.plain_orders.specs.declared.mode.Mode.{Mode}
use Rattle.app_job.specs.declared.command.Command.{Command}
use Rattle.app_job.specs.declared.command.Command.TheVariants.{Lock}
use Rattle.app_rules.specs.declared.session_parts.Asked.{Asked}
use Rattle.app_rules.specs.AppState.{AppEnd, Session}
use Rattle.app_rules.specs.JobState.{JobState, used_at}
use Rattle.cluster_runs.specs.CoresState.{Begun, app_of_job}
use Rattle.cluster_runs.specs.Machine.{Machine, end_state}

-- the command is a lock of this name in this mode at this data server
abbrev pub IsLockOf : ℕ → Mode → List ℕ → Command → Type 0
IsLockOf d mode key (Lock at m wait) = (at.server ≡ d) × (m ≡ mode) × (at.key ≡ key)
IsLockOf d mode key command = ⊥

-- no attempt failed at this end since the first step of a job's command, if one is on
abbrev pub IsUntried : AppEnd → ℕ → JobState → Type 0
IsUntried e d j = IfSome j.progress (λ p. e.failed ≤ get_or p.failed d 0)

-- A request of an end is that of a lock for which a job of this application server waits, in the session that the job used last; and no
-- attempt failed since the command's first step.
pub record WaitsFor (app d session : ℕ) (e : AppEnd) (a : Asked) (its_app : ℕ) (b : Begun) (j : JobState) : Type 0 where
  pub its : its_app ≡ app
  pub waits : IsSomeAnd b.waits (IsLockOf d a.mode a.key)
  pub used : used_at j d ≡ Some session
  pub untried : IsUntried e d j

-- all requests of a session
abbrev pub AllWaitedFor : Machine → ℕ → ℕ → Session → Type 0
AllWaitedFor m app d s =
    AllByRecursion (λ a. WaitsFor app d s.number (end_state m app d) a (app_of_job m.layout a.job) (m.begun_at a.job) (m.job_at a.job)) s.asks

-- Sessions that were lost are none above the greatest that the end was told, and below the session that it has.
pub record LostIs (e : AppEnd) : Type 0 where
  pub told : AllByRecursion (λ y. y.session ≤ e.told) e.lost
  pub below : IfSome e.session (λ s. AllByRecursion (λ y. y.session < s.number) e.lost)

-- of all jobs and all living ends
pub record CommandsHold (m : Machine) : Type 0 where
  pub index : (job : ℕ) → (m.job_at job).index ≡ job
  pub lost : (app d : ℕ) → m.is_dead_at app ≡ false → LostIs (end_state m app d)
  pub asks : (app d : ℕ) → m.is_dead_at app ≡ false → IfSome ((m.site_at d).end_at app).state.session (AllWaitedFor m app d)
