-- What each job knows, against what the plain machine knows of it.
use Rattle.std.specs.Prelude.{◌≡◌, ◌<◌, ◌≤◌, ◌-◌, ◌==◌, ◌&&◌, ◌||◌, ⊤, ℕ, Bool, true, false, List, [], ◌∷◌, map, nat_lt, slice_get, get_or, Some, None, is_some, IfSome, IsSomeAnd}
use Rattle.std.specs.List.{filter, list_all, list_any, AllByRecursion}
use Rattle.plain_orders.specs.declared.item.Item.{Item}
use Rattle.plain_orders.specs.declared.refused.ReasonName.TheVariants.{NoWay}
use Rattle.plain_orders.specs.Own.{Issued, own}
use Rattle.plain_runs.specs.EndRows.{has_open_update}
use Rattle.plain_runs.specs.Items.{is_add, is_commit, is_rollback, ended_from}
use Rattle.plain_runs.specs.JobRows.{is_answered_item, is_reason, state_of_loss}
use Rattle.plain_runs.specs.Plain.{Plain, Server, Known as PlainKnown, Job, issued_in}
use Rattle.app_job.specs.declared.command.Command.{Command}
use Rattle.app_job.specs.declared.command.Command.TheVariants.{Get, Shape, Next, Incr, Commit, Rollback, Sync}
use Rattle.app_rules.specs.declared.session_parts.Ended.{Ended}
use Rattle.app_rules.specs.declared.session_parts.Fetching.{Fetching}
use Rattle.app_rules.specs.declared.session_parts.Held.{Held}
use Rattle.app_rules.specs.declared.session_parts.HeldBack.{HeldBack}
use Rattle.app_rules.specs.declared.session_parts.Lost.{Lost}
use Rattle.app_rules.specs.declared.session_parts.Syncing.{Syncing}
use Rattle.app_rules.specs.declared.session_parts.Updated.{Updated}
use Rattle.app_rules.specs.AppState.{AppEnd, Session}
use Rattle.app_rules.specs.Issuing.{op_in}
use Rattle.app_rules.specs.JobState.{JobState, Progress, used_at}
use Rattle.app_rules.specs.Looks.{Known, known_at}
use Rattle.app_rules.specs.Refusing.{is_rollback_only, loss_of, name_of, servers_of}
use Rattle.app_rules.specs.Works.{is_late}
use Rattle.cluster_runs.specs.CoresState.{Begun, app_of_job}
use Rattle.cluster_runs.specs.Machine.{Machine, app_state, end_state}
use Rattle.cluster_invariant.specs.Words.{is_number}

-- a job and one data server

-- the job notes updates of its transaction in this session
abbrev pub is_updated_in : ℕ → ℕ → Updated → Bool
is_updated_in d session u = u.server == d && u.session == session

-- updates are noted by data server, of each once
abbrev pub are_by_server : List Updated → Bool
are_by_server [] = true
are_by_server (u ∷ us) = list_all (λ o. nat_lt u.server o.server) us && are_by_server us

-- it holds an unlock of this session back
abbrev pub is_held_back_in : ℕ → ℕ → HeldBack → Bool
is_held_back_in d session h = h.server == d && h.session == session

-- it has a hold
abbrev pub is_held_by : ℕ → Held → Bool
is_held_by job h = h.job == job

-- it issued the item
abbrev pub is_issued_by : ℕ → Issued → Bool
is_issued_by job i = i.job == job

-- an item of the job is of no later transaction
abbrev pub IsOfTxn : ℕ → ℕ → Issued → Type 0
IsOfTxn job txn i = i.job ≡ job → i.txn ≤ txn

-- The transaction of a job in the session of a pair: it notes updates there where it issued some, and those aren't ended.
pub record UpdatesAre (x : Job) (job : ℕ) (j : JobState) (d session : ℕ) (issued : List Issued) : Type 0 where
  pub noted : list_any (is_updated_in d session) j.updates ≡ has_open_update x job issued
  pub unended : list_any (is_updated_in d session) j.updates ≡ true → ended_from job j.txn false issued ≡ false
  pub no_later : AllByRecursion (IsOfTxn job j.txn) issued

-- What a job did in the session of a pair was an act of it there.
pub record ActedWhere (has_acted : Bool) (job : ℕ) (j : JobState) (d : ℕ) (issued : List Issued) (s : Session) : Type 0 where
  pub updates : list_any (is_updated_in d s.number) j.updates ≡ true → has_acted ≡ true
  pub held_back : list_any (is_held_back_in d s.number) j.held_back ≡ true → has_acted ≡ true
  pub held : list_any (is_held_by job) s.held ≡ true → has_acted ≡ true
  pub issued_there : list_any (is_issued_by job) issued ≡ true → has_acted ≡ true

-- what the job knew of a data server after its last step, where it knew the session that the pair has: its own Sets and Kills behind the front,
-- and that nothing bars it, if it knew of no loss
pub record KnewIs (k : PlainKnown) (view : Known) (job : ℕ) (issued : List Issued) (s : Session) : Type 0 where
  pub late : s.normal_due ≡ false → map op_in (filter (is_late s.w) view.late) ≡ own issued job s.w
  pub late_within : AllByRecursion (λ i. i.w ≤ s.issued) view.late
  pub unbarred : view.has_loss ≡ false → k.bar ≡ None

-- A job and the session of its pair with one data server.
pub record JobInSession (k : PlainKnown) (issued : List Issued) (x : Job) (job : ℕ) (j : JobState) (view : Known) (d : ℕ) (s : Session) : Type 0 where
  pub seen : k.seen ≤ s.n
  pub updates : UpdatesAre x job j d s.number issued
  pub acted : ActedWhere k.acted job j d issued s
  pub knew : view.session ≡ Some s.number → KnewIs k view job issued s

-- a session that a job used last is the one that its pair has, or was lost
abbrev pub IsUsed : AppEnd → ℕ → Type 0
IsUsed e session = (is_number session e.session || is_some (loss_of e.lost (Some session))) ≡ true

-- a loss of which the job wasn't told is news for it
abbrev pub IsNews : PlainKnown → Lost → Type 0
IsNews k y = list_any (is_reason (name_of y.reason)) k.news ≡ true

-- what a job notes of sessions, and what it knew of the pair's, is of none above the greatest that its end was told
pub record NotesTold (greatest : ℕ) (j : JobState) (view : Known) (d : ℕ) : Type 0 where
  pub updates : AllByRecursion (λ u. u.server ≡ d → u.session ≤ greatest) j.updates
  pub held_back : AllByRecursion (λ h. h.server ≡ d → h.session ≤ greatest) j.held_back
  pub knew : IfSome view.session (λ session. session ≤ greatest)

-- A job and one data server.
pub record JobAt (v : Server) (e : AppEnd) (x : Job) (job : ℕ) (j : JobState) (view : Known) (d : ℕ) : Type 0 where
  pub session : IfSome e.session (λ s. JobInSession (v.known_at job) (issued_in v s.number) x job j view d s)
  pub told : NotesTold e.told j view d
  pub used : IfSome (used_at j d) (IsUsed e)
  -- where it had an act it used the pair's session last
  pub acted : (v.known_at job).acted ≡ true → IsSomeAnd e.session (λ s. used_at j d ≡ Some s.number)
  -- and has no news
  pub quiet : (v.known_at job).acted ≡ true → (v.known_at job).news ≡ []
  -- what bars it is the loss of the session that it used last
  pub bar : IfSome (v.known_at job).bar (λ reason. IsSomeAnd (loss_of e.lost (used_at j d)) (λ y. name_of y.reason ≡ reason))
  pub news : IfSome (loss_of e.lost (used_at j d)) (IsNews (v.known_at job))

-- a job and its command

-- an item of the job's command was issued at its line, in the session that the job used last
abbrev pub IssuedFor : (ℕ → Server) → ℕ → JobState → ℕ → (Item → Bool) → ℕ → ℕ → Type 0
IssuedFor servers job j line kind d w =
    IsSomeAnd (used_at j d) (λ session. is_answered_item job line kind (slice_get (issued_in (servers d) session) (w - 1)) ≡ true)

-- so were the ends of a transaction
abbrev pub EndsIssued : (ℕ → Server) → ℕ → JobState → Progress → (Item → Bool) → Type 0
EndsIssued servers job j p kind = IfSome p.ends (λ ends. AllByRecursion (λ (e : Ended). IssuedFor servers job j p.line kind e.server e.w) ends)

-- what a command that waits has issued
abbrev pub CommandIssued : (ℕ → Server) → ℕ → JobState → Progress → Command → Type 0
CommandIssued servers job j p (Incr at amount) = IfSome p.added (IssuedFor servers job j p.line is_add at.server)
CommandIssued servers job j p (Commit sync) = EndsIssued servers job j p is_commit
CommandIssued servers job j p Rollback = EndsIssued servers job j p is_rollback
CommandIssued servers job j p command = ⊤

-- an attempt that failed since the command's first step is news
abbrev pub FailureIsNews : PlainKnown → AppEnd → ℕ → Type 0
FailureIsNews k e failed = failed < e.failed → list_any (is_reason NoWay) k.news ≡ true

-- an end of a transaction was put to one of these data servers
abbrev pub is_put_to : List ℕ → Ended → Bool
is_put_to servers e = list_any (λ d. d == e.server) servers

-- A command that waits. One that began outside of transactions is outside of them still.
pub record CommandIs (p : Plain) (m : Machine) (app job : ℕ) (j : JobState) (command : Command) (g : Progress) : Type 0 where
  pub issued : CommandIssued p.server_at job j g command
  pub ends : IfSome g.ends (AllByRecursion (λ e. is_put_to g.servers e ≡ true))
  pub level : g.level ≡ 0 → j.level ≡ 0
  pub news : AllByRecursion (λ d. FailureIsNews ((p.server_at d).known_at job) (end_state m app d) (get_or g.failed d 0))
      (servers_of command j g)

-- what is known of a command is kept while it waits
pub record BegunIs (p : Plain) (m : Machine) (app job : ℕ) (j : JobState) (b : Begun) : Type 0 where
  pub waiting : is_some j.progress ≡ is_some b.waits
  pub line : IfSome j.progress (λ g. g.line ≡ b.line)
  pub command : IfSome b.waits (λ command. IfSome j.progress (CommandIs p m app job j command))

-- A job of a living application server.
pub record JobIs (p : Plain) (m : Machine) (app job : ℕ) (j : JobState) (x : Job) : Type 0 where
  pub level : j.level ≡ x.level
  pub txn : j.txn ≡ x.txn
  -- transactions have numbers from 1
  pub positive : 0 < j.level → 0 < j.txn
  -- it has only to roll back where updates of its transaction were lost
  pub flag : is_rollback_only (app_state m app) j ≡ x.rollback_only
  pub by_server : are_by_server j.updates ≡ true
  pub servers : (d : ℕ) → JobAt (p.server_at d) (end_state m app d) x job j (known_at (m.view_at job) d) d
  pub begun : BegunIs p m app job j (m.begun_at job)

-- an end and its jobs

-- the command is a Sync at this data server
abbrev pub IsSyncAt : ℕ → Command → Type 0
IsSyncAt d (Sync server) = server ≡ d
IsSyncAt d command = ⊥

-- the command reads at this data server
abbrev pub IsReadAt : ℕ → Command → Type 0
IsReadAt d (Get at) = at.server ≡ d
IsReadAt d (Shape at) = at.server ≡ d
IsReadAt d (Next parent sub) = parent.server ≡ d
IsReadAt d command = ⊥

-- a job of this application server waits with such a command, in the session that it used last
pub record WaitsWith (m : Machine) (app d session : ℕ) (Its : Command → Type 0) (job : ℕ) : Type 0 where
  pub its : app_of_job m.layout job ≡ app
  pub waits : IsSomeAnd (m.begun_at job).waits Its
  pub used : used_at (m.job_at job) d ≡ Some session

-- What an end awaits is for commands that wait; a Fetch may be unanswered whose command is over.
pub record AwaitsFor (m : Machine) (app d : ℕ) (s : Session) : Type 0 where
  pub syncs : AllByRecursion (λ (a : Syncing). WaitsWith m app d s.number (IsSyncAt d) a.job) s.syncs
  pub fetches : AllByRecursion (λ (f : Fetching). f.wanted ≡ true → WaitsWith m app d s.number (IsReadAt d) f.job) s.fetches
  pub again : AllByRecursion (λ (f : Fetching). WaitsWith m app d s.number (IsReadAt d) f.job) s.again

-- the state in which a session was lost goes with the reason
abbrev pub LossSays : Lost → Type 0
LossSays y = y.state ≡ state_of_loss (name_of y.reason)

-- an end
pub record EndJobs (m : Machine) (app d : ℕ) (e : AppEnd) : Type 0 where
  pub awaits : IfSome e.session (AwaitsFor m app d)
  pub lost : AllByRecursion LossSays e.lost

-- all jobs and all living ends
pub record JobsHold (p : Plain) (m : Machine) : Type 0 where
  pub jobs : (job : ℕ) → m.is_dead_at (app_of_job m.layout job) ≡ false → JobIs p m (app_of_job m.layout job) job (m.job_at job) (p.job_at job)
  pub ends : (app d : ℕ) → m.is_dead_at app ≡ false → EndJobs m app d (end_state m app d)
