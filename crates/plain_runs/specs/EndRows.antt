-- The rows on sessions and connections.
use Rattle.std.specs.Prelude.{◌≡◌, ℕ, Bool, true, false, ◌==◌, ◌&&◌, ◌||◌, ◌+◌, ◌<◌, ◌≤◌, min, if◌then◌else◌, List, [], ◌∷◌, ◌++◌, Option, Some, None, nat_lt, is_some, unwrap_or}
use Rattle.std.specs.List.{list_any}
use Rattle.std.specs.Option.{option_map}
use Rattle.plain_orders.specs.declared.entry.Entry.{Entry}
use Rattle.plain_orders.specs.declared.entry.Entry.TheVariants.{Opened, Closed}
use Rattle.plain_orders.specs.declared.layout.Layout.{Layout}
use Rattle.plain_orders.specs.declared.causes.ShutCause.{ShutCause}
use Rattle.plain_orders.specs.declared.causes.ShutCause.TheVariants.{Trouble, Replaced, Round}
use Rattle.plain_orders.specs.declared.causes.PairEnd.{PairEnd}
use Rattle.plain_orders.specs.declared.causes.PairEnd.TheVariants.{App as AppEnd, Server as ServerEnd}
use Rattle.plain_orders.specs.declared.causes.Loss.{Loss}
use Rattle.plain_orders.specs.declared.causes.Loss.TheVariants.{Reset as ByReset, Expired as ByExpired, NoWay as ByNoWay}
use Rattle.plain_orders.specs.declared.refused.ReasonName.{ReasonName}
use Rattle.plain_orders.specs.declared.refused.ReasonName.TheVariants.{Reset, Expired, NoWay}
use Rattle.plain_orders.specs.Entries.{entry_at, live, live_session, last_epoch}
use Rattle.plain_orders.specs.Own.{Issued}
use Rattle.plain_orders.specs.Times.{until}
use Rattle.plain_runs.specs.Plain.{Plain, Server, Session, Entered, Known, Job, put, with_server, with_session, with_jobs_of, runs_on, order_at, orders, session_in, issued_in, pair_session}
use Rattle.plain_runs.specs.Items.{is_update_of}
use Rattle.plain_runs.specs.OrderRows.{with_entry}
use Rattle.plain_orders.specs.Sessions.{app_in, place_of_epoch}

-- when the data end of a session broke
abbrev pub end_of_app : Server → Option ℕ → Option ℕ
end_of_app s None = None
end_of_app s (Some app) = s.end_at app

-- when the data end of a session's application server broke
abbrev pub end_in : Server → ℕ → Option ℕ
end_in s session = end_of_app s (app_in s.order session)

-- a Close at the end, since the data end was broke for too long
pub record ShutTroubleMay (p : Plain) (s : Server) (session time trouble : ℕ) : Type 0 where
  pub is_live : live s.order session ≡ true
  pub now : time ≡ p.clock
  pub broken : is_some (end_in s session) ≡ true
  pub over : until (unwrap_or (end_in s session) 0) trouble ≤ time

-- a Close at the end, since a new session takes its place
pub record ShutReplacedMay (s : Server) (session : ℕ) : Type 0 where
  pub is_live : live s.order session ≡ true

-- a Close at the end, since the recovery round is due
pub record ShutRoundMay (p : Plain) (s : Server) (session time : ℕ) : Type 0 where
  pub is_live : live s.order session ≡ true
  pub now : time ≡ p.clock
  pub recovering : is_some s.due ≡ true
  pub over : unwrap_or s.due 0 ≤ time

-- a Close of a session, by its cause
abbrev pub ShutMay : Layout → Plain → Server → ℕ → ShutCause → Type 0
ShutMay layout p s session (Trouble time) = ShutTroubleMay p s session time layout.times.trouble
ShutMay layout p s session Replaced = ShutReplacedMay s session
ShutMay layout p s session (Round time) = ShutRoundMay p s session time

-- an Open that was entered, where it was
abbrev pub entered_in : Server → ℕ → Entered
entered_in s n = unwrap_or (s.entered_at n) (record { app = 0; in_order = 0; lost_since = false })

-- an application server learns its new session
pub record MetMay (s : Server) (app session : ℕ) : Type 0 where
  pub place : entry_at s.order session ≡ Some (Opened session app)
  pub synced : session ≤ s.synced
  pub entered : is_some (s.entered_at session) ≡ true
  pub not_lost : (entered_in s session).lost_since ≡ false
  pub fresh : is_some (s.session_at session) ≡ false
  pub none : is_some (s.pair_at app).session ≡ false

-- the place of the last order that this Epoch began, where it was this before the order at place k
abbrev pub begun_from : ℕ → ℕ → ℕ → List (List Entry) → ℕ
begun_from epoch found k [] = found
begun_from epoch found k (es ∷ more) = begun_from epoch (if last_epoch es == epoch then k else found) (k + 1) more

-- the place of the last order that this Epoch began, or 0
abbrev pub begun_by : Server → ℕ → ℕ
begun_by s epoch = begun_from epoch 0 0 (orders s)

-- an application server learns of a new epoch
pub record ToldMay (s : Server) (app session epoch kept : ℕ) : Type 0 where
  pub its : (s.pair_at app).session ≡ Some session
  pub later : (session_in s session).told < begun_by s epoch
  pub place : place_of_epoch (last_epoch (order_at s (session_in s session).told)) 0 (order_at s (begun_by s epoch)) ≡ Some kept

-- the application end breaks, once, while its pair has a session
pub record BrokeAppMay (p : Plain) (s : Server) (app time : ℕ) : Type 0 where
  pub alive : p.died_at app ≡ false
  pub now : time ≡ p.clock
  pub there : is_some (s.pair_at app).session ≡ true
  pub fresh : is_some (s.pair_at app).broke ≡ false

-- the data end breaks, while its application server has a live session
pub record BrokeServerMay (p : Plain) (s : Server) (app time : ℕ) : Type 0 where
  pub now : time ≡ p.clock
  pub has_live : is_some (live_session s.order app) ≡ true

-- one end of a pair's connection breaks
abbrev pub BrokeMay : Plain → Server → ℕ → PairEnd → ℕ → Type 0
BrokeMay p s app AppEnd time = BrokeAppMay p s app time
BrokeMay p s app ServerEnd time = BrokeServerMay p s app time

-- the application end is whole again
pub record MendedMay (p : Plain) (s : Server) (app : ℕ) : Type 0 where
  pub alive : p.died_at app ≡ false
  pub broken : is_some (s.pair_at app).broke ≡ true

-- the session's Close is synced
pub record LoseResetMay (s : Server) (app at : ℕ) : Type 0 where
  pub there : is_some (s.pair_at app).session ≡ true
  pub synced : at ≤ s.synced
  pub closed : entry_at s.order at ≡ Some (Closed (pair_session s app))

-- the application end was broke for too long
pub record LoseExpiredMay (p : Plain) (s : Server) (app time recover : ℕ) : Type 0 where
  pub now : time ≡ p.clock
  pub broken : is_some (s.pair_at app).broke ≡ true
  pub over : until (unwrap_or (s.pair_at app).broke 0) recover ≤ time

-- a connect failed
pub record LoseNoWayMay (s : Server) (app before after : ℕ) : Type 0 where
  pub none : is_some (s.pair_at app).session ≡ false
  pub failed : before < after

-- a session is lost or a connect failed, by its cause
abbrev pub LoseRow : Layout → Plain → Server → ℕ → Loss → Type 0
LoseRow layout p s app (ByReset at) = LoseResetMay s app at
LoseRow layout p s app (ByExpired time) = LoseExpiredMay p s app time layout.times.recover
LoseRow layout p s app (ByNoWay before after) = LoseNoWayMay s app before after

-- what they change

-- a Close at the end of the order
abbrev pub shut : Server → ℕ → Server
shut s session = with_entry s (app_in s.order session) (Closed session)

-- the session as it is when it is met
abbrev pub new_session : Server → ℕ → ℕ → Session
new_session s app session = record { app = app; issued = []; told = (entered_in s session).in_order }

-- the pair has the session, which is told of the order that it was entered in; its jobs have seen the Open
abbrev pub met_by : Layout → Server → ℕ → ℕ → Server
met_by layout s app session =
    with_jobs_of layout
    (record s {
      pair_at = put s.pair_at app (record { session = Some session; broke = None });
      session_at = put s.session_at session (Some (new_session s app session));
    })
    app (λ k. record k { seen = session; acted = false })

-- the session is told of the last order that the Epoch began; its jobs have seen no more than what was kept
abbrev pub told_of : Layout → Server → ℕ → ℕ → ℕ → ℕ → Server
told_of layout s app session epoch kept =
    with_jobs_of layout (with_session s session (λ m. record m { told = begun_by s epoch })) app (λ k. record k { seen = min k.seen kept })

-- the pair is broke since this time
abbrev pub broke_app : Server → ℕ → ℕ → Server
broke_app s app time = record s { pair_at = put s.pair_at app (record (s.pair_at app) { broke = Some time }) }

-- the data end is broke since this time
abbrev pub broke_server : Server → ℕ → ℕ → Server
broke_server s app time = record s { end_at = put s.end_at app (Some time) }

-- the end that broke is broke since this time
abbrev pub broke : Server → ℕ → PairEnd → ℕ → Server
broke s app AppEnd time = broke_app s app time
broke s app ServerEnd time = broke_server s app time

-- the pair is not broke any more
abbrev pub mended : Server → ℕ → Server
mended s app = record s { pair_at = put s.pair_at app (record (s.pair_at app) { broke = None }) }

-- a failed connect joins a job's news
abbrev pub knows_noway : Known → Known
knows_noway k = record k { news = k.news ++ NoWay ∷ [] }

-- a lost session joins a job's news, and bars it where it had an act in the session
abbrev pub knows_loss : ReasonName → Known → Known
knows_loss reason k = record k { news = k.news ++ reason ∷ []; acted = false; bar = if k.acted then Some reason else k.bar }

-- an Open of this application server was entered before its pair lost a session
abbrev pub since_loss : ℕ → Option Entered → Option Entered
since_loss app o = option_map (λ (e : Entered). record e { lost_since = e.lost_since || e.app == app }) o

-- the pair has no session; its jobs have news, and a loss came since its Opens that were entered
abbrev pub without_session : Layout → Server → ℕ → ReasonName → Server
without_session layout s app reason =
    with_jobs_of layout
    (record s { pair_at = put s.pair_at app (record { session = None; broke = None }); entered_at = λ n. since_loss app (s.entered_at n) })
    app (knows_loss reason)

-- the job has an update of its open transaction among these
abbrev pub has_open_update : Job → ℕ → List Issued → Bool
has_open_update x job issued = nat_lt 0 x.level && list_any (is_update_of job x.txn) issued

-- a job whose open transaction lost updates can only be rolled back
abbrev pub job_after_loss : Layout → Server → ℕ → ℕ → Job → Job
job_after_loss layout s app job x =
    record x { rollback_only = x.rollback_only || (runs_on layout app job && has_open_update x job (issued_in s (pair_session s app))) }

-- the pair's session is lost, and with it the updates of open transactions
abbrev pub lost_session : Layout → Plain → ℕ → ℕ → ReasonName → Plain
lost_session layout p app server reason =
    record (with_server p server (without_session layout (p.server_at server) app reason)) {
      job_at = λ j. job_after_loss layout (p.server_at server) app j (p.job_at j);
    }

-- a failed connect is news for the jobs
abbrev pub no_way : Layout → Plain → ℕ → ℕ → Plain
no_way layout p app server = with_server p server (with_jobs_of layout (p.server_at server) app knows_noway)

-- what a loss changes, by its cause
abbrev pub lost : Layout → Plain → ℕ → ℕ → Loss → Plain
lost layout p app server (ByReset at) = lost_session layout p app server Reset
lost layout p app server (ByExpired time) = lost_session layout p app server Expired
lost layout p app server (ByNoWay before after) = no_way layout p app server
