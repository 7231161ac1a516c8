-- The state of the plain machine.
use Rattle.std.specs.Prelude.{ℕ, Bool, false, ◌==◌, ◌&&◌, if◌then◌else◌, List, [], ◌∷◌, ◌++◌, length, Option, None, slice_index_or, unwrap_or, nat_lt}
use Rattle.std.specs.Option.{option_map}
use Rattle.plain_orders.specs.declared.entry.Entry.{Entry}
use Rattle.plain_orders.specs.declared.mode.Mode.{Mode}
use Rattle.plain_orders.specs.declared.layout.Layout.{Layout}
use Rattle.plain_orders.specs.declared.refused.ReasonName.{ReasonName}
use Rattle.plain_orders.specs.Own.{Issued}

-- when a hold or a request was given up: its turn, and how many items were issued in its session before
pub record Given : Type 0 where
  pub turn : ℕ
  pub before : ℕ

-- A hold stays in the list when it goes, so that its place names it. It is sent until it is answered or given up.
pub record Hold : Type 0 where
  pub session : ℕ
  pub job : ℕ
  pub mode : Mode
  pub key : List ℕ
  -- the length of the order when it was granted
  pub at : ℕ
  pub answered : Bool
  pub given : Option Given
  -- until the locks of its session are released
  pub in_force : Bool
  pub gone : Bool

-- a request that was given up before it was granted
pub record Quitted : Type 0 where
  pub session : ℕ
  pub job : ℕ
  pub mode : Mode
  pub key : List ℕ
  pub given : Given

-- a session that its application server met: what was issued in it, and the place of the order that it is told of
pub record Session : Type 0 where
  pub app : ℕ
  pub issued : List Issued
  pub told : ℕ

-- an Open that was entered in this trail: the place of the order that it was entered in, and whether its pair lost a session since
pub record Entered : Type 0 where
  pub app : ℕ
  pub in_order : ℕ
  pub lost_since : Bool

-- an application server's side of the pair with a data server: its session, and since when it is broke
pub record Pair : Type 0 where
  pub session : Option ℕ
  pub broke : Option ℕ

-- What a job knows of a data server: the prefix that it has seen, whether it had an act in the pair's session,
-- the losses that it isn't told of, and the one of them that bars it.
pub record Known : Type 0 where
  pub seen : ℕ
  pub acted : Bool
  pub news : List ReasonName
  pub bar : Option ReasonName

-- A data server and all that is known about it. Of a session that comes again the latest counts.
pub record Server : Type 0 where
  pub opened : Bool
  -- the orders before the current one, the oldest first
  pub past : List (List Entry)
  pub order : List Entry
  pub synced : ℕ
  -- when the recovery round is due, if there is one
  pub due : Option ℕ
  pub holds : List Hold
  -- in the order of their turns
  pub quits : List Quitted
  pub turns : ℕ
  -- by application server: when the data end broke
  pub end_at : ℕ → Option ℕ
  pub session_at : ℕ → Option Session
  pub entered_at : ℕ → Option Entered
  -- by application server
  pub pair_at : ℕ → Pair
  -- by job
  pub known_at : ℕ → Known

-- a job's transaction level
pub record Job : Type 0 where
  pub level : ℕ
  -- the number of its newest transaction
  pub txn : ℕ
  pub rollback_only : Bool
  -- the lines at which it gave a request up
  pub quit_lines : List ℕ

-- the whole machine
pub record Plain : Type 0 where
  pub clock : ℕ
  pub died_at : ℕ → Bool
  pub server_at : ℕ → Server
  pub job_at : ℕ → Job

-- a function changed at one place
abbrev pub put : {X : Type 0} → (ℕ → X) → ℕ → X → ℕ → X
put f k x q = if q == k then x else f q

-- with a server changed
abbrev pub with_server : Plain → ℕ → Server → Plain
with_server p d s = record p { server_at = put p.server_at d s }

-- with a job changed
abbrev pub with_job : Plain → ℕ → Job → Plain
with_job p j x = record p { job_at = put p.job_at j x }

-- the application server of a job
abbrev pub app_of : Layout → ℕ → ℕ
app_of layout job = slice_index_or layout.job_apps job 0

-- the job is there and runs on this application server
abbrev pub runs_on : Layout → ℕ → ℕ → Bool
runs_on layout app job = nat_lt job (length layout.job_apps) && app_of layout job == app

-- the place of the current order
abbrev pub current : Server → ℕ
current s = length s.past

-- all orders, the current one last
abbrev pub orders : Server → List (List Entry)
orders s = s.past ++ s.order ∷ []

-- the order at a place, from 0
abbrev pub order_at : Server → ℕ → List Entry
order_at s k = slice_index_or (orders s) k []

-- a session that was met, where it was
abbrev pub session_in : Server → ℕ → Session
session_in s n = unwrap_or (s.session_at n) (record { app = 0; issued = []; told = 0 })

-- what was issued in a session
abbrev pub issued_in : Server → ℕ → List Issued
issued_in s n = (session_in s n).issued

-- the session of a pair, where it has one
abbrev pub pair_session : Server → ℕ → ℕ
pair_session s app = unwrap_or (s.pair_at app).session 0

-- the order that a pair's session is told of
abbrev pub told_order : Server → ℕ → List Entry
told_order s app = order_at s (session_in s (pair_session s app)).told

-- with what a job knows changed
abbrev pub with_known : Server → ℕ → Known → Server
with_known s job k = record s { known_at = put s.known_at job k }

-- with a session that was met changed
abbrev pub with_session : Server → ℕ → (Session → Session) → Server
with_session s n f = record s { session_at = put s.session_at n (option_map f (s.session_at n)) }

-- what each job of an application server knows of a server, changed alike
abbrev pub with_jobs_of : Layout → Server → ℕ → (Known → Known) → Server
with_jobs_of layout s app f = record s { known_at = λ j. if runs_on layout app j then f (s.known_at j) else s.known_at j }

-- a server that was not opened yet
abbrev pub nothing_opened : Server
nothing_opened = record {
  opened = false;
  past = [];
  order = [];
  synced = 0;
  due = None;
  holds = [];
  quits = [];
  turns = 0;
  end_at = λ _. None;
  session_at = λ _. None;
  entered_at = λ _. None;
  pair_at = λ _. record { session = None; broke = None };
  known_at = λ _. record { seen = 0; acted = false; news = []; bar = None };
}

-- the state at the beginning
abbrev pub start : Plain
start = record {
  clock = 0;
  died_at = λ _. false;
  server_at = λ _. nothing_opened;
  job_at = λ _. record { level = 0; txn = 0; rollback_only = false; quit_lines = [] };
}
