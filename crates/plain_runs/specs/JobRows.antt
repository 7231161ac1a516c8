-- The rows on jobs.
use Rattle.std.specs.Prelude.{◌≡◌, ℕ, Bool, true, false, ◌==◌, ◌&&◌, ◌||◌, ◌+◌, ◌-◌, ◌<◌, ◌≤◌, max, if◌then◌else◌, List, [], ◌∷◌, ◌++◌, length, take, Option, Some, None, slice_get, is_some, not, nat_lt}
use Rattle.std.specs.List.{list_any}
use Rattle.std.specs.Option.{option_map}
use Rattle.plain_orders.specs.declared.entry.Entry.{Entry}
use Rattle.plain_orders.specs.declared.item.Item.{Item}
use Rattle.plain_orders.specs.declared.item.Item.TheVariants.{Op, Commit, Rollback}
use Rattle.plain_orders.specs.declared.via.Via.{Via}
use Rattle.plain_orders.specs.declared.via.Via.TheVariants.{Own, Cached, Fetched}
use Rattle.subscript_keys.specs.declared.sub.Sub.{Sub}
use Rattle.subscript_keys.specs.Key.{IsKey, IsWithinLimit, sub_bytes}
use Rattle.plain_orders.specs.declared.question.Question.{Question}
use Rattle.plain_orders.specs.declared.question.Question.TheVariants.{Get, Shape, Next}
use Rattle.plain_orders.specs.declared.layout.Layout.{Layout}
use Rattle.plain_orders.specs.declared.refused.Refused.{Refused}
use Rattle.plain_orders.specs.declared.refused.Refused.TheVariants.{NoTransaction, TooDeep, RollbackOnly, LockTimeout, Network}
use Rattle.plain_orders.specs.declared.refused.ReasonName.{ReasonName}
use Rattle.plain_orders.specs.declared.refused.ReasonName.TheVariants.{Reset, Expired, NoWay}
use Rattle.plain_orders.specs.declared.refused.LinkName.{LinkName}
use Rattle.plain_orders.specs.declared.refused.LinkName.TheVariants.{NotConnected, Trouble, Recovery}
use Rattle.plain_orders.specs.declared.op.Op.{Op as Operation}
use Rattle.plain_orders.specs.declared.sum.Sum.{Sum}
use Rattle.plain_orders.specs.Entries.{count, entry_at}
use Rattle.plain_orders.specs.Answers.{data_on, IsNextOn, sum_at}
use Rattle.plain_orders.specs.Own.{Issued, own, value_over, touches_own}
use Rattle.plain_orders.specs.Ordered.{KeyMay, OpMay}
use Rattle.plain_runs.specs.Plain.{Plain, Server, Known, Job, with_server, with_known, with_session, app_of, issued_in, pair_session, told_order}
use Rattle.plain_runs.specs.Items.{entry_of, all_stand, is_change, is_add, is_update_of, is_end_at, ended_from}
use Rattle.plain_orders.specs.ItemEntries.{w_of}

-- the job is there, and its application server lives
pub record JobMay (layout : Layout) (p : Plain) (job : ℕ) : Type 0 where
  pub known : job < length layout.job_apps
  pub alive : p.died_at (app_of layout job) ≡ false

-- it isn't barred from this server either
pub record JobAtMay (layout : Layout) (p : Plain) (job server : ℕ) : Type 0 where
  pub known : job < length layout.job_apps
  pub alive : p.died_at (app_of layout job) ≡ false
  pub free : is_some ((p.server_at server).known_at job).bar ≡ false

-- the pair of this application server has a session
abbrev pub has_session : Server → ℕ → Bool
has_session s app = is_some (s.pair_at app).session

-- what was issued in the pair's session
abbrev pub pair_issued : Server → ℕ → List Issued
pair_issued s app = issued_in s (pair_session s app)

-- the transaction that an item is in or ends, or 0
abbrev pub txn_of : Job → Item → ℕ
txn_of x (Op op) = if is_change (Op op) then (if x.level == 0 then 0 else x.txn) else 0
txn_of x (Commit n) = n
txn_of x (Rollback n) = n

-- a transaction that the job may end: it has an update in it, and didn't end it after the last of these
pub record EndMay (job txn : ℕ) (issued : List Issued) : Type 0 where
  pub positive : 0 < txn
  pub used : list_any (is_update_of job txn) issued ≡ true
  pub unended : ended_from job txn false issued ≡ false

-- what is asked of the item itself
abbrev pub ItemIs : ℕ → List Issued → Item → Type 0
ItemIs job issued (Op op) = OpMay 0 op
ItemIs job issued (Commit txn) = EndMay job txn issued
ItemIs job issued (Rollback txn) = EndMay job txn issued

-- an item is issued, with the next running number of the session
pub record IssueMay (s : Server) (app job w : ℕ) (item : Item) : Type 0 where
  pub there : has_session s app ≡ true
  pub unbroken : is_some (s.pair_at app).broke ≡ false
  pub next : w ≡ length (pair_issued s app) + 1
  pub its : ItemIs job (pair_issued s app) item

-- the job's own updates decide the answer
abbrev pub is_own : Via → Bool
is_own Own = true
is_own Cached = false
is_own Fetched = false

-- the job's own updates after the first n entries of the order that its pair is told of
abbrev pub own_behind : Server → ℕ → ℕ → ℕ → List Operation
own_behind s app job n = own (pair_issued s app) job (count (take n (told_order s app)) (pair_session s app))

-- a get of a node sees the first n entries and then the job's own updates
pub record GetIs (s : Server) (app job n : ℕ) (via : Via) (key : List ℕ) (value : Option (List ℕ)) : Type 0 where
  pub result : value ≡ value_over (take n (told_order s app)) (own_behind s app job n) key
  pub by : is_own via ≡ touches_own (own_behind s app job n) key
  pub node : KeyMay key

-- a shape wants that the job's own updates have entered
pub record ShapeIs (s : Server) (app job n : ℕ) (via : Via) (key : List ℕ) (code : ℕ) : Type 0 where
  pub result : code ≡ data_on (take n (told_order s app)) key
  pub by : is_own via ≡ false
  pub entered : own_behind s app job n ≡ []
  pub node : KeyMay key

-- the node after which a next looks; before the first subscript it is the parent
abbrev pub asked_key : List ℕ → Option Sub → List ℕ
asked_key parent None = parent
asked_key parent (Some sub) = parent ++ sub_bytes sub

-- so does next, and the node after which it looks is within the limit
pub record NextIs (s : Server) (app job n : ℕ) (via : Via) (parent : List ℕ) (sub found : Option Sub) : Type 0 where
  pub result : IsNextOn (take n (told_order s app)) parent sub found
  pub by : is_own via ≡ false
  pub entered : own_behind s app job n ≡ []
  pub node : IsKey (asked_key parent sub)
  pub within : IsWithinLimit (asked_key parent sub)

-- what a read is answered
abbrev pub AnswerIs : Server → ℕ → ℕ → ℕ → Via → Question → Type 0
AnswerIs s app job n via (Get key value) = GetIs s app job n via key value
AnswerIs s app job n via (Shape key code) = ShapeIs s app job n via key code
AnswerIs s app job n via (Next parent sub found) = NextIs s app job n via parent sub found

-- a read is answered on a prefix that is no shorter than what the job has seen
pub record ReadMay (s : Server) (app job n : ℕ) (via : Via) (question : Question) : Type 0 where
  pub there : has_session s app ≡ true
  pub no_less : (s.known_at job).seen ≤ n
  pub within : n ≤ length (told_order s app)
  pub answer : AnswerIs s app job n via question

-- the running number of the entry at a position of the order that the pair is told of
abbrev pub w_at : Option Entry → ℕ
w_at None = 0
w_at (Some e) = w_of e

-- the item that was issued with that number
abbrev pub item_at : Server → ℕ → ℕ → Option Issued
item_at s app at = slice_get (pair_issued s app) (w_at (entry_at (told_order s app) at) - 1)

-- it is of this job, line and kind
abbrev pub is_answered_item : ℕ → ℕ → (Item → Bool) → Option Issued → Bool
is_answered_item job line kind None = false
is_answered_item job line kind (Some i) = i.job == job && i.line == line && kind i.item

-- the entry that it became
abbrev pub answered_entry : Server → ℕ → ℕ → Option Entry
answered_entry s app at = option_map (entry_of (pair_session s app) (w_at (entry_at (told_order s app) at))) (item_at s app at)

-- what was issued at the job's line stands at this position, in the order that the pair is told of and in the current one
pub record AnswerMay (s : Server) (app job line at : ℕ) (kind : Item → Bool) : Type 0 where
  pub there : has_session s app ≡ true
  pub synced : at ≤ s.synced
  pub its : is_answered_item job line kind (item_at s app at) ≡ true
  pub in_told : entry_at (told_order s app) at ≡ answered_entry s app at
  pub in_order : entry_at s.order at ≡ answered_entry s app at

-- an increment of the job's line stands there and does this
pub record SumMay (s : Server) (app job line at : ℕ) (sum : Sum) : Type 0 where
  pub stands : AnswerMay s app job line at is_add
  pub is_sum : sum_at s.order at ≡ sum

-- all that the job issued in the session is among the first entries, which are no more than the pair is told of
pub record ReachedMay (s : Server) (app job at : ℕ) : Type 0 where
  pub there : has_session s app ≡ true
  pub synced : at ≤ s.synced
  pub within : at ≤ length (told_order s app)
  pub in_told : all_stand (take at (told_order s app)) (pair_session s app) job 0 (pair_issued s app) ≡ true
  pub in_order : all_stand (take at s.order) (pair_session s app) job 0 (pair_issued s app) ≡ true

-- one more, one less, or 0
abbrev pub is_near : ℕ → ℕ → Bool
is_near old level = (level == old + 1 || level + 1 == old) || level == 0

-- where the session has updates of the job's open transaction, a Commit or Rollback of the job was issued in it at this line
abbrev pub is_ended : Server → ℕ → ℕ → Job → ℕ → Bool
is_ended s app job x line =
    (not (has_session s app) || not (nat_lt 0 x.level && list_any (is_update_of job x.txn) (pair_issued s app)))
    || list_any (is_end_at job line) (pair_issued s app)

-- a level comes after its neighbour; 0 comes once each living session with updates of the open transaction has such an end
pub record LevelMay (p : Plain) (app job line level : ℕ) : Type 0 where
  pub near : is_near (p.job_at job).level level ≡ true
  pub ended : level ≡ 0 → (d : ℕ) → is_ended (p.server_at d) app job (p.job_at job) line ≡ true

-- the reasons are the same
abbrev pub is_reason : ReasonName → ReasonName → Bool
is_reason Reset Reset = true
is_reason Reset Expired = false
is_reason Reset NoWay = false
is_reason Expired Reset = false
is_reason Expired Expired = true
is_reason Expired NoWay = false
is_reason NoWay Reset = false
is_reason NoWay Expired = false
is_reason NoWay NoWay = true

-- no bar, or this one
abbrev pub fits_bar : ReasonName → Option ReasonName → Bool
fits_bar reason None = true
fits_bar reason (Some bar) = is_reason reason bar

-- the state of the connection that goes with a loss
abbrev pub state_of_loss : ReasonName → LinkName
state_of_loss Reset = Recovery
state_of_loss Expired = Trouble
state_of_loss NoWay = NotConnected

-- a loss that the job isn't told of, its bar if it has one
pub record NetworkMay (k : Known) (state : LinkName) (reason : ReasonName) : Type 0 where
  pub news : list_any (is_reason reason) k.news ≡ true
  pub bar : fits_bar reason k.bar ≡ true
  pub its_state : state ≡ state_of_loss reason

-- a refusal that no other act shows, by its kind
abbrev pub RefusedMay : Plain → ℕ → ℕ → Refused → Type 0
RefusedMay p job line NoTransaction = (p.job_at job).level ≡ 0
RefusedMay p job line TooDeep = (p.job_at job).level ≡ 255
RefusedMay p job line RollbackOnly = (p.job_at job).rollback_only ≡ true
RefusedMay p job line LockTimeout = list_any (λ l. l == line) (p.job_at job).quit_lines ≡ true
RefusedMay p job line (Network server state reason) = NetworkMay ((p.server_at server).known_at job) state reason

-- what they change

-- an act of a job that names a server: the job acted there, and heard of no loss that it should be told
abbrev pub acts : Known → Known
acts k = record k { acted = true; news = [] }

-- the job had an act at this server
abbrev pub acted : Server → ℕ → Server
acted s job = with_known s job (acts (s.known_at job))

-- the same, and the job has seen just this prefix
abbrev pub sees : Server → ℕ → ℕ → Server
sees s job n = with_known s job (record (acts (s.known_at job)) { seen = n })

-- the same, and the job has seen at least this prefix
abbrev pub sees_up : Server → ℕ → ℕ → Server
sees_up s job n = with_known s job (record (acts (s.known_at job)) { seen = max (s.known_at job).seen n })

-- the item joins what was issued in the pair's session
abbrev pub issues : Server → ℕ → Issued → Server
issues s app i = acted (with_session s (pair_session s app) (λ m. record m { issued = m.issued ++ i ∷ [] })) i.job

-- from 0 to 1 a new transaction begins; at 0 nothing has to be rolled back any more
abbrev pub levelled : Job → ℕ → Job
levelled x level =
    record x {
      level = level;
      txn = if x.level == 0 && level == 1 then x.txn + 1 else x.txn;
      rollback_only = if level == 0 then false else x.rollback_only;
    }

-- the job is told of its losses
abbrev pub told_loss : Server → ℕ → Server
told_loss s job = with_known s job (record (s.known_at job) { news = []; bar = None })

-- what a refusal changes: a job that is told of a loss has no news and no bar
abbrev pub refused : Plain → ℕ → Refused → Plain
refused p job NoTransaction = p
refused p job TooDeep = p
refused p job RollbackOnly = p
refused p job LockTimeout = p
refused p job (Network server state reason) = with_server p server (told_loss (p.server_at server) job)
