-- Conditions that never fail alone: where one fails, another one of the act fails too, after every run.
use Rattle.std.specs.Prelude.{◌≡◌, ◌≢◌, ◌⊎◌, ℕ, Bool, true, false, ◌≤◌, ◌<◌, List, length, take, Some, None, is_some}
use Rattle.std.specs.List.{list_any}
use Rattle.plain_orders.specs.declared.act.Act.{Act}
use Rattle.plain_orders.specs.declared.entry.Entry.{Entry}
use Rattle.plain_orders.specs.declared.entry.Entry.TheVariants.{Opened, Closed}
use Rattle.plain_orders.specs.declared.item.Item.{Item}
use Rattle.plain_orders.specs.declared.layout.Layout.{Layout}
use Rattle.plain_orders.specs.declared.mode.Mode.{Mode}
use Rattle.plain_orders.specs.declared.refused.Refused.{Refused}
use Rattle.plain_orders.specs.declared.refused.Refused.TheVariants.{NoTransaction}
use Rattle.plain_orders.specs.declared.sum.Sum.{Sum}
use Rattle.plain_orders.specs.declared.sum.Sum.TheVariants.{Nothing}
use Rattle.plain_orders.specs.Answers.{sum_at}
use Rattle.plain_orders.specs.Entries.{entry_at, last_epoch, live}
use Rattle.plain_orders.specs.Fold.{fold, is_begun}
use Rattle.plain_orders.specs.Ordered.{IsOrdered}
use Rattle.plain_runs.specs.Plain.{Server, app_of, order_at, pair_session, session_in, told_order}
use Rattle.plain_runs.specs.Items.{all_stand, is_add, is_update_of}
use Rattle.plain_runs.specs.EndRows.{begun_by, entered_in}
use Rattle.plain_runs.specs.JobRows.{RefusedMay, answered_entry, has_session, is_answered_item, item_at, pair_issued}
use Rattle.plain_runs.specs.Run.{IsRun, state_after}
use Rattle.plain_runs.specs.Laws.{server_after}
use Rattle.plain_orders.specs.Sessions.{place_of_epoch}
use Rattle.plain_runs.specs.Holds.{is_kept, is_sent_at}

-- in its pair's session no answered hold of the job that could be given up, no item of it at a place of the told order,
-- and no update of it
pub record NothingDone (s : Server) (app job : ℕ) : Type 0 where
  pub kept : (mode : Mode) (key : List ℕ) → list_any (is_kept (pair_session s app) job mode key) s.holds ≡ false
  pub item : (line at : ℕ) (kind : Item → Bool) → is_answered_item job line kind (item_at s app at) ≡ false
  pub used : (txn : ℕ) → list_any (is_update_of job txn) (pair_issued s app) ≡ false

-- none of these for any job, no sent hold, and no Close by which the session could be lost
pub record NothingThere (s : Server) (app : ℕ) : Type 0 where
  pub done : (job : ℕ) → NothingDone s app job
  pub sent : (job at : ℕ) → list_any (is_sent_at (pair_session s app) job at) s.holds ≡ false
  pub close : (at : ℕ) → entry_at s.order at ≢ Some (Closed (pair_session s app))

-- Where a pair has no session, none of these is there.
abbrev pub NoneWithoutSession : Type 0
NoneWithoutSession =
    (layout : Layout) (acts : List Act) (d app : ℕ) → IsRun layout acts → has_session (server_after layout acts d) app ≡ false
    → NothingThere (server_after layout acts d) app

-- A job that isn't there did nothing of this; its pair is that of application server 0.
abbrev pub StrangersDidNothing : Type 0
StrangersDidNothing =
    (layout : Layout) (acts : List Act) (d job : ℕ) → IsRun layout acts → length layout.job_apps ≤ job
    → NothingDone (server_after layout acts d) (app_of layout job) job

-- A job that isn't there is refused nothing, but that it has no transaction.
abbrev pub StrangersAreToldNothing : Type 0
StrangersAreToldNothing =
    (layout : Layout) (acts : List Act) (job line : ℕ) (refusal : Refused) → IsRun layout acts → length layout.job_apps ≤ job
    → RefusedMay (state_after layout acts) job line refusal → refusal ≡ NoTransaction

-- Nor did a job that is barred.
abbrev pub BarredDidNothing : Type 0
BarredDidNothing =
    (layout : Layout) (acts : List Act) (d job : ℕ) → IsRun layout acts → job < length layout.job_apps
    → is_some ((server_after layout acts d).known_at job).bar ≡ true → NothingDone (server_after layout acts d) (app_of layout job) job

-- What adds up at a position of the order is an increment: where an item stands there, it is one.
abbrev pub OnlyAddsSum : Type 0
OnlyAddsSum =
    (s : Server) (app job line at : ℕ) (sum : Sum) → sum ≢ Nothing → sum_at s.order at ≡ sum → entry_at s.order at ≡ answered_entry s app at
    → is_answered_item job line (λ i. true) (item_at s app at) ≡ true → is_answered_item job line is_add (item_at s app at) ≡ true

-- all that a job issued in its pair's session stands in a list
abbrev pub StandsIn : Server → ℕ → ℕ → List Entry → Type 0
StandsIn s app job es = all_stand es (pair_session s app) job 0 (pair_issued s app) ≡ true

-- An answer's item that stands in the order stands there in the order that its session is told of.
abbrev pub AnsweredIsTold : Type 0
AnsweredIsTold =
    (layout : Layout) (acts : List Act) (d app job line at : ℕ) (kind : Item → Bool) → IsRun layout acts
    → is_answered_item job line kind (item_at (server_after layout acts d) app at) ≡ true
    → entry_at (server_after layout acts d).order at ≡ answered_entry (server_after layout acts d) app at
    → entry_at (told_order (server_after layout acts d) app) at ≡ answered_entry (server_after layout acts d) app at

-- If all that a job issued in its pair's session stands among the first entries of the order, it stands among the first of the told one.
abbrev pub AllInOrderAreTold : Type 0
AllInOrderAreTold =
    (layout : Layout) (acts : List Act) (d app job at : ℕ) → IsRun layout acts → has_session (server_after layout acts d) app ≡ true
    → StandsIn (server_after layout acts d) app job (take at (server_after layout acts d).order)
    → StandsIn (server_after layout acts d) app job (take at (told_order (server_after layout acts d) app))

-- Where the last order that an Epoch began, or order 0, isn't later than the one that a pair's session is told of,
-- it has no Epoch above that one's last.
abbrev pub NoLaterEpoch : Type 0
NoLaterEpoch =
    (layout : Layout) (acts : List Act) (d app session epoch : ℕ) → IsRun layout acts → ((server_after layout acts d).pair_at app).session ≡ Some session
    → begun_by (server_after layout acts d) epoch ≤ (session_in (server_after layout acts d) session).told
    → place_of_epoch (last_epoch (order_at (server_after layout acts d) (session_in (server_after layout acts d) session).told)) 0
    (order_at (server_after layout acts d) (begun_by (server_after layout acts d) epoch)) ≡ None

-- Where the Open of a session that was met stands in the order, its pair has a session, or lost one since the Open.
abbrev pub MetOnce : Type 0
MetOnce =
    (layout : Layout) (acts : List Act) (d app session : ℕ) → IsRun layout acts → is_some ((server_after layout acts d).session_at session) ≡ true
    → entry_at (server_after layout acts d).order session ≡ Some (Opened session app)
    → (has_session (server_after layout acts d) app ≡ true) ⊎ ((entered_in (server_after layout acts d) session).lost_since ≡ true)

-- In an ordered list the session of an open transaction is live.
abbrev pub OpenIsLive : Type 0
OpenIsLive = (before : List Entry) (session job txn : ℕ) → IsOrdered before → is_begun session job txn (fold before).begun ≡ true → live before session ≡ true
