-- Laws over every run of the plain machine.
use Rattle.std.specs.Prelude.{◌≡◌, ◌≢◌, ℕ, zero, suc, Bool, true, false, ◌+◌, ◌<◌, ◌≤◌, List, [], ◌∷◌, ◌++◌, length, take, Option, Some, None, slice_get, is_some, ◌⊎◌, IsSomeAnd, ◌-◌}
use Rattle.plain_orders.specs.declared.act.Act.{Act}
use Rattle.plain_orders.specs.declared.act.Act.TheVariants.{Opened, Enter, Synced, Shut, Release, Met, Told, Back, Crash, Issue, Read, Grant, Granted, GiveUp, Quit, Free, Counted, NotWhole, Range, Committed, RolledBack, Reached, Level, Done, Refused, Broke, Mended, Tick, Lose, Died}
use Rattle.plain_orders.specs.declared.refused.Refused.{Refused as Refusal}
use Rattle.plain_orders.specs.declared.refused.Refused.TheVariants.{NoTransaction, TooDeep, RollbackOnly, LockTimeout, Network}
use Rattle.plain_orders.specs.declared.layout.Layout.{Layout}
use Rattle.plain_orders.specs.declared.entry.Entry.{Entry}
use Rattle.plain_orders.specs.declared.entry.Entry.TheVariants.{Epoch}
use Rattle.plain_orders.specs.Entries.{closed_by, last_epoch}
use Rattle.plain_orders.specs.Conflict.{is_conflict}
use Rattle.plain_orders.specs.Ordered.{IsOrdered}
use Rattle.plain_runs.specs.Plain.{Plain, Server, Hold, Given, current, order_at, issued_in, app_of, told_order}
use Rattle.plain_runs.specs.Items.{all_stand, entry_of}
use Rattle.plain_orders.specs.Own.{Issued}
use Rattle.std.specs.Option.{option_map}
use Rattle.plain_runs.specs.JobRows.{has_session}
use Rattle.plain_runs.specs.Step.{MayCome, after}
use Rattle.plain_runs.specs.Run.{IsRun, state_after}
use Rattle.plain_orders.specs.ItemEntries.{numbers, w_of, is_item_of}
use Rattle.plain_runs.specs.Holds.{binds, touched}

-- A run goes on with an act that may come, and then the state is what the act makes of it.
abbrev pub Extended : Type 0
Extended =
    (layout : Layout) (acts : List Act) (a : Act) → IsRun layout acts → MayCome layout (state_after layout acts) a
    → IsRun layout (acts ++ a ∷ []) × (state_after layout (acts ++ a ∷ []) ≡ after layout (state_after layout acts) a)

-- the data server that a refusal names
abbrev pub refusal_server : Refusal → Option ℕ
refusal_server NoTransaction = None
refusal_server TooDeep = None
refusal_server RollbackOnly = None
refusal_server LockTimeout = None
refusal_server (Network server state reason) = Some server

-- the data server that an act names
abbrev pub act_server : Act → Option ℕ
act_server (Opened d entries) = Some d
act_server (Enter d entry) = Some d
act_server (Synced d n) = Some d
act_server (Shut d session cause) = Some d
act_server (Release d session) = Some d
act_server (Met app d session) = Some d
act_server (Told app d session epoch kept) = Some d
act_server (Back d) = Some d
act_server (Crash d kept) = Some d
act_server (Issue job line d w item) = Some d
act_server (Read job line d at via question) = Some d
act_server (Grant d session job mode key at) = Some d
act_server (Granted job line d at) = Some d
act_server (GiveUp job line d mode key) = Some d
act_server (Quit job line d mode key) = Some d
act_server (Free d session job mode key) = Some d
act_server (Counted job line d at sum) = Some d
act_server (NotWhole job line d at) = Some d
act_server (Range job line d at) = Some d
act_server (Committed job line d at) = Some d
act_server (RolledBack job line d at) = Some d
act_server (Reached job line d at) = Some d
act_server (Level job line level) = None
act_server (Done job line) = None
act_server (Refused job line refusal) = refusal_server refusal
act_server (Broke app d end time) = Some d
act_server (Mended app d) = Some d
act_server (Tick time) = None
act_server (Lose app d loss) = Some d
act_server (Died app) = None

-- An act leaves each server that it doesn't name.
abbrev pub Framed : Type 0
Framed = (layout : Layout) (p : Plain) (a : Act) (d : ℕ) → act_server a ≢ Some d → (after layout p a).server_at d ≡ p.server_at d

-- an act by which what a job has seen may fall
abbrev pub may_fall : Act → Bool
may_fall (Opened d entries) = false
may_fall (Enter d entry) = false
may_fall (Synced d n) = false
may_fall (Shut d session cause) = false
may_fall (Release d session) = false
may_fall (Met app d session) = true
may_fall (Told app d session epoch kept) = true
may_fall (Back d) = false
may_fall (Crash d kept) = false
may_fall (Issue job line d w item) = false
may_fall (Read job line d at via question) = false
may_fall (Grant d session job mode key at) = false
may_fall (Granted job line d at) = false
may_fall (GiveUp job line d mode key) = false
may_fall (Quit job line d mode key) = false
may_fall (Free d session job mode key) = false
may_fall (Counted job line d at sum) = false
may_fall (NotWhole job line d at) = false
may_fall (Range job line d at) = false
may_fall (Committed job line d at) = false
may_fall (RolledBack job line d at) = false
may_fall (Reached job line d at) = false
may_fall (Level job line level) = false
may_fall (Done job line) = false
may_fall (Refused job line refusal) = false
may_fall (Broke app d end time) = false
may_fall (Mended app d) = false
may_fall (Tick time) = false
may_fall (Lose app d loss) = false
may_fall (Died app) = false

-- What a job has seen of a server falls only by a `told` or a `met`.
abbrev pub SeenNeverFalls : Type 0
SeenNeverFalls =
    (layout : Layout) (p : Plain) (a : Act) (d j : ℕ) → MayCome layout p a → may_fall a ≡ false
    → ((p.server_at d).known_at j).seen ≤ (((after layout p a).server_at d).known_at j).seen

-- a server after a trail
abbrev pub server_after : Layout → List Act → ℕ → Server
server_after layout acts d = (state_after layout acts).server_at d

-- a later order: the first entries of the one before, the next Epoch, and more
pub record IsNextOrder (es fs : List Entry) : Type 0 where
  pub kept : ℕ
  pub more : List Entry
  pub within : kept ≤ length es
  pub later : fs ≡ take kept es ++ Epoch (last_epoch (take kept es) + 1) ∷ more

-- Each order but the first keeps a front of the one before, and goes on with the next Epoch.
abbrev pub NeighboursAgree : Type 0
NeighboursAgree =
    (layout : Layout) (acts : List Act) (d k : ℕ) → IsRun layout acts → k < current (server_after layout acts d)
    → IsNextOrder (order_at (server_after layout acts d) k) (order_at (server_after layout acts d) (k + 1))

-- Each order is an ordered list.
abbrev pub EachIsOrdered : Type 0
EachIsOrdered = (layout : Layout) (acts : List Act) (d k : ℕ) → IsRun layout acts → IsOrdered (order_at (server_after layout acts d) k)

-- What was synced stands at its position in each order from then on.
abbrev pub SyncedStays : Type 0
SyncedStays =
    (layout : Layout) (before later : List Act) (d k : ℕ) → IsRun layout (before ++ later)
    → current (server_after layout before d) ≤ k → k ≤ current (server_after layout (before ++ later) d)
    → take (server_after layout before d).synced (order_at (server_after layout (before ++ later) d) k)
    ≡ take (server_after layout before d).synced (server_after layout before d).order

-- the n numbers after k, from k + 1
abbrev pub count_up : ℕ → ℕ → List ℕ
count_up k zero = []
count_up k (suc n) = (k + 1) ∷ count_up (k + 1) n

-- In each order the items of a session stand in the order of their running numbers, from 1, each once.
abbrev pub ItemsInOrder : Type 0
ItemsInOrder =
    (layout : Layout) (acts : List Act) (d k session : ℕ) → IsRun layout acts
    → numbers (order_at (server_after layout acts d) k) session ≡ count_up 0 (length (numbers (order_at (server_after layout acts d) k) session))

-- the hold at a place of the list; a hold keeps its place
abbrev pub IsHold : Server → ℕ → Hold → Type 0
IsHold s i h = slice_get s.holds i ≡ Some h

-- No two holds that bind, of different holders, conflict.
abbrev pub NoConflict : Type 0
NoConflict =
    (layout : Layout) (acts : List Act) (d i j : ℕ) (h k : Hold) → IsRun layout acts
    → IsHold (server_after layout acts d) i h → IsHold (server_after layout acts d) j k → i ≢ j
    → binds h ≡ true → binds k ≡ true → ((h.session ≡ k.session) × (h.job ≡ k.job) → ⊥)
    → is_conflict h.mode h.key k.mode k.key ≡ false

-- A Close of the hold's session stands in the order, or it was given up and all that its job issued in its session before stands there.
abbrev pub IsHandedOver : Server → Hold → Type 0
IsHandedOver s h =
    (closed_by s.order h.session (length s.order) ≡ true)
    ⊎ IsSomeAnd h.given (λ (g : Given). all_stand s.order h.session h.job 0 (take g.before (issued_in s h.session)) ≡ true)

-- While no round is due, each hold that was answered or given up, and is gone or no longer in force, is handed over.
abbrev pub Settled : Type 0
Settled =
    (layout : Layout) (acts : List Act) (d i : ℕ) (h : Hold) → IsRun layout acts → IsHold (server_after layout acts d) i h
    → (server_after layout acts d).due ≡ None → touched h ≡ true → binds h ≡ false
    → IsHandedOver (server_after layout acts d) h

-- an entry is the item that was issued in the session with its number
abbrev pub StandsAsIssued : List Issued → ℕ → Entry → Type 0
StandsAsIssued issued n e = option_map (entry_of n (w_of e)) (slice_get issued (w_of e - 1)) ≡ Some e

-- Each item of a session that was met stands in the order as it was issued with its number.
abbrev pub ItemsWereIssued : Type 0
ItemsWereIssued =
    (layout : Layout) (acts : List Act) (d i n : ℕ) (e : Entry) → IsRun layout acts → is_some ((server_after layout acts d).session_at n) ≡ true
    → slice_get (server_after layout acts d).order i ≡ Some e → is_item_of n e ≡ true → StandsAsIssued (issued_in (server_after layout acts d) n) n e

-- What a job has seen is within the order that its pair's session is told of.
abbrev pub SeenIsTold : Type 0
SeenIsTold =
    (layout : Layout) (acts : List Act) (d j : ℕ) → IsRun layout acts → j < length layout.job_apps
    → has_session (server_after layout acts d) (app_of layout j) ≡ true
    → ((server_after layout acts d).known_at j).seen ≤ length (told_order (server_after layout acts d) (app_of layout j))
