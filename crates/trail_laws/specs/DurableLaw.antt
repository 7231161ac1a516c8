-- What is synced stays, and what was answered.
use Rattle.std.specs.Prelude.{◌≡◌, ℕ, Bool, true, false, ◌==◌, ◌&&◌, ◌≤◌, List, [], ◌∷◌, ◌++◌, Option, Some, None, IsSomeAnd, pos}
use Rattle.plain_orders.specs.declared.entry.Entry.{Entry}
use Rattle.plain_orders.specs.declared.entry.Entry.TheVariants.{Epoch, Opened as OpenEntry, Closed, Update, Commit, Rollback}
use Rattle.plain_orders.specs.declared.act.Act.{Act}
use Rattle.plain_orders.specs.declared.act.Act.TheVariants.{Opened, Enter, Synced, Shut, Release, Met, Told, Back, Crash, Issue, Read, Grant, Granted, GiveUp, Quit, Free, Counted, NotWhole, Range, Committed, RolledBack, Reached, Level, Done, Refused, Broke, Mended, Tick, Lose, Died}
use Rattle.plain_orders.specs.declared.layout.Layout.{Layout}
use Rattle.plain_orders.specs.Entries.{entry_at}
use Rattle.plain_runs.specs.Plain.{current, order_at}
use Rattle.plain_runs.specs.Items.{is_add_op}
use Rattle.plain_runs.specs.Run.{IsRun}
use Rattle.plain_runs.specs.Laws.{server_after}
use Rattle.trail_laws.specs.ExampleTrails.{added, two_jobs}

-- An entry at a position that is synced stands there in every order from then on.
abbrev pub EntriesStay : Type 0
EntriesStay =
    (layout : Layout) (before later : List Act) (d k at : ℕ) → IsRun layout (before ++ later)
    → at ≤ (server_after layout before d).synced → current (server_after layout before d) ≤ k → k ≤ current (server_after layout (before ++ later) d)
    → entry_at (order_at (server_after layout (before ++ later) d) k) at ≡ entry_at (server_after layout before d).order at

-- an increment of the job
abbrev pub is_add_of : ℕ → Entry → Bool
is_add_of j (Epoch number) = false
is_add_of j (OpenEntry session app) = false
is_add_of j (Closed session) = false
is_add_of j (Update session w job txn op) = job == j && is_add_op op
is_add_of j (Commit session w job txn) = false
is_add_of j (Rollback session w job txn) = false

-- a Commit of the job
abbrev pub is_commit_of : ℕ → Entry → Bool
is_commit_of j (Epoch number) = false
is_commit_of j (OpenEntry session app) = false
is_commit_of j (Closed session) = false
is_commit_of j (Update session w job txn op) = false
is_commit_of j (Commit session w job txn) = job == j
is_commit_of j (Rollback session w job txn) = false

-- a Rollback of the job
abbrev pub is_rollback_of : ℕ → Entry → Bool
is_rollback_of j (Epoch number) = false
is_rollback_of j (OpenEntry session app) = false
is_rollback_of j (Closed session) = false
is_rollback_of j (Update session w job txn op) = false
is_rollback_of j (Commit session w job txn) = false
is_rollback_of j (Rollback session w job txn) = job == j

-- an answer: whose it is, where its entry stands, and which entries it may be of
pub record Answer : Type 0 where
  pub job : ℕ
  pub server : ℕ
  pub at : ℕ
  pub its : Entry → Bool

-- the answer to an increment, a Commit or a Rollback that an act shows, if it shows one
abbrev pub answer_of : Act → Option Answer
answer_of (Opened d entries) = None
answer_of (Enter d entry) = None
answer_of (Synced d n) = None
answer_of (Shut d session cause) = None
answer_of (Release d session) = None
answer_of (Met app d session) = None
answer_of (Told app d session epoch kept) = None
answer_of (Back d) = None
answer_of (Crash d kept) = None
answer_of (Issue job line d w item) = None
answer_of (Read job line d at via question) = None
answer_of (Grant d session job mode key at) = None
answer_of (Granted job line d at) = None
answer_of (GiveUp job line d mode key) = None
answer_of (Quit job line d mode key) = None
answer_of (Free d session job mode key) = None
answer_of (Counted job line d at sum) = Some (record { job = job; server = d; at = at; its = is_add_of job })
answer_of (NotWhole job line d at) = Some (record { job = job; server = d; at = at; its = is_add_of job })
answer_of (Range job line d at) = Some (record { job = job; server = d; at = at; its = is_add_of job })
answer_of (Committed job line d at) = Some (record { job = job; server = d; at = at; its = is_commit_of job })
answer_of (RolledBack job line d at) = Some (record { job = job; server = d; at = at; its = is_rollback_of job })
answer_of (Reached job line d at) = None
answer_of (Level job line level) = None
answer_of (Done job line) = None
answer_of (Refused job line refusal) = None
answer_of (Broke app d end time) = None
answer_of (Mended app d) = None
answer_of (Tick time) = None
answer_of (Lose app d loss) = None
answer_of (Died app) = None

-- What was answered, an increment, a Commit or a Rollback of the job, stands at its position in every order from then on.
abbrev pub AnswersStay : Type 0
AnswersStay =
    (layout : Layout) (before later : List Act) (a : Act) (answer : Answer) (k : ℕ) → IsRun layout (before ++ a ∷ later) → answer_of a ≡ Some answer
    → current (server_after layout before answer.server) ≤ k → k ≤ current (server_after layout (before ++ a ∷ later) answer.server)
    → (entry_at (order_at (server_after layout (before ++ a ∷ later) answer.server) k) answer.at ≡ entry_at (server_after layout before answer.server).order answer.at)
    × IsSomeAnd (entry_at (server_after layout before answer.server).order answer.at) (λ e. answer.its e ≡ true)

-- An increment is answered and a later order begins.
abbrev pub DurableExample : Type 0
DurableExample = IsRun two_jobs (added ++ Counted 0 5 0 3 (pos 1) ∷ Crash 0 4 ∷ []) × (current (server_after two_jobs (added ++ Counted 0 5 0 3 (pos 1) ∷ Crash 0 4 ∷ []) 0) ≡ 1)
