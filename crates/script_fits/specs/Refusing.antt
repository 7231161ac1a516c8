-- Refusals: which a command may have, after which part of its acts, and what is answered.
use Rattle.std.specs.Prelude.{◌≡◌, ◌≢◌, ◌⊎◌, ◌<◌, is_some, ℕ, Bool, true, false, List, []}
use Rattle.std.specs.List.{list_any}
use Rattle.plain_orders.specs.declared.refused.Refused.{Refused}
use Rattle.plain_orders.specs.declared.refused.Refused.TheVariants.{NoTransaction, TooDeep, RollbackOnly, LockTimeout, Network}
use Rattle.plain_orders.specs.declared.refused.ReasonName.{ReasonName}
use Rattle.plain_orders.specs.declared.refused.ReasonName.TheVariants.{Reset, Expired, NoWay}
use Rattle.app_job.specs.declared.answer.Answer.{Answer}
use Rattle.app_job.specs.declared.answer.Answer.TheVariants.{Refused as RefusedAnswer}
use Rattle.app_job.specs.declared.command.Command.{Command}
use Rattle.app_job.specs.declared.command.Command.TheVariants.{Set, Kill, Get, Shape, Next, Incr, Lock, Unlock, Start, Commit, Rollback, Sync}
use Rattle.app_job.specs.declared.reason.Reason.{Reason}
use Rattle.app_job.specs.declared.reason.Reason.TheVariants.{Reset as ByReset, Expired as ByExpired, NoWay as ByNoWay}
use Rattle.app_job.specs.declared.refusal.Refusal.TheVariants.{Network as NetworkRefusal, RollbackOnly as RollbackOnlyRefusal, NoTransaction as NoTransactionRefusal, TooDeep as TooDeepRefusal}
use Rattle.plain_runs.specs.Plain.{Plain, issued_in}
use Rattle.plain_runs.specs.Items.{is_update_of}
use Rattle.script_fits.specs.Moments.{Moment}

-- a commit or a rollback
abbrev pub ends_transaction : Command → Bool
ends_transaction (Set at value) = false
ends_transaction (Kill at) = false
ends_transaction (Get at) = false
ends_transaction (Shape at) = false
ends_transaction (Next parent sub) = false
ends_transaction (Incr at amount) = false
ends_transaction (Lock at mode wait) = false
ends_transaction (Unlock at mode now) = false
ends_transaction Start = false
ends_transaction (Commit sync) = true
ends_transaction Rollback = true
ends_transaction (Sync server) = false

-- a rollback
abbrev pub is_rollback : Command → Bool
is_rollback (Set at value) = false
is_rollback (Kill at) = false
is_rollback (Get at) = false
is_rollback (Shape at) = false
is_rollback (Next parent sub) = false
is_rollback (Incr at amount) = false
is_rollback (Lock at mode wait) = false
is_rollback (Unlock at mode now) = false
is_rollback Start = false
is_rollback (Commit sync) = false
is_rollback Rollback = true
is_rollback (Sync server) = false

-- the job has an update of its newest transaction in some session at this data server
abbrev pub HasUpdateAt : Plain → ℕ → ℕ → Type 0
HasUpdateAt p job server = (session : ℕ) × (list_any (is_update_of job (p.job_at job).txn) (issued_in (p.server_at server) session) ≡ true)

-- a command is about this data server: it names it, or it ends a transaction with updates there
abbrev pub IsAbout : Plain → ℕ → Command → ℕ → Type 0
IsAbout p job (Set at value) server = at.server ≡ server
IsAbout p job (Kill at) server = at.server ≡ server
IsAbout p job (Get at) server = at.server ≡ server
IsAbout p job (Shape at) server = at.server ≡ server
IsAbout p job (Next parent sub) server = parent.server ≡ server
IsAbout p job (Incr at amount) server = at.server ≡ server
IsAbout p job (Lock at mode wait) server = at.server ≡ server
IsAbout p job (Unlock at mode now) server = at.server ≡ server
IsAbout p job Start server = ⊥
IsAbout p job (Commit sync) server = HasUpdateAt p job server
IsAbout p job Rollback server = HasUpdateAt p job server
IsAbout p job (Sync at) server = at ≡ server

-- a commit or a rollback that put nothing yet is within a transaction
abbrev pub IsWithinOne : Plain → ℕ → Command → List Moment → Type 0
IsWithinOne p job command part = (ends_transaction command ≡ false) ⊎ ((part ≢ []) ⊎ (0 < (p.job_at job).level))

-- the job was told of each loss that bars it from a data server that its command is about
abbrev pub HasHeard : Plain → ℕ → Command → Type 0
HasHeard p job command = (d : ℕ) → IsAbout p job command d → is_some ((p.server_at d).known_at job).bar ≡ false

-- Which refusal a command may have, after a part of its acts; they are tried in this order, the network after the first two. A lock whose time
-- is over has a row of its own.
abbrev pub RefusalMay : Plain → ℕ → Command → List Moment → Refused → Type 0
RefusalMay p job command part NoTransaction = (ends_transaction command ≡ true) × (part ≡ [])
RefusalMay p job command part TooDeep = command ≡ Start
RefusalMay p job command part RollbackOnly = (is_rollback command ≡ false) × HasHeard p job command × ((command ≡ Start) → (p.job_at job).level ≢ 255)
RefusalMay p job command part LockTimeout = ⊥
RefusalMay p job command part (Network server state reason) = IsAbout p job command server × IsWithinOne p job command part

-- the name of a reason
abbrev pub reason_name : Reason → ReasonName
reason_name (ByReset at) = Reset
reason_name (ByExpired broke now) = Expired
reason_name (ByNoWay before after) = NoWay

-- what a refusal is answered; the numbers that show its reason stand in no act
abbrev pub IsRefusal : Refused → Answer → Type 0
IsRefusal NoTransaction answer = answer ≡ RefusedAnswer NoTransactionRefusal
IsRefusal TooDeep answer = answer ≡ RefusedAnswer TooDeepRefusal
IsRefusal RollbackOnly answer = answer ≡ RefusedAnswer RollbackOnlyRefusal
IsRefusal LockTimeout answer = ⊥
IsRefusal (Network server state name) answer = (reason : Reason) × (reason_name reason ≡ name) × (answer ≡ RefusedAnswer (NetworkRefusal server state reason))
