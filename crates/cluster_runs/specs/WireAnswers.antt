-- Each session that was met, each epoch that was told and each answer that a job was given has a Welcome, a Grant or an Answer of its own
-- that the application server took, with its numbers.
use Rattle.std.specs.Prelude.{pos, ◌≤◌, ℕ, Bool, true, false, ◌==◌, ◌&&◌, ◌+◌, List, Option, Some, ℤ}
use Rattle.std.specs.Ordering.{int_eq}
use Rattle.plain_orders.specs.declared.act.Act.{Act}
use Rattle.plain_orders.specs.declared.act.Act.TheVariants as act
use Rattle.plain_orders.specs.declared.layout.Layout.{Layout}
use Rattle.ecp_messages.specs.declared.up.Up.{Up}
use Rattle.ecp_messages.specs.declared.up.Up.TheVariants as up
use Rattle.ecp_messages.specs.declared.down.Down.{Down}
use Rattle.ecp_messages.specs.declared.down.Down.TheVariants as down
use Rattle.ecp_messages.specs.declared.about.About.{About}
use Rattle.ecp_messages.specs.declared.about.About.TheVariants as about
use Rattle.plain_runs.specs.Plain.{runs_on}
use Rattle.plain_runs.specs.Run.{state_after}
use Rattle.cluster_runs.specs.Written.{written_while, has_session, is_told_of, acts_of, count_of}
use Rattle.cluster_runs.specs.Sent.{Sent, Lane, Welcomed, lanes_of, downs_taken, taken_of}
use Rattle.cluster_runs.specs.Locks.{ask_with}

-- the pair met this session
abbrev pub is_met : ℕ → ℕ → ℕ → Act → Bool
is_met app server session (act.Met a d s) = a == app && d == server && s == session
is_met app server session a = false

-- the pair was told of a new epoch of this session
abbrev pub is_told : ℕ → ℕ → ℕ → Act → Bool
is_told app server session (act.Told a d s epoch kept) = a == app && d == server && s == session
is_told app server session a = false

-- and with these numbers
abbrev pub is_told_so : ℕ → ℕ → Welcomed → Act → Bool
is_told_so app server x (act.Told a d s epoch kept) = a == app && d == server && s == x.session && epoch == x.epoch && kept == x.kept
is_told_so app server x a = false

-- a Welcome of this session
abbrev pub is_welcome_to : ℕ → Welcomed → Bool
is_welcome_to session x = x.session == session

-- a Welcome with the same numbers
abbrev pub is_same_welcome : Welcomed → Welcomed → Bool
is_same_welcome x y = x.session == y.session && x.epoch == y.epoch && x.kept == y.kept

-- Each has a Welcome of its own, and no Welcome serves two of them.
pub record WelcomesServe (trail : List Act) (app server : ℕ) (taken : List Welcomed) : Type 0 where
  pub each : (session : ℕ) → count_of (is_met app server session) trail + count_of (is_told app server session) trail ≤ count_of (is_welcome_to session) taken
  pub told : (x : Welcomed) → count_of (is_told_so app server x) trail ≤ count_of (is_same_welcome x) taken

-- a job was granted a lock with this number
abbrev pub is_granted : ℕ → ℕ → ℕ → Act → Bool
is_granted job server at (act.Granted j line d n) = j == job && d == server && n == at
is_granted job server at a = false

-- an Ask of this job
abbrev pub is_ask_of : ℕ → Option Up → Bool
is_ask_of job (Some (up.Ask ticket j mode key)) = j == job
is_ask_of job m = false

-- a Grant with this number, for an Ask of the job
abbrev pub is_grant_to : List Up → ℕ → ℕ → Down → Bool
is_grant_to ups job at (down.Grant front ticket n) = n == at && is_ask_of job (ask_with ticket ups)
is_grant_to ups job at m = false

-- each has a Grant of its own that was taken in the order that the session was told of then
pub record GrantsServe (acts : List Act) (server : ℕ) (x : Lane) : Type 0 where
  pub granted : (job at : ℕ) → count_of (is_granted job server at) acts ≤ count_of (is_grant_to x.up job at) (downs_taken x)

-- both are about the same
abbrev pub is_same_about : About → About → Bool
is_same_about about.Counted about.Counted = true
is_same_about about.NotWhole about.NotWhole = true
is_same_about about.Range about.Range = true
is_same_about about.Committed about.Committed = true
is_same_about about.RolledBack about.RolledBack = true
is_same_about about.Synced about.Synced = true
is_same_about a b = false

-- an Answer to the job about this, with its place and its sum
abbrev pub is_answer : About → ℕ → ℕ → ℤ → Down → Bool
is_answer what job at sum (down.Answer front a j number n v) = is_same_about what a && j == job && n == at && int_eq v sum
is_answer what job at sum m = false

-- a job was given such an answer; only a counted one has a sum, and that of the others is 0
abbrev pub says : About → ℕ → ℕ → ℕ → ℤ → Act → Bool
says about.Counted job server at sum (act.Counted j line d n v) = j == job && d == server && n == at && int_eq v sum
says about.NotWhole job server at sum (act.NotWhole j line d n) = j == job && d == server && n == at && int_eq sum (pos 0)
says about.Range job server at sum (act.Range j line d n) = j == job && d == server && n == at && int_eq sum (pos 0)
says about.Committed job server at sum (act.Committed j line d n) = j == job && d == server && n == at && int_eq sum (pos 0)
says about.RolledBack job server at sum (act.RolledBack j line d n) = j == job && d == server && n == at && int_eq sum (pos 0)
says what job server at sum a = false

-- a job of an application server was told that all it issued is synced
abbrev pub is_reached : Layout → ℕ → ℕ → ℕ → Act → Bool
is_reached l app server at (act.Reached j line d n) = runs_on l app j && d == server && n == at
is_reached l app server at a = false

-- an Answer to a Sync, with its place
abbrev pub is_synced_at : ℕ → Down → Bool
is_synced_at at (down.Answer front a j number n v) = is_same_about about.Synced a && n == at
is_synced_at at m = false

-- each has an Answer of its own that was taken in the session
pub record AnswersServe (l : Layout) (acts : List Act) (app server : ℕ) (taken : List Down) : Type 0 where
  pub answered : (what : About) (job at : ℕ) (sum : ℤ) → count_of (says what job server at sum) acts ≤ count_of (is_answer what job at sum) taken
  pub reached : (at : ℕ) → count_of (is_reached l app server at) acts ≤ count_of (is_synced_at at) taken

-- the acts of an application server's jobs are among those written while its pair had the session
pub record JobsHaveCauses (l : Layout) (trail : List Act) (sent : Sent) : Type 0 where
  pub welcomes : (app server : ℕ) → WelcomesServe trail app server (sent.welcomes_at app server)
  pub grants : (app server session k : ℕ)
      → GrantsServe (acts_of l app (written_while l trail (is_told_of app server session k))) server (sent.lane_at server session k)
  pub answers : (app server session : ℕ)
      → AnswersServe l (acts_of l app (written_while l trail (has_session app server session))) app server
      (taken_of (lanes_of (state_after l trail) sent server session))
