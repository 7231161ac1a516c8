-- Each grant, each end of a lock or request, each Open and each Close by a Hello has a message of its own that the data server took.
use Rattle.std.specs.Prelude.{◌≡◌, ◌≤◌, ℕ, Bool, true, false, ◌==◌, ◌&&◌, List, Option, Some, None}
use Rattle.std.specs.List.{list_any}
use Rattle.plain_orders.specs.declared.entry.Entry.{Entry}
use Rattle.plain_orders.specs.declared.entry.Entry.TheVariants as entries
use Rattle.plain_orders.specs.declared.act.Act.{Act}
use Rattle.plain_orders.specs.declared.act.Act.TheVariants as act
use Rattle.plain_orders.specs.declared.causes.ShutCause.{ShutCause}
use Rattle.plain_orders.specs.declared.causes.ShutCause.TheVariants as shuts
use Rattle.plain_orders.specs.declared.layout.Layout.{Layout}
use Rattle.plain_orders.specs.Sessions.{app_in}
use Rattle.ecp_messages.specs.declared.up.Up.{Up}
use Rattle.ecp_messages.specs.declared.up.Up.TheVariants as up
use Rattle.plain_runs.specs.Plain.{order_at}
use Rattle.plain_runs.specs.Run.{state_after}
use Rattle.cluster_runs.specs.Written.{written_while, has_order, count_of}
use Rattle.cluster_runs.specs.Sent.{Sent, Lane, ups_taken}
use Rattle.cluster_runs.specs.Locks.{Lock, is_grant, is_free, is_ask, is_end}

-- the acts that were written while the data server had its k-th order
abbrev pub acts_in : Layout → List Act → ℕ → ℕ → List Act
acts_in l trail server k = written_while l trail (has_order server k)

-- each grant has an Ask of its own that was taken in that order, and each end of a hold or request an Unlock or Cancel of its own
pub record LocksHaveCauses (acts : List Act) (server session : ℕ) (x : Lane) : Type 0 where
  pub grants : (lock : Lock) → count_of (is_grant server session lock) acts ≤ count_of (is_ask lock) (ups_taken x)
  pub frees : (lock : Lock) → count_of (is_free server session lock) acts ≤ count_of (is_end lock x.up) (ups_taken x)

-- an Open of an application server
abbrev pub is_open_of : ℕ → Entry → Bool
is_open_of app (entries.Opened session a) = a == app
is_open_of app e = false

-- it enters
abbrev pub is_enter_open : ℕ → ℕ → Act → Bool
is_enter_open server app (act.Enter d e) = d == server && is_open_of app e
is_enter_open server app a = false

-- a Hello is the cause
abbrev pub is_replaced : ShutCause → Bool
is_replaced (shuts.Trouble time) = false
is_replaced shuts.Replaced = true
is_replaced (shuts.Round time) = false

-- it is this application server
abbrev pub is_app : ℕ → Option ℕ → Bool
is_app app None = false
is_app app (Some a) = a == app

-- a session of an application server is closed by a Hello
abbrev pub is_shut_replaced : ℕ → ℕ → List Entry → Act → Bool
is_shut_replaced server app order (act.Shut d session cause) = d == server && is_replaced cause && is_app app (app_in order session)
is_shut_replaced server app order a = false

-- each has a Hello of its own that was taken in that order, and one Hello serves at most one of each
pub record HellosServe (acts : List Act) (order : List Entry) (server app hellos : ℕ) : Type 0 where
  pub opens : count_of (is_enter_open server app) acts ≤ hellos
  pub shuts : count_of (is_shut_replaced server app order) acts ≤ hellos

-- the round is the cause
abbrev pub is_round : ShutCause → Bool
is_round (shuts.Trouble time) = false
is_round shuts.Replaced = false
is_round (shuts.Round time) = true

-- the round closes a session
abbrev pub is_shut_round : ℕ → ℕ → Act → Bool
is_shut_round server session (act.Shut d s cause) = d == server && s == session && is_round cause
is_shut_round server session a = false

-- a Done
abbrev pub is_done : Up → Bool
is_done up.Done = true
is_done m = false

-- where the round closed a session, no Done of it was taken in that order
pub record NoneWasDone (acts : List Act) (server session : ℕ) (x : Lane) : Type 0 where
  pub undone : list_any (is_shut_round server session) acts ≡ true → list_any is_done (ups_taken x) ≡ false

-- What a data server wrote has its causes, in each order.
pub record ServersHaveCauses (l : Layout) (trail : List Act) (sent : Sent) : Type 0 where
  pub locks : (server session k : ℕ) → LocksHaveCauses (acts_in l trail server k) server session (sent.lane_at server session k)
  pub hellos : (server k app : ℕ)
      → HellosServe (acts_in l trail server k) (order_at ((state_after l trail).server_at server) k) server app (sent.hellos_at server k app)
  pub undone : (server session k : ℕ) → NoneWasDone (acts_in l trail server k) server session (sent.lane_at server session k)
