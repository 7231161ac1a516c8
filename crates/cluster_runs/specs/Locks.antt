-- A job's lock on a name in a mode, and the acts and messages that are about it.
use Rattle.std.specs.Prelude.{ℕ, Bool, false, ◌==◌, ◌&&◌, List, Option, Some, None, nat_eq}
use Rattle.std.specs.List.{find}
use Rattle.std.specs.Cmp.Lexicographic.{pointwise}
use Rattle.plain_orders.specs.declared.mode.Mode.{Mode}
use Rattle.plain_orders.specs.declared.act.Act.{Act}
use Rattle.plain_orders.specs.declared.act.Act.TheVariants as act
use Rattle.ecp_messages.specs.declared.up.Up.{Up}
use Rattle.ecp_messages.specs.declared.up.Up.TheVariants as up
use Rattle.plain_runs.specs.Holds.{is_mode}

-- a job's lock on a name in a mode
pub record Lock : Type 0 where
  pub job : ℕ
  pub mode : Mode
  pub key : List ℕ

-- it is of this job, mode and name
abbrev pub is_lock : Lock → ℕ → Mode → List ℕ → Bool
is_lock l job mode key = l.job == job && is_mode l.mode mode && pointwise nat_eq l.key key

-- a grant of it in a session
abbrev pub is_grant : ℕ → ℕ → Lock → Act → Bool
is_grant server session l (act.Grant d s job mode key at) = d == server && s == session && is_lock l job mode key
is_grant server session l a = false

-- the end of a hold or of a request
abbrev pub is_free : ℕ → ℕ → Lock → Act → Bool
is_free server session l (act.Free d s job mode key) = d == server && s == session && is_lock l job mode key
is_free server session l a = false

-- an Ask for it
abbrev pub is_ask : Lock → Up → Bool
is_ask l (up.Ask ticket job mode key) = is_lock l job mode key
is_ask l m = false

-- an Ask with this ticket
abbrev pub has_ticket : ℕ → Up → Bool
has_ticket ticket (up.Ask t job mode key) = t == ticket
has_ticket ticket m = false

-- the Ask with a ticket
abbrev pub ask_with : ℕ → List Up → Option Up
ask_with ticket ups = find (has_ticket ticket) ups

-- the same, where there is a message
abbrev pub is_ask_if : Lock → Option Up → Bool
is_ask_if l None = false
is_ask_if l (Some m) = is_ask l m

-- an Unlock of it, or the Cancel of an Ask for it
abbrev pub is_end : Lock → List Up → Up → Bool
is_end l ups (up.Unlock job mode key) = is_lock l job mode key
is_end l ups (up.Cancel ticket) = is_ask_if l (ask_with ticket ups)
is_end l ups m = false
