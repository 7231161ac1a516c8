-- Connections of an application server break, and sessions are lost.
use Rattle.std.specs.Prelude.{ℕ, Bool, true, false, ◌+◌, List, [], ◌∷◌, ◌++◌, None, nat_le}
use Rattle.plain_orders.specs.declared.act.Act.TheVariants.{Broke, Lose, Mended}
use Rattle.plain_orders.specs.declared.causes.PairEnd.TheVariants as ends
use Rattle.plain_orders.specs.declared.causes.Loss.TheVariants as losses
use Rattle.plain_orders.specs.declared.refused.LinkName.{LinkName}
use Rattle.plain_orders.specs.declared.refused.LinkName.TheVariants as names
use Rattle.link_states.specs.declared.app_link.AppLink.{AppLink}
use Rattle.link_states.specs.declared.app_link.AppLink.TheVariants.{NotConnected, Normal, Trouble, Recovery}
use Rattle.link_states.specs.declared.link_event.LinkEvent.TheVariants.{Ended, Connected as ConnectedEvent, ConnectFailed}
use Rattle.plain_orders.specs.Times.{until}
use Rattle.ecp_messages.specs.declared.up.Up.TheVariants.{Hello, Recover}
use Rattle.app_job.specs.declared.reason.Reason.{Reason}
use Rattle.app_job.specs.declared.reason.Reason.TheVariants as reasons
use Rattle.app_rules.specs.AppState.{AppEnd}
use Rattle.app_rules.specs.declared.line.Line.{Line}
use Rattle.app_rules.specs.declared.line.Line.TheVariants.{Apart, Trying, Greeting, Asking, Joined}
use Rattle.app_rules.specs.Works.{Sofar, writes, cuts, frames, frame_to, becomes, happens, end_at, session_of, session_at, with_line, tells, tries}

-- the connection of a session ended
abbrev pub breaks : ℕ → ℕ → Sofar → Sofar
breaks d now b = happens d now Ended (writes (Broke b.state.app d ends.App now) (becomes d (with_line Apart) b))

-- a connection ended, by how far it was
abbrev pub broken_from : Line → ℕ → ℕ → Sofar → Sofar
broken_from Apart d now b = b
broken_from Trying d now b = b
broken_from Greeting d now b = becomes d (with_line Apart) b
broken_from Asking d now b = breaks d now b
broken_from Joined d now b = breaks d now b

-- the connection ended
abbrev pub broken : ℕ → ℕ → Sofar → Sofar
broken d now b = broken_from (end_at b.state d).line d now b

-- this end ends the connection
abbrev pub ends_it : ℕ → ℕ → Sofar → Sofar
ends_it d now b = broken d now (cuts d b)

-- an attempt goes on; a connection doesn't
abbrev pub line_after_loss : Line → Line
line_after_loss Apart = Apart
line_after_loss Trying = Trying
line_after_loss Greeting = Apart
line_after_loss Asking = Apart
line_after_loss Joined = Apart

-- the session is lost, with all that it had
abbrev pub without_session : LinkName → Reason → AppEnd → AppEnd
without_session state reason e =
    record e {
      link = NotConnected;
      line = line_after_loss e.line;
      lost = e.lost ++ record { session = (session_of e).number; state = state; reason = reason } ∷ [];
      session = None;
    }

-- the session with a data server is lost for this reason
abbrev pub loses : ℕ → LinkName → Reason → Sofar → Sofar
loses d state reason b = becomes d (without_session state reason) b

-- the time to recover is over: the session is lost
abbrev pub expires : ℕ → ℕ → ℕ → Sofar → Sofar
expires d broke now b =
    loses d names.Trouble (reasons.Expired broke now) (writes (Lose b.state.app d (losses.Expired now)) b)

-- a connection is tried, where this holds
abbrev pub tries_when : Bool → ℕ → Sofar → Sofar
tries_when true d b = tries d b
tries_when false d b = b

-- a tick at an end in trouble
abbrev pub ticks_trouble : Bool → ℕ → ℕ → ℕ → ℕ → Sofar → Sofar
ticks_trouble true d broke try_at now b = expires d broke now b
ticks_trouble false d broke try_at now b = tries_when (nat_le try_at now) d b

-- only an end in trouble waits for a moment
abbrev pub ticks_from : AppLink → ℕ → ℕ → Sofar → Sofar
ticks_from NotConnected d now b = b
ticks_from Normal d now b = b
ticks_from (Trouble broke try_at) d now b = ticks_trouble (nat_le (until broke b.state.times.recover) now) d broke try_at now b
ticks_from Recovery d now b = b

-- the ends in the order of their indexes
abbrev pub ticks : List ℕ → ℕ → Sofar → Sofar
ticks [] now b = b
ticks (d ∷ ds) now b = ticks ds now (ticks_from (end_at b.state d).link d now b)

-- a line that joined the pair again: an end in trouble tries at once
abbrev pub joins_from : AppLink → ℕ → Sofar → Sofar
joins_from NotConnected d b = b
joins_from Normal d b = b
joins_from (Trouble broke try_at) d b = tries d b
joins_from Recovery d b = b

-- a connection more was made
abbrev pub with_dial : AppEnd → AppEnd
with_dial e = record e { dial = e.dial + 1 }

-- a Recover goes out, with the number of this connection
abbrev pub recovers : ℕ → ℕ → Sofar → Sofar
recovers d now b =
    tells d 0 (Recover b.state.app (session_at b.state d).number (session_at b.state d).epoch (session_at b.state d).window.taken (end_at b.state d).dial)
    (becomes d (with_line Asking) (happens d now ConnectedEvent (writes (Mended b.state.app d) b)))

-- a Hello does
abbrev pub greets : ℕ → Sofar → Sofar
greets d b = frames (frame_to d 0 0 (Hello b.state.app (end_at b.state d).dial)) (becomes d (with_line Greeting) b)

-- a connection is there, by the state in which it is
abbrev pub connected_from : AppLink → ℕ → ℕ → Sofar → Sofar
connected_from NotConnected d now b = greets d b
connected_from Normal d now b = greets d b
connected_from (Trouble broke try_at) d now b = recovers d now b
connected_from Recovery d now b = greets d b

-- a connection is there, and it is counted
abbrev pub connected : ℕ → ℕ → Sofar → Sofar
connected d now b = connected_from (end_at b.state d).link d now (becomes d with_dial b)

-- an attempt failed while the end was not connected: all its jobs may be told
abbrev pub with_failure : ℕ → ℕ → AppEnd → AppEnd
with_failure before after e = record e { failed = e.failed + 1; before = before; after = after }

-- all jobs may be told of the attempt that failed
abbrev pub no_way : ℕ → ℕ → ℕ → Sofar → Sofar
no_way d before after b = becomes d (with_failure before after) (writes (Lose b.state.app d (losses.NoWay before after)) b)

-- an attempt failed, by the state of the link; a job is told of it only where the pair has no session
abbrev pub failed_from : AppLink → ℕ → ℕ → ℕ → ℕ → Sofar → Sofar
failed_from NotConnected d before after now b = no_way d before after b
failed_from Normal d before after now b = b
failed_from (Trouble broke try_at) d before after now b = happens d now ConnectFailed b
failed_from Recovery d before after now b = b

-- an attempt failed: there is no connection, and none is tried
abbrev pub failed : ℕ → ℕ → ℕ → ℕ → Sofar → Sofar
failed d before after now b = failed_from (end_at b.state d).link d before after now (becomes d (with_line Apart) b)
