-- The small changes that a step of a data server is made of: their kinds, and what each makes.
use Rattle.std.specs.Prelude.{ℕ, true, false, List, [], ◌∷◌, ◌++◌, length, drop, Option, Some, None}
use Rattle.plain_orders.specs.declared.entry.Entry.{Entry}
use Rattle.plain_orders.specs.declared.entry.Entry.TheVariants.{Closed}
use Rattle.plain_orders.specs.declared.act.Act.TheVariants as act
use Rattle.plain_orders.specs.declared.causes.ShutCause.{ShutCause}
use Rattle.plain_orders.specs.declared.causes.ShutCause.TheVariants.{Trouble, Replaced, Round}
use Rattle.plain_orders.specs.declared.mode.Mode.{Mode}
use Rattle.subscript_keys.specs.declared.run.Run.{Run}
use Rattle.link_states.specs.declared.link_event.LinkEvent.{LinkEvent}
use Rattle.link_states.specs.declared.link_event.LinkEvent.TheVariants as event
use Rattle.ecp_messages.specs.declared.down.Down.TheVariants as down
use Rattle.ecp_messages.specs.declared.up.UpFrame.{UpFrame}
use Rattle.lock_table.specs.declared.rows.Request.{Request}
use Rattle.lock_table.specs.declared.rows.Who.{Who}
use Rattle.lock_table.specs.LockWords.{asked, claimed}
use Rattle.block_holders.specs.HolderWords.{with_noted}
use Rattle.data_rules.specs.DataState.{DataState}
use Rattle.data_rules.specs.declared.rows.LiveEnd.{LiveEnd}
use Rattle.data_rules.specs.declared.rows.Reply.{Reply}
use Rattle.data_rules.specs.declared.rows.Role.TheVariants.{Closing}
use Rattle.data_rules.specs.declared.rows.Says.{Says}
use Rattle.data_rules.specs.declared.rows.Says.TheVariants.{ResetOf}
use Rattle.link_states.specs.declared.link_event.LinkEvent.TheVariants.{RoundOver}
use Rattle.std.specs.Prelude.{is_some}
use Rattle.data_rules.specs.Puts.{Sofar, becomes, writes, cuts, puts, tells, replies, head_of, conn_of}
use Rattle.data_rules.specs.Leaving.{leaves}
use Rattle.data_rules.specs.Entering.{appends, enters}
use Rattle.data_rules.specs.Granting.{locks_become, with_locks}
use Rattle.data_rules.specs.Conns.{with_role, with_conn, with_event, without_conn, end_breaks, drops_conn}
use Rattle.data_rules.specs.Closing.{silenced, unawaited, cancels_one}
use Rattle.data_rules.specs.Opening.{opens, breaks_unless, live_ends}
use Rattle.data_rules.specs.Messages.{unlocks, gives_back, cancels_ticket}
use Rattle.data_rules.specs.Callers.{with_dial, is_let_in, goes_on, resumed, comes_again}
use Rattle.data_rules.specs.Frames.{acknowledged, took}
use Rattle.data_rules.specs.Saving.{releases, acks_one}

-- at which end a connection ended
pub data Ending : Type 0 where
  There : Ending
  Here : Ending

-- a call of the table of locks, with the acts that go with it
pub data LockCall : Type 0 where
  Asks : (r : Request) → LockCall
  Unlocks : (who : Who) → (mode : Mode) → (key : List ℕ) → LockCall
  -- a Cancel takes back a request, a grant, or a ticket alone
  Withdraws : (r : Request) → (session ticket : ℕ) → LockCall
  GivesBack : (r : Request) → LockCall
  ForgetsTicket : (r : Request) → LockCall
  Claims : (who : Who) → (key : List ℕ) → (mode : Mode) → (number at : ℕ) → LockCall
  -- a request of a session that was closed goes; all goes of one whose Close is synced
  Cancels : (r : Request) → LockCall
  Releases : (session : ℕ) → LockCall

-- a small change of what a step has made so far
pub data Piece : Type 0 where
  -- a connection comes, one goes that is no live session's, and the one of a live session goes
  Accepts : (conn : ℕ) → Piece
  Forgets : (ending : Ending) → (conn : ℕ) → Piece
  Breaks : (ending : Ending) → (conn session app : ℕ) → Piece
  -- the dial of a first frame counts
  Dials : (app dial : ℕ) → Piece
  -- a Hello waits for the round's end, in place of an older one of its application server
  Waits : (app conn : ℕ) → Piece
  -- a session opens, for a Hello that came, or for the first of those that waited
  Opens : (app conn : ℕ) → Piece
  OpensNext : (app conn : ℕ) → Piece
  -- a session takes the connection of a Recover, and goes on in its epoch or in a new one
  Resumes : (app session conn : ℕ) → Piece
  GoesOn : (session conn taken : ℕ) → Piece
  ComesAgain : (session conn kept : ℕ) → Piece
  -- a Recover of a session that was closed at this place
  AwaitsReset : (session conn at : ℕ) → Piece
  -- a session is closed
  Closes : (session app : ℕ) → (cause : ShutCause) → Piece
  -- an acknowledgement came, a message more, and a Done
  Acknowledges : (conn session : ℕ) → (up : UpFrame) → Piece
  Takes : (conn session : ℕ) → (up : UpFrame) → Piece
  TakesDone : (conn session : ℕ) → (up : UpFrame) → Piece
  -- an item enters, with the Drops that it causes
  Enters : (e : Entry) → Piece
  -- a Fetch is answered, and the run is noted
  Fetches : (session : ℕ) → (run : Run) → (block : List ℕ) → Piece
  -- a session is told that the round is over, or that items of it are synced
  PutsNormal : (app session : ℕ) → Piece
  PutsAck : (session : ℕ) → Piece
  -- a reply waits, and one leaves that stood between these
  Replies : (at : ℕ) → (says : Says) → Piece
  Leaves : (before : List Reply) → (r : Reply) → (behind : List Reply) → Piece
  -- an acknowledgement goes out by itself
  Bares : (session conn : ℕ) → Piece
  Locks : (call : LockCall) → Piece
  -- the round is over: each end goes on
  RoundEnds : Piece
  -- a tick leaves an end as it is
  Ticks : (app session : ℕ) → Piece

-- a connection that ends here is cut
abbrev pub cuts_if : Ending → ℕ → Sofar → Sofar
cuts_if There conn b = b
cuts_if Here conn b = cuts conn b

-- what a call of the table of locks makes
abbrev pub calls : LockCall → Sofar → Sofar
calls (Asks r) b = locks_become (asked b.state.locks r (length b.state.order)) b
calls (Unlocks who mode key) b = unlocks true who mode key b
calls (Withdraws r session ticket) b = cancels_ticket (Some r) session ticket b
calls (GivesBack r) b = gives_back true r b
calls (ForgetsTicket r) b = gives_back false r b
calls (Claims who key mode number at) b = becomes (λ d. with_locks (claimed d.locks who key mode number at) d) b
calls (Cancels r) b = cancels_one r b
calls (Releases session) b = releases session b

-- the connection of a session that was closed awaits its Reset
abbrev pub closing_on : Option ℕ → ℕ → Sofar → Sofar
closing_on None session b = b
closing_on (Some conn) session b = becomes (with_role conn (Closing session)) b

-- a Hello that takes the session's place ends its connection
abbrev pub parts_from : ShutCause → Option ℕ → ℕ → Sofar → Sofar
parts_from (Trouble time) conn session b = closing_on conn session b
parts_from Replaced conn session b = drops_conn conn b
parts_from (Round time) conn session b = closing_on conn session b

-- what its end is told
abbrev pub event_of : ShutCause → LinkEvent
event_of (Trouble time) = event.Ticked
event_of Replaced = event.Replaced
event_of (Round time) = event.Ticked

-- the Close of a session stands, and what it had is gone
abbrev pub with_close : ℕ → ShutCause → Sofar → Sofar
with_close session cause b =
    becomes (unawaited session) (appends (Closed session) (becomes (silenced session) (writes (act.Shut b.state.server session cause) b)))

-- a session is closed, but for its requests and its Reset
abbrev pub shuts : ℕ → ℕ → ShutCause → ℕ → Sofar → Sofar
shuts session app cause now b =
    becomes (with_event app now (event_of cause)) (parts_from cause (conn_of b.state session) session (with_close session cause b))

-- the first Hello that waited isn't there any more
abbrev pub next_caller : DataState → DataState
next_caller d = record d { callers = drop 1 d.callers }

-- one end goes on after the round: it is Normal, or broke where it has no connection
abbrev pub end_back : ℕ → ℕ → ℕ → Sofar → Sofar
end_back app session now b =
    breaks_unless (is_some (conn_of b.state session)) app now (becomes (with_event app now (RoundOver (is_some (conn_of b.state session)))) b)

-- several, in this order
abbrev pub ends_back : List LiveEnd → ℕ → Sofar → Sofar
ends_back [] now b = b
ends_back (x ∷ xs) now b = ends_back xs now (end_back x.app x.session now b)

-- the round is over for all ends
abbrev pub round_over : ℕ → Sofar → Sofar
round_over now b = ends_back (live_ends b.state.order) now (writes (act.Back b.state.server) (becomes (λ d. record d { round = None }) b))

-- the replies are these
abbrev pub with_replies : List Reply → DataState → DataState
with_replies rs d = record d { replies = rs }

-- What a piece makes.
abbrev pub makes : ℕ → Piece → Sofar → Sofar
makes now (Accepts conn) b = becomes (with_conn conn) b
makes now (Forgets ending conn) b = cuts_if ending conn (becomes (without_conn conn) b)
makes now (Breaks ending conn session app) b = cuts_if ending conn (end_breaks (Some app) now (becomes (without_conn conn) b))
makes now (Dials app dial) b = becomes (with_dial app dial) b
makes now (Waits app conn) b = is_let_in true app conn now b
makes now (Opens app conn) b = opens app conn now b
makes now (OpensNext app conn) b = opens app conn now (becomes next_caller b)
makes now (Resumes app session conn) b = becomes (resumed app session conn now) (drops_conn (conn_of b.state session) b)
makes now (GoesOn session conn taken) b = goes_on session conn taken b
makes now (ComesAgain session conn kept) b = comes_again session conn kept b
makes now (AwaitsReset session conn at) b = replies at (ResetOf conn session at) (becomes (with_role conn (Closing session)) b)
makes now (Closes session app cause) b = shuts session app cause now b
makes now (Acknowledges conn session up) b = acknowledged session up.ack b
makes now (Takes conn session up) b = took session up.ack b
makes now (TakesDone conn session up) b = becomes (unawaited session) (took session up.ack b)
makes now (Enters e) b = enters e b
makes now (Fetches session run block) b =
    becomes (λ d. record d { noted = with_noted session run.span d.noted }) (puts session (down.Block (head_of b.state session) block) b)
makes now (PutsNormal app session) b = puts session (down.Normal (head_of b.state session)) b
makes now (PutsAck session) b = acks_one session b
makes now (Replies at says) b = replies at says b
makes now (Leaves before r behind) b = leaves r.says (becomes (with_replies (before ++ behind)) b)
makes now (Bares session conn) b = tells session conn 0 down.Bare b
makes now (Locks call) b = calls call b
makes now RoundEnds b = round_over now b
makes now (Ticks app session) b = becomes (with_event app now event.Ticked) b

-- the same of several, in this order
abbrev pub all_made : ℕ → List Piece → Sofar → Sofar
all_made now [] b = b
all_made now (p ∷ ps) b = all_made now ps (makes now p b)
