-- What is known where a step of a data server makes a small change.
use Rattle.std.proofs.Common.{◌≡◌, ◌≢◌, ◌≤◌, ◌<◌, ◌⊎◌, ℕ, Bool, true, false, List, [], ◌∷◌, ◌++◌, length, filter, Option, Some, None, is_some}
use Rattle.std.specs.Prelude.{Ok, nat_lt, pos}
use Rattle.std.specs.List.{AllByRecursion, list_any}
use Rattle.plain_orders.specs.declared.causes.ShutCause.{ShutCause}
use Rattle.plain_orders.specs.declared.causes.ShutCause.TheVariants.{Trouble, Replaced, Round}
use Rattle.plain_orders.specs.declared.entry.Entry.{Entry}
use Rattle.plain_orders.specs.declared.entry.Entry.TheVariants as entries
use Rattle.plain_orders.specs.declared.op.Op.TheVariants as ops
use Rattle.plain_orders.specs.Entries.{closes, entry_at, live, live_session, last_epoch}
use Rattle.plain_orders.specs.Ordered.{MayFollow}
use Rattle.plain_orders.specs.Sessions.{app_in, place_of_epoch}
use Rattle.subscript_keys.specs.declared.run.Run.{Run}
use Rattle.block_bytes.specs.Blocks.{IsBlockOf}
use Rattle.end_words.specs.Runs.{TrueAt, covers}
use Rattle.end_words.specs.Windows.{answers, owes_bare}
use Rattle.link_states.specs.declared.data_link.DataLink.TheVariants.{Free}
use Rattle.link_states.specs.declared.link_event.LinkEvent.TheVariants.{Ticked}
use Rattle.link_states.specs.Tables.{data_next}
use Rattle.link_window.specs.declared.window.Taken.{Taken}
use Rattle.link_window.specs.declared.window.Taken.TheVariants.{Fresh, Repeat}
use Rattle.lock_table.specs.declared.rows.Request.{Request}
use Rattle.lock_table.specs.declared.rows.Who.{Who}
use Rattle.plain_orders.specs.declared.mode.Mode.{Mode}
use Rattle.lock_table.specs.LockWords.{holds_it, granted_with, is_other_ticket, waiting_with}
use Rattle.ecp_messages.specs.declared.about.About.TheVariants.{Synced}
use Rattle.ecp_messages.specs.declared.up.Up.{Up}
use Rattle.ecp_messages.specs.declared.up.Up.TheVariants.{Hello, Recover, Update, Add, Fetch, Ask, Unlock, Cancel, Commit, Rollback, Sync, Done, Claim, Bare}
use Rattle.ecp_messages.specs.declared.up.UpFrame.{UpFrame}
use Rattle.data_rules.specs.declared.data_in.DataIn.{DataIn}
use Rattle.data_rules.specs.declared.data_in.DataIn.TheVariants as data_in
use Rattle.data_rules.specs.declared.rows.Caller.{Caller}
use Rattle.data_rules.specs.declared.rows.Kind.TheVariants.{Numbered, Unnumbered}
use Rattle.data_rules.specs.declared.rows.Reply.{Reply}
use Rattle.data_rules.specs.declared.rows.Role.TheVariants.{New, Bound, Closing}
use Rattle.data_rules.specs.declared.rows.Says.{Says}
use Rattle.data_rules.specs.declared.rows.Says.TheVariants.{NewWelcome, EpochWelcome, ResetOf, GrantOf, AnswerOf}
use Rattle.data_rules.specs.DataState.{DataState}
use Rattle.data_rules.specs.Places.{close_place}
use Rattle.data_rules.specs.Puts.{Sofar, becomes, replies, begun, body_of, conn_of, is_reply_elsewhere, says_on, window_of}
use Rattle.data_rules.specs.Leaving.{may_leave}
use Rattle.data_rules.specs.Owing.{owes_item}
use Rattle.data_rules.specs.Conns.{link_of, role_of}
use Rattle.data_rules.specs.Messages.{is_awaited, is_refused}
use Rattle.data_rules.specs.Callers.{dial_of}
use Rattle.data_rules.specs.Frames.{kind_of, took}
use Rattle.data_rules.specs.Saving.{cause_of, has_item_of, hears_tick, part_saved, writes_synced}
use Rattle.cluster_invariant.specs.Served.{has_one_ticket}
use Rattle.cluster_invariant.proofs.PieceKinds.{Ending, There, Here, LockCall, Asks, Unlocks, Withdraws, GivesBack, ForgetsTicket, Claims, Cancels, Releases}

-- what comes to a data server that was in this state, and when
pub record Coming : Type 0 where
  pub old : DataState
  pub now : ℕ
  pub input : DataIn

-- a save counts before all else: its number, and its act where the number rises
abbrev pub synced_to : ℕ → Sofar → Sofar
synced_to upto b = becomes (λ d. record d { synced = upto }) (writes_synced (nat_lt b.state.synced upto) upto b)

-- what an input makes at once
abbrev pub taken_in : DataIn → Sofar → Sofar
taken_in (data_in.Frame conn up) b = b
taken_in (data_in.Connected conn) b = b
taken_in (data_in.Broken conn) b = b
taken_in data_in.Tick b = b
taken_in (data_in.Saved upto) b = synced_to upto b

-- where the small changes begin
abbrev pub begins : Coming → Sofar
begins t = taken_in t.input (begun t.old)

-- connections

-- it ended there, or is ended here by what came on it
abbrev pub EndsBy : Coming → Ending → ℕ → Type 0
EndsBy t There conn = t.input ≡ data_in.Broken conn
EndsBy t Here conn = (up : UpFrame) × (t.input ≡ data_in.Frame conn up)

-- a connection comes that isn't there
pub record AcceptsMay (t : Coming) (conn : ℕ) (b : Sofar) : Type 0 where
  pub first : b ≡ begins t
  pub came : t.input ≡ data_in.Connected conn
  pub unknown : is_some (role_of b.state conn) ≡ false

-- the one that goes is of no session with an application server
pub record ForgetsMay (t : Coming) (ending : Ending) (conn : ℕ) (b : Sofar) : Type 0 where
  pub first : b ≡ begins t
  pub ends : EndsBy t ending conn
  pub unbound : (session : ℕ) → role_of b.state conn ≡ Some (Bound session) → app_in b.state.order session ≡ None

-- the one that goes is of this session
pub record BreaksMay (t : Coming) (ending : Ending) (conn session app : ℕ) (b : Sofar) : Type 0 where
  pub first : b ≡ begins t
  pub ends : EndsBy t ending conn
  pub bound : role_of b.state conn ≡ Some (Bound session)
  pub opened : app_in b.state.order session ≡ Some app

-- first frames

-- a frame with this message came
pub record Came (t : Coming) (conn : ℕ) (m : Up) : Type 0 where
  pub up : UpFrame
  pub its : t.input ≡ data_in.Frame conn up
  pub says : up.message ≡ m

-- it came on a new connection, its dial is no less than those before it, and the order is as it was
pub record Firstly (t : Coming) (conn app dial : ℕ) (b : Sofar) : Type 0 where
  pub was_new : role_of t.old conn ≡ Some New
  pub later : dial_of t.old app ≤ dial
  pub same : b.state.order ≡ t.old.order

-- a Recover of the application server's session came
pub record RecoverCame (t : Coming) (conn app session : ℕ) (b : Sofar) : Type 0 where
  pub epoch : ℕ
  pub taken : ℕ
  pub dial : ℕ
  pub came : Came t conn (Recover app session epoch taken dial)
  pub its : app_in b.state.order session ≡ Some app
  pub firstly : Firstly t conn app dial b

-- a first frame named this dial
pub record NamesDial (t : Coming) (app dial conn : ℕ) : Type 0 where
  pub session : ℕ
  pub epoch : ℕ
  pub taken : ℕ
  pub came : Came t conn (Hello app dial) ⊎ Came t conn (Recover app session epoch taken dial)

-- the dial is no less than those before it
pub record DialsMay (t : Coming) (app dial : ℕ) (b : Sofar) : Type 0 where
  pub first : b ≡ begins t
  pub conn : ℕ
  pub names : NamesDial t app dial conn
  pub is_new : role_of b.state conn ≡ Some New
  pub later : dial_of b.state app ≤ dial

-- a Hello came of an application server without a live session
pub record HelloMay (t : Coming) (app conn : ℕ) (in_round : Bool) (b : Sofar) : Type 0 where
  pub dial : ℕ
  pub came : Came t conn (Hello app dial)
  pub is_new : role_of b.state conn ≡ Some New
  pub free : live_session b.state.order app ≡ None
  pub round : is_some b.state.round ≡ in_round

-- the round is over, and the first Hello that waited is this one
pub record OpensNextMay (app conn : ℕ) (b : Sofar) : Type 0 where
  pub behind : List Caller
  pub next : b.state.callers ≡ record { conn = conn; app = app } ∷ behind
  pub over : b.state.round ≡ None

-- a Recover of a live session
pub record ResumesMay (t : Coming) (app session conn : ℕ) (b : Sofar) : Type 0 where
  pub came : RecoverCame t conn app session b
  pub is_new : role_of b.state conn ≡ Some New
  pub is_live : live b.state.order session ≡ true
  pub begun : came.epoch ≤ last_epoch b.state.order
  -- nothing was put before
  pub unput : b.outs.frames ≡ []

-- the replies that are left where a connection, if there is one, goes
abbrev pub left_by : Option ℕ → List Reply → List Reply
left_by None rs = rs
left_by (Some conn) rs = filter (is_reply_elsewhere (says_on conn)) rs

-- in the epoch that its other end was told
pub record GoesOnMay (t : Coming) (session conn taken : ℕ) (b : Sofar) : Type 0 where
  pub app : ℕ
  pub came : RecoverCame t conn app session b
  pub counted : came.taken ≡ taken
  pub bound : role_of b.state conn ≡ Some (Bound session)
  pub is_live : live b.state.order session ≡ true
  pub its_epoch : came.epoch ≡ last_epoch b.state.order
  pub unput : b.outs.frames ≡ []
  pub waiting : b.state.replies ≡ left_by (conn_of t.old session) t.old.replies

-- in an older one
pub record ComesAgainMay (t : Coming) (session conn kept : ℕ) (b : Sofar) : Type 0 where
  pub app : ℕ
  pub came : RecoverCame t conn app session b
  pub bound : role_of b.state conn ≡ Some (Bound session)
  pub is_live : live b.state.order session ≡ true
  pub older : came.epoch < last_epoch b.state.order
  pub known : place_of_epoch came.epoch 0 b.state.order ≡ Some kept
  pub unput : b.outs.frames ≡ []
  -- of the replies that waited those stay that aren't on the session's older connection
  pub waiting : b.state.replies ≡ left_by (conn_of t.old session) t.old.replies

-- a Recover of a closed session
pub record AwaitsResetMay (t : Coming) (session conn at : ℕ) (b : Sofar) : Type 0 where
  pub app : ℕ
  pub came : RecoverCame t conn app session b
  pub is_new : role_of b.state conn ≡ Some New
  pub is_closed : live b.state.order session ≡ false
  pub begun : came.epoch ≤ last_epoch b.state.order
  pub closed : close_place b.state.order session ≡ Some at
  pub unput : b.outs.frames ≡ []
  pub waiting : b.state.replies ≡ t.old.replies

-- closing

-- the tick is one that the end of the session doesn't outlast
pub record TickCloses (t : Coming) (session app : ℕ) (cause : ShutCause) (b : Sofar) : Type 0 where
  pub came : t.input ≡ data_in.Tick
  pub hears : hears_tick (link_of b.state app) (is_awaited b.state session) ≡ true
  pub free : data_next b.state.times t.now (link_of b.state app) Ticked ≡ Free
  pub its_cause : cause ≡ cause_of (link_of b.state app) t.now

-- a Hello of the session's application server came on another connection
pub record HelloCloses (t : Coming) (session app : ℕ) (b : Sofar) : Type 0 where
  pub conn : ℕ
  pub dial : ℕ
  pub came : Came t conn (Hello app dial)
  pub is_new : role_of b.state conn ≡ Some New
  pub unput : b.outs.frames ≡ []

-- why a session is closed
abbrev pub ClosesBy : Coming → ℕ → ℕ → ShutCause → Sofar → Type 0
ClosesBy t session app (Trouble time) b = TickCloses t session app (Trouble time) b
ClosesBy t session app Replaced b = HelloCloses t session app b
ClosesBy t session app (Round time) b = TickCloses t session app (Round time) b

-- it is the live session of its application server
pub record ClosesMay (t : Coming) (session app : ℕ) (cause : ShutCause) (b : Sofar) : Type 0 where
  pub has : live_session b.state.order app ≡ Some session
  pub why : ClosesBy t session app cause b

-- messages

-- a frame came on the connection of the session
pub record OnBound (t : Coming) (conn session : ℕ) (up : UpFrame) (b : Sofar) : Type 0 where
  pub came : t.input ≡ data_in.Frame conn up
  pub bound : role_of b.state conn ≡ Some (Bound session)

-- a numbered message that came again, or an acknowledgement by itself
abbrev pub IsAcknowledgement : ℕ → UpFrame → Sofar → Type 0
IsAcknowledgement session up b =
    ((kind_of up.message ≡ Numbered) × (answers body_of (window_of b.state session) up.seq up.ack ≡ Ok Repeat))
    ⊎ ((kind_of up.message ≡ Unnumbered) × ((answer : Taken) × (answers body_of (window_of b.state session) 0 up.ack ≡ Ok answer)))

pub record AcknowledgesMay (t : Coming) (conn session : ℕ) (up : UpFrame) (b : Sofar) : Type 0 where
  pub first : b ≡ begins t
  pub on : OnBound t conn session up b
  pub why : IsAcknowledgement session up b

-- the next numbered message
pub record TakesMay (t : Coming) (conn session : ℕ) (up : UpFrame) (b : Sofar) : Type 0 where
  pub first : b ≡ begins t
  pub on : OnBound t conn session up b
  pub kind : kind_of up.message ≡ Numbered
  pub fresh : answers body_of (window_of b.state session) up.seq up.ack ≡ Ok Fresh

-- a Done of a session that the round awaits
pub record TakesDoneMay (t : Coming) (conn session : ℕ) (up : UpFrame) (b : Sofar) : Type 0 where
  pub takes : TakesMay t conn session up b
  pub done : up.message ≡ Done
  pub awaited : is_awaited b.state session ≡ true

-- the entry of an item
abbrev pub item_of : ℕ → Up → Option Entry
item_of session (Hello app dial) = None
item_of session (Recover app s epoch taken dial) = None
item_of session (Update w job txn op) = Some (entries.Update session w job txn op)
item_of session (Add w job key amount) = Some (entries.Update session w job 0 (ops.Add key amount))
item_of session (Fetch key) = None
item_of session (Ask ticket job mode key) = None
item_of session (Unlock job mode key) = None
item_of session (Cancel ticket) = None
item_of session (Commit w job txn wanted) = Some (entries.Commit session w job txn)
item_of session (Rollback w job txn) = Some (entries.Rollback session w job txn)
item_of session (Sync ticket) = None
item_of session Done = None
item_of session (Claim job mode number at key) = None
item_of session Bare = None

-- what came on the connection of a session
pub record Message (t : Coming) (session : ℕ) (b : Sofar) : Type 0 where
  pub conn : ℕ
  pub up : UpFrame
  pub on : OnBound t conn session up b

-- the message is an item that may follow
pub record EntersMay (t : Coming) (e : Entry) (b : Sofar) : Type 0 where
  pub session : ℕ
  pub its : Message t session b
  pub item : item_of session its.up.message ≡ Some e
  pub follows : MayFollow b.state.order e

-- a Fetch of a key that the run covers, which is true of the whole list
pub record FetchesMay (t : Coming) (session : ℕ) (run : Run) (block : List ℕ) (b : Sofar) : Type 0 where
  pub its : Message t session b
  pub key : List ℕ
  pub says : its.up.message ≡ Fetch key
  pub covered : covers key run ≡ true
  pub is_true : TrueAt run b.state.order (length b.state.order)
  pub in_bytes : IsBlockOf run block

-- putting

-- where a round is on it was on before, and no application server has another live session than it had
pub record RoundWas (t : Coming) (d : DataState) : Type 0 where
  pub in_round : is_some d.round ≡ true → is_some t.old.round ≡ true
  pub has : is_some d.round ≡ true → (app session : ℕ) → live_session d.order app ≡ Some session → live_session t.old.order app ≡ Some session

-- the round that was on is over, and the session is the live one of its application server, as it was before
pub record PutsNormalMay (t : Coming) (app session : ℕ) (b : Sofar) : Type 0 where
  pub over : b.state.round ≡ None
  pub has : live_session b.state.order app ≡ Some session
  pub in_round : is_some t.old.round ≡ true
  pub was : live_session t.old.order app ≡ Some session

-- a save covers an item of the live session
pub record PutsAckMay (t : Coming) (session : ℕ) (b : Sofar) : Type 0 where
  pub upto : ℕ
  pub came : t.input ≡ data_in.Saved upto
  pub is_live : live b.state.order session ≡ true
  pub saved : has_item_of (part_saved t.old upto) session ≡ true

-- a tick closed a session at this place, and its connection awaits the Reset
pub record ResetMay (t : Coming) (conn session place at : ℕ) (b : Sofar) : Type 0 where
  pub came : t.input ≡ data_in.Tick
  pub until : at ≡ place
  pub closing : role_of b.state conn ≡ Some (Closing session)
  pub closed : entry_at b.state.order place ≡ Some (entries.Closed session)

-- a Sync waits for the whole list, and an item for its entry
abbrev pub AnswersBy : Up → ℕ → ℕ → Says → Sofar → Type 0
AnswersBy (Hello app dial) session at says b = ⊥
AnswersBy (Recover app s epoch taken dial) session at says b = ⊥
AnswersBy (Update w job txn op) session at says b = ⊥
AnswersBy (Add w job key amount) session at says b = owes_item session job w b ≡ replies at says b
AnswersBy (Fetch key) session at says b = ⊥
AnswersBy (Ask ticket job mode key) session at says b = ⊥
AnswersBy (Unlock job mode key) session at says b = ⊥
AnswersBy (Cancel ticket) session at says b = ⊥
AnswersBy (Commit w job txn wanted) session at says b = owes_item session job w b ≡ replies at says b
AnswersBy (Rollback w job txn) session at says b = owes_item session job w b ≡ replies at says b
AnswersBy (Sync ticket) session at says b = (at ≡ length b.state.order) × (says ≡ AnswerOf session Synced 0 ticket at (pos 0))
AnswersBy Done session at says b = ⊥
AnswersBy (Claim job mode number place key) session at says b = ⊥
AnswersBy Bare session at says b = ⊥

-- what is answered came on the connection of the session
pub record AnswersMay (t : Coming) (session place at : ℕ) (says : Says) (b : Sofar) : Type 0 where
  pub until : at ≡ place
  pub within : place ≤ length b.state.order
  pub its : Message t session b
  pub why : AnswersBy its.up.message session at says b

-- which replies are made by themselves
abbrev pub RepliesMay : Coming → ℕ → Says → Sofar → Type 0
RepliesMay t at (NewWelcome conn session) b = ⊥
RepliesMay t at (EpochWelcome conn session kept) b = ⊥
RepliesMay t at (ResetOf conn session place) b = ResetMay t conn session place at b
RepliesMay t at (GrantOf session ticket number) b = ⊥
RepliesMay t at (AnswerOf session about job number place sum) b = AnswersMay t session place at (AnswerOf session about job number place sum) b

-- what the reply rests on is synced, and it is the first such
pub record LeavesMay (before : List Reply) (r : Reply) (behind : List Reply) (b : Sofar) : Type 0 where
  pub its : b.state.replies ≡ before ++ r ∷ behind
  pub synced : may_leave b.state.synced r ≡ true
  pub others : AllByRecursion (λ q. may_leave b.state.synced q ≡ false) before

-- a frame came on the connection of the session, of which so much was taken since a frame was put
pub record BaresMay (t : Coming) (session conn : ℕ) (b : Sofar) : Type 0 where
  pub after : Message t session b
  pub its : conn_of b.state session ≡ Some conn
  pub owed : owes_bare (window_of b.state session) ≡ true

-- locks

-- a message of the holder's session, which was just taken
pub record Asked (t : Coming) (session : ℕ) (m : Up) (b : Sofar) : Type 0 where
  pub its : Message t session b
  pub says : its.up.message ≡ m
  pub first : TakesMay t its.conn session its.up (begins t)
  pub just : b ≡ took session its.up.ack (begins t)

-- a hold is given up
pub record UnlocksMay (t : Coming) (who : Who) (mode : Mode) (key : List ℕ) (b : Sofar) : Type 0 where
  pub asked : Asked t who.session (Unlock who.job mode key) b
  pub held : holds_it who key mode b.state.locks.holds ≡ true

-- the request that waits
pub record WithdrawsMay (t : Coming) (r : Request) (session ticket : ℕ) (b : Sofar) : Type 0 where
  pub asked : Asked t session (Cancel ticket) b
  pub waits : waiting_with b.state.locks session ticket ≡ Some r

-- the request that was granted, whose hold is there or not
pub record GivesBackMay (t : Coming) (r : Request) (held : Bool) (b : Sofar) : Type 0 where
  pub session : ℕ
  pub ticket : ℕ
  pub asked : Asked t session (Cancel ticket) b
  pub none_waits : waiting_with b.state.locks session ticket ≡ None
  pub granted : granted_with b.state.locks session ticket ≡ Some r
  pub hold : holds_it r.who r.name r.mode b.state.locks.holds ≡ held

-- a claim in a round that conflicts with no hold
pub record ClaimsMay (t : Coming) (who : Who) (key : List ℕ) (mode : Mode) (number at : ℕ) (b : Sofar) : Type 0 where
  pub asked : Asked t who.session (Claim who.job mode number at key) b
  pub awaited : is_awaited b.state who.session ≡ true
  pub alone : is_refused b.state who key mode ≡ false

-- of the requests that wait only such stand behind as are of other sessions
pub record IsLast (r : Request) (rs : List Request) : Type 0 where
  pub before : List Request
  pub behind : List Request
  pub its : rs ≡ before ++ behind
  pub others : AllByRecursion (λ q. is_other_ticket r.who.session r.ticket q ≡ true) before
  pub none : AllByRecursion (λ q. q.who.session ≢ r.who.session) (filter (is_other_ticket r.who.session r.ticket) behind)

-- the requests that wait are of live sessions
abbrev pub AskersLive : DataState → Type 0
AskersLive d = AllByRecursion (λ r. live d.order r.who.session ≡ true) d.locks.requests

-- the request is of this session, or of a live one
abbrev pub LivesUnless : ℕ → List Entry → Request → Type 0
LivesUnless s es r = r.who.session ≢ s → live es r.who.session ≡ true

-- its session was closed, and requests of that go the latest first; others are of live sessions, where all were as the step began
pub record CancelsMay (t : Coming) (r : Request) (b : Sofar) : Type 0 where
  pub closed : live b.state.order r.who.session ≡ false
  pub last : has_one_ticket t.old.locks.requests ≡ true → IsLast r b.state.locks.requests
  pub others : AskersLive t.old → AllByRecursion (LivesUnless r.who.session b.state.order) b.state.locks.requests

-- a save covers the session's Close
pub record ReleasesMay (t : Coming) (session : ℕ) (b : Sofar) : Type 0 where
  pub upto : ℕ
  pub came : t.input ≡ data_in.Saved upto
  pub closed : list_any (closes session) (part_saved t.old upto) ≡ true

-- when the table of locks is called
abbrev pub CallsMay : Coming → LockCall → Sofar → Type 0
CallsMay t (Asks r) b = Asked t r.who.session (Ask r.ticket r.who.job r.mode r.name) b
CallsMay t (Unlocks who mode key) b = UnlocksMay t who mode key b
CallsMay t (Withdraws r session ticket) b = WithdrawsMay t r session ticket b
CallsMay t (GivesBack r) b = GivesBackMay t r true b
CallsMay t (ForgetsTicket r) b = GivesBackMay t r false b
CallsMay t (Claims who key mode number at) b = ClaimsMay t who key mode number at b
CallsMay t (Cancels r) b = CancelsMay t r b
CallsMay t (Releases session) b = ReleasesMay t session b

-- a tick that the end outlasts
pub record TicksMay (t : Coming) (app session : ℕ) (b : Sofar) : Type 0 where
  pub came : t.input ≡ data_in.Tick
  pub has : live_session b.state.order app ≡ Some session
  pub same : data_next b.state.times t.now (link_of b.state app) Ticked ≡ link_of b.state app
