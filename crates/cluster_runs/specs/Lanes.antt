-- What a step adds to what the ends of pairs put and took.
use Rattle.std.specs.Prelude.{ℕ, Bool, true, false, ◌==◌, ◌&&◌, ◌+◌, ◌-◌, not, if◌then◌else◌, List, [], ◌∷◌, ◌++◌, map, length, drop, Option, Some, None}
use Rattle.std.specs.List.{filter}
use Rattle.subscript_keys.specs.declared.span.Span.{Span}
use Rattle.plain_orders.specs.declared.entry.Entry.{Entry}
use Rattle.plain_orders.specs.Entries.{live, closes}
use Rattle.ecp_messages.specs.declared.up.Up.{Up}
use Rattle.ecp_messages.specs.declared.up.Up.TheVariants as up
use Rattle.ecp_messages.specs.declared.up.UpFrame.{UpFrame}
use Rattle.ecp_messages.specs.declared.down.Down.{Down}
use Rattle.ecp_messages.specs.declared.down.Down.TheVariants as down
use Rattle.ecp_messages.specs.declared.front.Front.{Front}
use Rattle.end_words.specs.Windows.{Window, sent}
use Rattle.data_rules.specs.DataState.{DataState}
use Rattle.data_rules.specs.declared.data_in.DataIn.{DataIn}
use Rattle.data_rules.specs.declared.data_in.DataIn.TheVariants as data_in
use Rattle.block_holders.specs.declared.noted.Noted.{Noted}
use Rattle.data_rules.specs.declared.down_frames.DownOut.{DownOut}
use Rattle.data_rules.specs.Puts.{window_of, conn_of}
use Rattle.app_rules.specs.AppState.{Session}
use Rattle.cluster_runs.specs.Sent.{Lane, Place, Connection, Welcomed}
use Rattle.cluster_runs.specs.Written.{is_number, count_of}
use Rattle.cluster_runs.specs.WireDrops.{Notes, with_entry}
use Rattle.cluster_runs.specs.Machine.{End}

-- what a window was given since so many were sent
abbrev pub given_since : {M : Type 0} → ℕ → Window M → List M
given_since n w = drop (n - w.acked) w.waiting

-- at a data server's end

-- the span of a note of the session
abbrev pub is_noted_of : ℕ → Noted → Bool
is_noted_of session n = n.session == session

-- the span of a note
abbrev pub span_of : Noted → Span
span_of n = n.span

-- what a data server has for a session
abbrev pub notes_of : DataState → ℕ → Notes
notes_of d session = record {
  order = d.order;
  synced = d.synced;
  noted = map span_of (filter (is_noted_of session) d.noted);
  due = [];
  saved = false;
  closed = false;
}

-- the Drops that entries cause to a session until its Close
abbrev pub drops_until : ℕ → Notes → List Entry → List Down
drops_until session t [] = []
drops_until session t (e ∷ es) =
    if closes session e then [] else (with_entry t session e).due ++ drops_until session (record (with_entry t session e) { due = [] }) es

-- What a step put to a session. The window of one that the step closed is gone: to that only Drops were put, for what entered before its Close.
abbrev pub downs_given : Bool → DataState → DataState → ℕ → List Down
downs_given true old new session = drops_until session (notes_of old session) (drop (length old.order) new.order)
downs_given false old new session = given_since (sent (window_of old session)) (window_of new session)

-- the step closed the session
abbrev pub is_closed_by : DataState → DataState → ℕ → Bool
is_closed_by old new session = live old.order session && not (live new.order session)

-- an acknowledgement by itself
abbrev pub is_bare_down : Down → Bool
is_bare_down down.Bare = true
is_bare_down m = false

-- an acknowledgement by itself, on the connection of the session
abbrev pub is_bare_on : Option ℕ → DownOut → Bool
is_bare_on conn f = is_number f.conn conn && is_bare_down f.down.message

-- what its data end adds to a session
abbrev pub with_data_step : DataState → DataState → List DownOut → ℕ → Lane → Lane
with_data_step old new frames session x = record x {
  down = x.down ++ downs_given (is_closed_by old new session) old new session;
  up_taken = if live new.order session then (window_of new session).taken else x.up_taken;
  down_bares = x.down_bares + count_of (is_bare_on (conn_of new session)) frames;
}

-- how many Hellos a step took from an application server
abbrev pub hellos_on : Up → ℕ → ℕ
hellos_on (up.Hello a dial) app = if a == app then 1 else 0
hellos_on m app = 0

-- how many an input brings
abbrev pub hellos_by : DataIn → ℕ → ℕ
hellos_by (data_in.Frame conn frame) app = hellos_on frame.message app
hellos_by (data_in.Connected conn) app = 0
hellos_by (data_in.Broken conn) app = 0
hellos_by data_in.Tick app = 0
hellos_by (data_in.Saved upto) app = 0

-- at an application server's end

-- it learnt of a new session, or of a new epoch
abbrev pub is_told_new : Option Session → Option Session → Bool
is_told_new None None = false
is_told_new None (Some t) = true
is_told_new (Some s) None = false
is_told_new (Some s) (Some t) = not (s.epoch == t.epoch)

-- how many a session had sent, where there was one
abbrev pub sent_before : Option Session → ℕ
sent_before None = 0
sent_before (Some s) = sent s.window

-- an acknowledgement by itself
abbrev pub is_bare_up : Up → Bool
is_bare_up up.Bare = true
is_bare_up m = false

-- a frame with one
abbrev pub is_bare_frame : UpFrame → Bool
is_bare_frame f = is_bare_up f.message

-- a lane begins with the front of its Welcome, which came on the connection of this number
abbrev pub begins_lane : ℕ → Front → Session → Lane → Lane
begins_lane number front t x = record x { front = front; up = given_since 0 t.window; began = Some number }

-- it goes on
abbrev pub goes_on : ℕ → Session → Lane → Lane
goes_on n t x = record x { up = x.up ++ given_since n t.window; down_taken = t.window.taken }

-- and acknowledgements went out by themselves
abbrev pub with_bares : List UpFrame → Lane → Lane
with_bares frames x = record x { up_bares = x.up_bares + count_of is_bare_frame frames }

-- the front, the session, the epoch and the cut of a Welcome that came
abbrev pub front_said : Down → Front
front_said (down.Welcome session epoch kept front taken) = front
front_said m = record { n = 0; w = 0; s = 0 }

-- what a Welcome says of its session
abbrev pub said : Down → List Welcomed
said (down.Welcome session epoch kept front taken) = record { session = session; epoch = epoch; kept = kept } ∷ []
said m = []

-- the same of a message, if one came
abbrev pub said_by : Option Down → List Welcomed
said_by None = []
said_by (Some m) = said m

-- its front, if one came
abbrev pub front_by : Option Down → Front
front_by None = record { n = 0; w = 0; s = 0 }
front_by (Some m) = front_said m

-- what its application end adds to a session
abbrev pub with_app_step : Bool → Option Down → ℕ → ℕ → Option Session → List UpFrame → Lane → Lane
with_app_step begins m number n None frames x = x
with_app_step true m number n (Some t) frames x = with_bares frames (begins_lane number (front_by m) t x)
with_app_step false m number n (Some t) frames x = with_bares frames (goes_on n t x)

-- whose messages a connection carries, if it was made
abbrev pub its_of : Option Connection → Option Place
its_of None = None
its_of (Some c) = c.its

-- the end is told of what its connection's Welcome said
abbrev pub told_by : Bool → Option Down → ℕ → End → End
told_by true m number e = record e { told = its_of (e.connection_at number); welcomes = e.welcomes ++ said_by m }
told_by false m number e = e
