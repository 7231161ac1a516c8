-- The words of the runs: two nodes, frames, windows and runs.
use Rattle.std.specs.Prelude.{ℕ, Bool, true, false, List, [], ◌∷◌, Option, Some, None}
use Rattle.subscript_keys.specs.declared.pair.Pair.{Pair}
use Rattle.subscript_keys.specs.declared.span.Span.{Span}
use Rattle.subscript_keys.specs.declared.run.Run.{Run}
use Rattle.plain_orders.specs.declared.layout.Times.{Times}
use Rattle.ecp_messages.specs.declared.front.Front.{Front as Header}
use Rattle.block_cache.specs.declared.front.Front.{Front}
use Rattle.ecp_messages.specs.declared.up.Up.{Up}
use Rattle.ecp_messages.specs.declared.up.UpFrame.{UpFrame}
use Rattle.ecp_messages.specs.declared.down.Down.{Down}
use Rattle.ecp_messages.specs.declared.down.DownFrame.{DownFrame}
use Rattle.app_job.specs.Sites.{Site}
use Rattle.end_words.specs.Windows.{Window}
use Rattle.lock_table.specs.declared.rows.Who.{Who}
use Rattle.app_rules.specs.declared.up_frames.UpOut.{UpOut}
use Rattle.app_rules.specs.AppState.{AppState, AppEnd}
use Rattle.data_rules.specs.declared.down_frames.DownOut.{DownOut}
use Rattle.app_job.specs.declared.command.Command.{Command}
use Rattle.app_rules.specs.declared.session_parts.Late.{Late}
use Rattle.app_rules.specs.JobState.{Progress}
use Rattle.app_rules.specs.Looks.{View}
use Rattle.data_rules.specs.DataState.{SessionWindow}
use Rattle.cluster_runs.specs.CoresState.{Linked, Dial, Accepted, Begun}

-- times of some ticks
abbrev pub times : Times
times = record { retry = 5; trouble = 60; recover = 1200; round = 60 }

-- the keys of ^x and ^a
abbrev pub x_key : List ℕ
x_key = 120 ∷ 0 ∷ []

abbrev pub a_key : List ℕ
a_key = 97 ∷ 0 ∷ []

-- these nodes at data server 0
abbrev pub x : Site
x = record { server = 0; node = record { name = 120 ∷ []; subs = [] }; key = x_key }

abbrev pub a : Site
a = record { server = 0; node = record { name = 97 ∷ []; subs = [] }; key = a_key }

-- what a message tells of the list: its length, the session's count in it, and its count in the synced part
abbrev pub head : ℕ → ℕ → ℕ → Header
head n w s = record { n = n; w = w; s = s }

-- frames: a number, the count of what was taken, a message
abbrev pub up_frame : ℕ → ℕ → Up → UpFrame
up_frame seq ack m = record { seq = seq; ack = ack; message = m }

abbrev pub down_frame : ℕ → ℕ → Down → DownFrame
down_frame seq ack m = record { seq = seq; ack = ack; message = m }

-- a frame to the data server, and one on a connection
abbrev pub to_server : UpFrame → UpOut
to_server f = record { server = 0; up = f }

abbrev pub on_conn : ℕ → DownFrame → DownOut
on_conn conn f = record { conn = conn; down = f }

-- a window: what was acknowledged, what was sent after that, what was taken, and how many of these since a frame was put
abbrev pub window : {M : Type 0} → ℕ → List M → ℕ → ℕ → Window M
window acked waiting taken since = record { acked = acked; waiting = waiting; taken = taken; since = since }

-- the span of all keys, and a run over it
abbrev pub all_keys : Span
all_keys = record { lo = []; hi = 255 ∷ [] }

abbrev pub run_of : List Pair → Run
run_of pairs = record { span = all_keys; pairs = pairs }

-- ^x is 5, and ^x is 1
abbrev pub x_is_5 : Pair
x_is_5 = record { key = x_key; value = 53 ∷ [] }

abbrev pub x_is_1 : Pair
x_is_1 = record { key = x_key; value = 49 ∷ [] }

-- the blocks of the runs over all keys: that with no pair, and those with the one pair
abbrev pub empty_block : List ℕ
empty_block = 1 ∷ 0 ∷ 0 ∷ 0 ∷ 1 ∷ 255 ∷ 0 ∷ 0 ∷ []

abbrev pub block_5 : List ℕ
block_5 = 1 ∷ 0 ∷ 0 ∷ 0 ∷ 1 ∷ 255 ∷ 0 ∷ 1 ∷ 0 ∷ 2 ∷ 120 ∷ 0 ∷ 0 ∷ 1 ∷ 53 ∷ []

abbrev pub block_1 : List ℕ
block_1 = 1 ∷ 0 ∷ 0 ∷ 0 ∷ 1 ∷ 255 ∷ 0 ∷ 1 ∷ 0 ∷ 2 ∷ 120 ∷ 0 ∷ 0 ∷ 1 ∷ 49 ∷ []

-- a job of a session
abbrev pub who : ℕ → ℕ → Who
who session job = record { session = session; job = job }

-- an application server's connection with this number
abbrev pub linked_with : ℕ → ℕ → Linked
linked_with app dial = record { app = app; dial = dial }

-- an application server with one end
abbrev pub app_with : ℕ → AppEnd → AppState
app_with app e = record { app = app; times = times; ends = e ∷ [] }

-- a connection that an application server made, to which a data connection is linked, with what is on its way up and down
abbrev pub a_dial : ℕ → ℕ → List UpFrame → List DownFrame → Dial
a_dial app number up down =
    record { app = app; server = 0; number = number; up = up; down = down; linked = true; app_left = false; data_left = false }

-- a connection that the data server accepted
abbrev pub a_conn : ℕ → Option Linked → Accepted
a_conn conn dial = record { server = 0; conn = conn; dial = dial; left = false }

-- a job whose last line is over, and one that waits
abbrev pub idle : ℕ → Begun
idle line = record { line = line; waits = None }

abbrev pub waiting : ℕ → Command → Begun
waiting line command = record { line = line; waits = Some command }

-- what is known of a command that waits: its line, the moment of its first step, and whether a Fetch was put for it
abbrev pub progress_at : ℕ → ℕ → Bool → Progress
progress_at line first fetched =
    record { line = line; first = first; level = 0; failed = 0 ∷ []; fetched = fetched; added = None; servers = []; ends = None }

-- what a job knew after its last step: the session, and its own updates that hadn't entered
abbrev pub knows : Option ℕ → List Late → View
knows session late = record { rollback_only = false; servers = record { session = session; has_loss = false; late = late } ∷ [] }

-- a front that is published
abbrev pub front_at : ℕ → ℕ → ℕ → ℕ → Front
front_at session epoch n w = record { session = session; epoch = epoch; n = n; w = w }

-- the window of a session
abbrev pub window_at : ℕ → ℕ → List Down → ℕ → ℕ → SessionWindow
window_at session acked waiting taken since = record { session = session; window = window acked waiting taken since }
