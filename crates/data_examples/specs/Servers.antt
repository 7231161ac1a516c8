-- A data server, step by step, that the examples begin with.
use Rattle.std.specs.Prelude.{ℕ, List, [], ◌∷◌, replicate, set}
use Rattle.plain_orders.specs.declared.layout.Times.{Times}
use Rattle.plain_orders.specs.declared.act.Act.{Act}
use Rattle.plain_orders.specs.declared.entry.Entry.TheVariants.{Epoch, Opened, Update as Updated}
use Rattle.plain_orders.specs.declared.op.Op.TheVariants.{Set}
use Rattle.subscript_keys.specs.declared.run.Run.{Run}
use Rattle.link_states.specs.declared.data_link.DataLink.TheVariants.{Free, Normal}
use Rattle.ecp_messages.specs.declared.front.Front.{Front}
use Rattle.ecp_messages.specs.declared.up.Up.{Up}
use Rattle.ecp_messages.specs.declared.up.Up.TheVariants.{Update}
use Rattle.ecp_messages.specs.declared.down.Down.{Down}
use Rattle.ecp_messages.specs.declared.down.Down.TheVariants.{Block, Drop}
use Rattle.ecp_messages.specs.declared.up.UpFrame.{UpFrame}
use Rattle.end_words.specs.Windows.{fresh}
use Rattle.data_rules.specs.declared.limits.TheConstants.{APP_LIMIT}
use Rattle.data_rules.specs.declared.data_outs.DataOuts.{DataOuts}
use Rattle.data_rules.specs.declared.down_frames.DownOut.{DownOut}
use Rattle.data_rules.specs.declared.rows.Role.TheVariants.{New, Bound}
use Rattle.data_rules.specs.declared.rows.Says.TheVariants.{NewWelcome}
use Rattle.data_rules.specs.DataState.{DataState, SessionWindow}
use Rattle.data_rules.specs.Step.{started}

-- times of some ticks
abbrev pub times : Times
times = record { retry = 5; trouble = 60; recover = 100; round = 60 }

-- a frame from an application server
abbrev pub up : ℕ → ℕ → Up → UpFrame
up seq ack m = record { seq = seq; ack = ack; message = m }

-- what a step puts, ends and writes
abbrev pub outs : List DownOut → List ℕ → List Act → DataOuts
outs frames cuts acts = record { frames = frames; cuts = cuts; acts = acts }

-- what a message tells of the list: its length, the session's count in it, and its count in the synced part
abbrev pub head : ℕ → ℕ → ℕ → Front
head n w s = record { n = n; w = w; s = s }

-- data server 0 starts with nothing in its journal
abbrev pub began : DataState
began = started 0 times [] 0

-- connection 7 is accepted
abbrev pub accepted : DataState
accepted = record began { conns = record { number = 7; role = New } ∷ [] }

-- the first Hello of application server 1 is taken on it: an Open enters, and its Welcome waits
abbrev pub greeted : DataState
greeted =
    record accepted {
      order = Epoch 1 ∷ Opened 2 1 ∷ [];
      links = set (replicate APP_LIMIT Free) 1 Normal;
      dials = set (replicate APP_LIMIT 0) 1 1;
      conns = record { number = 7; role = Bound 2 } ∷ [];
      windows = record { session = 2; window = fresh } ∷ [];
      replies = record { at = 2; says = NewWelcome 7 2 } ∷ [];
    }

-- the Open is synced, and the Welcome left
abbrev pub welcomed : DataState
welcomed = record greeted { synced = 2; replies = [] }

-- the window of a session: what was acknowledged, what was sent after that, what was taken, and how many of these since a frame was put
abbrev pub window_at : ℕ → ℕ → List Down → ℕ → ℕ → SessionWindow
window_at session acked waiting taken since =
    record { session = session; window = record { acked = acked; waiting = waiting; taken = taken; since = since } }

-- the key of ^x
abbrev pub x_key : List ℕ
x_key = 120 ∷ 0 ∷ []

-- the run over all keys of a list that has no pair
abbrev pub whole_run : Run
whole_run = record { span = record { lo = []; hi = 255 ∷ [] }; pairs = [] }

-- its block
abbrev pub whole_block : List ℕ
whole_block = 1 ∷ 0 ∷ 0 ∷ 0 ∷ 1 ∷ 255 ∷ 0 ∷ 0 ∷ []

-- the session fetched ^x: it was sent the run over all keys, which is noted
abbrev pub fetched : DataState
fetched =
    record welcomed {
      windows = window_at 2 0 (Block (head 2 0 0) whole_block ∷ []) 1 0 ∷ [];
      noted = record { session = 2; span = whole_run.span } ∷ [];
    }

-- the update with this running number sets ^x to 5
abbrev pub set_x : ℕ → Up
set_x w = Update w 0 0 (Set x_key (53 ∷ []))

-- it set ^x, which drops the run
abbrev pub updated : DataState
updated =
    record fetched {
      order = Epoch 1 ∷ Opened 2 1 ∷ Updated 2 1 0 0 (Set x_key (53 ∷ [])) ∷ [];
      windows = window_at 2 1 (Drop (head 3 1 0) [] (255 ∷ []) ∷ []) 2 0 ∷ [];
      noted = [];
    }

-- connection 8 is accepted while connection 7 is there
abbrev pub accepted_more : DataState
accepted_more = record welcomed { conns = record { number = 7; role = Bound 2 } ∷ record { number = 8; role = New } ∷ [] }
