-- An application server with one data server, step by step, that the examples begin with.
use Rattle.std.specs.Prelude.{ℕ, List, [], ◌∷◌, Some}
use Rattle.plain_orders.specs.declared.layout.Times.{Times}
use Rattle.plain_orders.specs.declared.act.Act.{Act}
use Rattle.plain_orders.specs.declared.op.Op.TheVariants as ops
use Rattle.plain_orders.specs.declared.refused.LinkName.TheVariants as names
use Rattle.link_states.specs.declared.app_link.AppLink.TheVariants.{Normal, Trouble, Recovery}
use Rattle.ecp_messages.specs.declared.front.Front.{Front}
use Rattle.ecp_messages.specs.declared.up.Up.{Up}
use Rattle.ecp_messages.specs.declared.up.Up.TheVariants.{Update}
use Rattle.ecp_messages.specs.declared.down.Down.{Down}
use Rattle.ecp_messages.specs.declared.down.DownFrame.{DownFrame}
use Rattle.app_job.specs.Sites.{Site}
use Rattle.app_job.specs.declared.reason.Reason.TheVariants as reasons
use Rattle.app_rules.specs.declared.app_outs.AppOuts.{AppOuts}
use Rattle.app_rules.specs.declared.up_frames.UpOut.{UpOut}
use Rattle.app_rules.specs.declared.line.Line.TheVariants.{Apart, Trying, Greeting, Asking, Joined}
use Rattle.app_rules.specs.AppState.{AppState, AppEnd, Session, no_end, no_session}
use Rattle.app_rules.specs.JobState.{JobState, no_job}

-- times of some ticks
abbrev pub times : Times
times = record { retry = 5; trouble = 60; recover = 100; round = 60 }

-- application server 1, whose one end is this
abbrev pub app_with : AppEnd → AppState
app_with e = record { app = 1; times = times; ends = e ∷ [] }

-- a frame from the data server
abbrev pub down : ℕ → ℕ → Down → DownFrame
down seq ack m = record { seq = seq; ack = ack; message = m }

-- a frame to it
abbrev pub up : ℕ → ℕ → Up → UpOut
up seq ack m = record { server = 0; up = record { seq = seq; ack = ack; message = m } }

-- what a step puts, for how many connections it asks, how many it ends, and what it writes
abbrev pub outs : List UpOut → List ℕ → List ℕ → List Act → AppOuts
outs frames connects cuts acts = record { frames = frames; connects = connects; cuts = cuts; acts = acts }

-- what a message tells of the list: its length, the session's count in it, and its count in the synced part
abbrev pub head : ℕ → ℕ → ℕ → Front
head n w s = record { n = n; w = w; s = s }

-- the node ^x at data server 0
abbrev pub x : Site
x = record { server = 0; node = record { name = 120 ∷ []; subs = [] }; key = 120 ∷ 0 ∷ [] }

-- a connection is tried, and there is no session
abbrev pub tried : AppEnd
tried = record no_end { line = Trying }

-- it is there, and its Hello is unanswered
abbrev pub greeting : AppEnd
greeting = record no_end { line = Greeting; dial = 1 }

-- session 2, of whose items none was issued
abbrev pub unused : Session
unused = record no_session { number = 2; epoch = 1; n = 2 }

-- an end with this of its session, whose connection is there
abbrev pub joined_with : Session → AppEnd
joined_with s = record no_end { link = Normal; line = Joined; dial = 1; told = 2; session = Some s }

-- the Welcome of session 2 was taken
abbrev pub joined : AppEnd
joined = joined_with unused

-- the Set of ^x to 5, as its message
abbrev pub set_x : Up
set_x = Update 1 0 0 (ops.Set (120 ∷ 0 ∷ []) (53 ∷ []))

-- it was issued, and is on its way
abbrev pub issued : Session
issued =
    record unused {
      window = record { acked = 0; waiting = set_x ∷ []; taken = 0; since = 0 };
      issued = 1;
      queue = record { w = 1; message = set_x; job = 0 } ∷ [];
      late = record { w = 1; job = 0; op = ops.Set (120 ∷ 0 ∷ []) (53 ∷ []) } ∷ [];
    }

-- the connection broke at 5
abbrev pub broken_with : Session → AppEnd
broken_with s = record (joined_with s) { link = Trouble 5 10; line = Apart }

-- another is there, and its Recover is unanswered
abbrev pub asking_with : Session → AppEnd
asking_with s = record (joined_with s) { link = Recovery; line = Asking; dial = 2 }

-- job 0 of this application server, which has used session 2
abbrev pub new_job : JobState
new_job = no_job 0 1 1

abbrev pub user : JobState
user = record new_job { used = Some 2 ∷ [] }

-- session 2 was lost at 105, since it was broken from 5 on
abbrev pub lost_end : AppEnd
lost_end =
    record no_end { dial = 1; told = 2; lost = record { session = 2; state = names.Trouble; reason = reasons.Expired 5 105 } ∷ [] }
