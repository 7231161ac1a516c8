-- What was given up of a session and isn't freed yet, by turn, and what is on its way to free it.
use Rattle.std.specs.Prelude.{◌≡◌, ℕ, zero, suc, Bool, true, false, ◌==◌, ◌&&◌, ◌||◌, max, not, List, [], ◌∷◌, ◌++◌, map, drop, filter, Option, Some, None}
use Rattle.std.specs.List.{list_any}
use Rattle.plain_orders.specs.declared.mode.Mode.{Mode}
use Rattle.plain_runs.specs.Plain.{Server, Hold, Given, Quitted}
use Rattle.plain_runs.specs.Holds.{binds}
use Rattle.plain_runs.specs.LockRows.{given_before}
use Rattle.lock_table.specs.LockWords.{is_ticket}
use Rattle.lock_table.specs.declared.rows.Request.{Request}
use Rattle.ecp_messages.specs.declared.up.Up.{Up}
use Rattle.ecp_messages.specs.declared.up.Up.TheVariants.{Ask, Cancel, Unlock}
use Rattle.cluster_runs.specs.Accounted.{w_of}
use Rattle.cluster_runs.specs.Locks.{ask_with}
use Rattle.cluster_runs.specs.Sent.{Lane, ups_taken}
use Rattle.cluster_invariant.specs.Asks.{asks_ticket, cancels_ticket}
use Rattle.cluster_promises.specs.Items.{greatest_of}

-- A lock of a job that was given up: whether before it was granted, and how many items were issued in its session before.
pub record Mark : Type 0 where
  pub job : ℕ
  pub mode : Mode
  pub key : List ℕ
  pub quit : Bool
  pub before : ℕ

-- at the plain server

-- it was given up at this turn
abbrev pub is_at_turn : ℕ → Option Given → Bool
is_at_turn t None = false
is_at_turn t (Some g) = g.turn == t

-- a hold in force of the session was
abbrev pub is_hold_at : ℕ → ℕ → Hold → Bool
is_hold_at session t h = binds h && (h.session == session && is_at_turn t h.given)

-- a request of the session was
abbrev pub is_quit_at : ℕ → ℕ → Quitted → Bool
is_quit_at session t q = q.session == session && q.given.turn == t

-- the mark of a hold
abbrev pub hold_mark : Hold → Mark
hold_mark h = record { job = h.job; mode = h.mode; key = h.key; quit = false; before = given_before h.given }

-- the mark of a request
abbrev pub quit_mark : Quitted → Mark
quit_mark q = record { job = q.job; mode = q.mode; key = q.key; quit = true; before = q.given.before }

-- what was given up in the session at this turn, and isn't freed
abbrev pub marks_at : Server → ℕ → ℕ → List Mark
marks_at v session t = map hold_mark (filter (is_hold_at session t) v.holds) ++ map quit_mark (filter (is_quit_at session t) v.quits)

-- at all turns below one
abbrev pub marks_below : Server → ℕ → ℕ → List Mark
marks_below v session zero = []
marks_below v session (suc t) = marks_below v session t ++ marks_at v session t

-- all of a session, by turn
abbrev pub marks_of : Server → ℕ → List Mark
marks_of v session = marks_below v session v.turns

-- on its way

-- an Ask of the session isn't granted: it wasn't taken, or it waits
abbrev pub is_pending : Lane → List Request → ℕ → ℕ → Bool
is_pending lane requests session ticket = list_any (asks_ticket ticket) (drop lane.up_taken lane.up) || list_any (is_ticket session ticket) requests

-- the mark of an Ask that is given up
abbrev pub ask_marks : Bool → ℕ → Up → List Mark
ask_marks quit before (Ask ticket job mode key) = record { job = job; mode = mode; key = key; quit = quit; before = before } ∷ []
ask_marks quit before m = []

-- the same, where there is one
abbrev pub ask_marks_if : Bool → ℕ → Option Up → List Mark
ask_marks_if quit before None = []
ask_marks_if quit before (Some m) = ask_marks quit before m

-- What a message frees, by all messages of its lane and by which of their Asks aren't granted, where so many items come before it.
abbrev pub word_of : List Up → (ℕ → Bool) → ℕ → Up → List Mark
word_of ups is_open before (Unlock job mode key) = record { job = job; mode = mode; key = key; quit = false; before = before } ∷ []
word_of ups is_open before (Cancel ticket) = ask_marks_if (is_open ticket) before (ask_with ticket ups)
word_of ups is_open before m = []

-- several messages
abbrev pub words_in : List Up → (ℕ → Bool) → ℕ → List Up → List Mark
words_in ups is_open before [] = []
words_in ups is_open before (m ∷ ms) = word_of ups is_open before m ++ words_in ups is_open (max before (w_of m)) ms

-- what the messages of a session free that weren't taken
abbrev pub words_of : Lane → List Request → ℕ → List Mark
words_of lane requests session =
    words_in lane.up (is_pending lane requests session) (greatest_of lane.front.w (ups_taken lane)) (drop lane.up_taken lane.up)

-- The Unlocks and Cancels on their way are what was given up, one by one: for the same lock of the same job, a request or a hold, and behind
-- the items that were issued before.
abbrev pub MarksAgree : Server → Lane → List Request → ℕ → Type 0
MarksAgree v lane requests session = words_of lane requests session ≡ marks_of v session

-- both give up the same request
abbrev pub is_same_cancel : Up → Up → Bool
is_same_cancel (Cancel ticket) m = cancels_ticket ticket m
is_same_cancel m n = false

-- no request is given up twice
abbrev pub cancels_once : List Up → Bool
cancels_once [] = true
cancels_once (m ∷ ms) = not (list_any (is_same_cancel m) ms) && cancels_once ms
