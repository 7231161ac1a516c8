-- Laws over every run of the plain machine, on its holds and on what was given up.
use Rattle.std.specs.Prelude.{◌≡◌, ◌⊎◌, ℕ, true, false, ◌<◌, ◌≤◌, List, [], ◌∷◌, ◌++◌, length, take, map, Option, Some, None, slice_get, is_some}
use Rattle.std.specs.Prelude.{◌≢◌, nat_eq, IfSome, IsSomeAnd}
use Rattle.std.specs.List.{flat_map, AllByRecursion, IsDistinct}
use Rattle.plain_orders.specs.declared.act.Act.{Act}
use Rattle.plain_orders.specs.declared.entry.Entry.{Entry}
use Rattle.plain_orders.specs.declared.entry.Entry.TheVariants.{Opened}
use Rattle.plain_orders.specs.declared.layout.Layout.{Layout}
use Rattle.plain_orders.specs.Entries.{closed_by, entry_at}
use Rattle.plain_runs.specs.Plain.{Server, Hold, Given, Quitted, issued_in}
use Rattle.plain_runs.specs.Holds.{is_sent, touched}
use Rattle.plain_runs.specs.Items.{all_stand}
use Rattle.plain_runs.specs.Run.{IsRun}
use Rattle.plain_runs.specs.Laws.{IsHold, server_after}

-- what is said of each data server after each run
abbrev pub EachServer : (Server → Type 0) → Type 0
EachServer P = (layout : Layout) (acts : List Act) (d : ℕ) → IsRun layout acts → P (server_after layout acts d)

-- what is said of each of its holds
abbrev pub EachHold : (Server → Hold → Type 0) → Type 0
EachHold P = EachServer (λ v. (i : ℕ) (h : Hold) → IsHold v i h → P v h)

-- what is said of each request there that was given up before it was granted
abbrev pub EachQuit : (Server → Quitted → Type 0) → Type 0
EachQuit P = EachServer (λ v. (i : ℕ) (q : Quitted) → slice_get v.quits i ≡ Some q → P v q)

-- holds

-- The session of a hold that was answered or given up was met.
abbrev pub TouchedIsMet : Server → Hold → Type 0
TouchedIsMet v h = touched h ≡ true → is_some (v.session_at h.session) ≡ true

-- The number of an answered hold is synced.
abbrev pub AnsweredIsSynced : Server → Hold → Type 0
AnsweredIsSynced v h = h.answered ≡ true → h.at ≤ v.synced

-- a session's Open stands at the session's number, and another number is within the order and no lower
pub record IsBehindOpen (es : List Entry) (session at : ℕ) : Type 0 where
  pub app : ℕ
  pub opened : entry_at es session ≡ Some (Opened session app)
  pub behind : session ≤ at
  pub within : at ≤ length es

-- The number of a sent hold is such a one.
abbrev pub SentIsBehindOpen : Server → Hold → Type 0
SentIsBehindOpen v h = is_sent h ≡ true → IsBehindOpen v.order h.session h.at

-- Where a hold was given up, no more was issued in its session before than in all.
abbrev pub GivenIsIssued : Server → Hold → Type 0
GivenIsIssued v h = IfSome h.given (λ (g : Given). g.before ≤ length (issued_in v h.session))

-- Where a hold is there and no longer in force, a Close of its session is synced.
abbrev pub ReleasedIsClosed : Server → Hold → Type 0
ReleasedIsClosed v h = h.in_force ≡ false → h.gone ≡ false → closed_by v.order h.session v.synced ≡ true

-- A hold that is gone and was answered was given up.
abbrev pub GoneIsGiven : Server → Hold → Type 0
GoneIsGiven v h = h.gone ≡ true → h.answered ≡ true → is_some h.given ≡ true

-- A Close of the hold's session is synced, or it was given up and all that its job issued in its session before stands in the order.
abbrev pub IsOver : Server → Hold → Type 0
IsOver v h =
    (closed_by v.order h.session v.synced ≡ true)
    ⊎ IsSomeAnd h.given (λ (g : Given). all_stand v.order h.session h.job 0 (take g.before (issued_in v h.session)) ≡ true)

-- While no round is due, this is so of each hold that is gone and was answered or given up.
abbrev pub GoneIsOver : Server → Hold → Type 0
GoneIsOver v h = v.due ≡ None → h.gone ≡ true → touched h ≡ true → IsOver v h

-- requests that were given up

-- The session of one was met.
abbrev pub QuitIsMet : Server → Quitted → Type 0
QuitIsMet v q = is_some (v.session_at q.session) ≡ true

-- No more was issued in it before than in all.
abbrev pub QuitIsIssued : Server → Quitted → Type 0
QuitIsIssued v q = q.given.before ≤ length (issued_in v q.session)

-- turns

-- the turn of what was given up
abbrev pub turn_in : Option Given → List ℕ
turn_in None = []
turn_in (Some g) = g.turn ∷ []

-- the turns of holds
abbrev pub hold_turns : List Hold → List ℕ
hold_turns hs = flat_map (λ (h : Hold). turn_in h.given) hs

-- the turns of requests
abbrev pub quit_turns : List Quitted → List ℕ
quit_turns qs = map (λ (q : Quitted). q.given.turn) qs

-- the turns of all that was given up
abbrev pub turns_given : Server → List ℕ
turns_given v = hold_turns v.holds ++ quit_turns v.quits

-- Each of them came before the turn that is next.
abbrev pub TurnsAreBelow : Server → Type 0
TurnsAreBelow v = AllByRecursion (λ n. n < v.turns) (turns_given v)

-- No two of them are the same.
abbrev pub TurnsDiffer : Server → Type 0
TurnsDiffer v = IsDistinct nat_eq (turns_given v)

-- So the turn of a hold or of a request tells its place, and whether it is a hold.
pub record TurnsTell (v : Server) : Type 0 where
  pub holds : (i j : ℕ) (h k : Hold) (g o : Given) → IsHold v i h → IsHold v j k → h.given ≡ Some g → k.given ≡ Some o → g.turn ≡ o.turn → i ≡ j
  pub quits : (i j : ℕ) (q r : Quitted) → slice_get v.quits i ≡ Some q → slice_get v.quits j ≡ Some r → q.given.turn ≡ r.given.turn → i ≡ j
  pub apart : (i j : ℕ) (h : Hold) (g : Given) (q : Quitted) → IsHold v i h → h.given ≡ Some g → slice_get v.quits j ≡ Some q → g.turn ≢ q.given.turn

-- Requests that were given up stand in the order of their turns.
abbrev pub QuitsInOrder : Server → Type 0
QuitsInOrder v = (i j : ℕ) (q r : Quitted) → slice_get v.quits i ≡ Some q → slice_get v.quits j ≡ Some r → i < j → q.given.turn < r.given.turn
