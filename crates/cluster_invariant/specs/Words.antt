-- The words of the invariant: what is on its way, how much of an order is known to stay, and the connection that an application end has.
use Rattle.std.specs.Prelude.{◌≡◌, ◌<◌, ◌≤◌, ◌⊎◌, ◌+◌, ◌-◌, ◌==◌, ◌&&◌, ⊤, ℕ, Bool, true, false, if◌then◌else◌, not, List, [], ◌∷◌, ◌++◌, drop, nat_lt, Option, Some, None, is_some}
use Rattle.std.specs.List.{list_any}
use Rattle.plain_orders.specs.declared.entry.Entry.{Entry}
use Rattle.plain_runs.specs.Plain.{Server, current, order_at}
use Rattle.ecp_messages.specs.declared.up.Up.{Up}
use Rattle.ecp_messages.specs.declared.up.UpFrame.{UpFrame}
use Rattle.ecp_messages.specs.declared.down.Down.{Down}
use Rattle.ecp_messages.specs.declared.down.Down.TheVariants.{Reset, Normal}
use Rattle.ecp_messages.specs.declared.down.DownFrame.{DownFrame}
use Rattle.app_rules.specs.declared.line.Line.{Line}
use Rattle.app_rules.specs.declared.line.Line.TheVariants.{Apart, Trying, Greeting, Asking, Joined}
use Rattle.app_rules.specs.AppState.{AppEnd, Session}
use Rattle.data_rules.specs.Places.{epoch_place}
use Rattle.end_words.specs.Windows.{numbered_from}
use Rattle.cluster_runs.specs.Sent.{Connection, Lane, Knew, Mark}

-- The entries of an order that stay: of the current one those that are synced, of an earlier one those that the next kept.
abbrev pub stays_at : Server → ℕ → ℕ
stays_at v k = if k == current v then v.synced else epoch_place (order_at v (k + 1)) - 1

-- the session's Open stands behind the last Epoch of its order
abbrev pub is_opened_in : List Entry → ℕ → Bool
is_opened_in es session = nat_lt (epoch_place es) session

-- the first list is the front of the second
abbrev pub IsFront : {X : Type 0} → List X → List X → Type 0
IsFront {X} xs ys = (rest : List X) × (ys ≡ xs ++ rest)

-- the frames upwards that weren't taken
abbrev pub ups_left : Connection → List UpFrame
ups_left c = drop c.ups_taken c.ups

-- the frames downwards that weren't taken
abbrev pub downs_left : Connection → List DownFrame
downs_left c = drop c.downs_taken c.downs

-- the numbered messages among frames, with their numbers
abbrev pub numbered_ups : List UpFrame → List (ℕ × Up)
numbered_ups [] = []
numbered_ups (f ∷ fs) = if f.seq == 0 then numbered_ups fs else (f.seq, f.message) ∷ numbered_ups fs

-- the same downwards
abbrev pub numbered_downs : List DownFrame → List (ℕ × Down)
numbered_downs [] = []
numbered_downs (f ∷ fs) = if f.seq == 0 then numbered_downs fs else (f.seq, f.message) ∷ numbered_downs fs

-- a message is a Normal
abbrev pub is_normal_down : Down → Bool
is_normal_down (Normal front) = true
is_normal_down m = false

-- a message is a Reset
abbrev pub is_reset_down : Down → Bool
is_reset_down (Reset session at) = true
is_reset_down m = false

-- a frame with one
abbrev pub is_reset_frame : DownFrame → Bool
is_reset_frame f = is_reset_down f.message

-- the messages behind the first n, with their numbers
abbrev pub numbered_behind : {M : Type 0} → ℕ → List M → List (ℕ × M)
numbered_behind n ms = numbered_from n (drop n ms)

-- the application end has a connection
abbrev pub has_wire : Line → Bool
has_wire Apart = false
has_wire Trying = false
has_wire Greeting = true
has_wire Asking = true
has_wire Joined = true

-- the number of the connection that an application end has
abbrev pub wire_of : AppEnd → Option ℕ
wire_of e = if has_wire e.line then Some e.dial else None

-- it is the connection that a living application end has
abbrev pub is_wire : Bool → AppEnd → ℕ → Bool
is_wire dead e number = if dead then false else (if has_wire e.line then number == e.dial else false)

-- the application server knows of the session's order
abbrev pub is_begun : Lane → Bool
is_begun x = is_some x.began

-- the session has this number
abbrev pub is_number : ℕ → Option Session → Bool
is_number number None = false
is_number number (Some s) = s.number == number

-- the same number
abbrev pub is_same : ℕ → ℕ → Bool
is_same n m = n == m

-- each number comes once
abbrev pub all_differ : List ℕ → Bool
all_differ [] = true
all_differ (n ∷ ns) = not (list_any (is_same n) ns) && all_differ ns

-- the greater of two that are compared by their order first
abbrev pub MarkNoLess : Option Mark → Option Mark → Type 0
MarkNoLess None None = ⊤
MarkNoLess (Some a) None = ⊤
MarkNoLess None (Some b) = ⊥
MarkNoLess (Some a) (Some b) = (a.order < b.order) ⊎ ((a.order ≡ b.order) × (a.taken ≤ b.taken))

-- What was known first isn't more than what was known then: by the session, the order and the count of messages taken; without a session
-- it stands behind all of the greatest one that was told.
abbrev pub NoLess : Knew → Knew → Type 0
NoLess a b = (a.session < b.session) ⊎ ((a.session ≡ b.session) × MarkNoLess a.mark b.mark)
