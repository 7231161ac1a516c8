-- What the ends of pairs put and took, as the bytes of a net tell it.
use Rattle.std.specs.Prelude.{All, is_some, ◌⊎◌, ◌≡◌, ◌≤◌, ℕ, Bool, true, false, ◌==◌, ◌&&◌, ◌+◌, ◌-◌, not, if◌then◌else◌, List, [], ◌∷◌, ◌++◌, length, map, take, slice_get, nat_lt, Option, Some, None}
use Rattle.std.specs.List.{filter, flat_map, list_any}
use Rattle.field_bytes.specs.Fields.{u32_bytes}
use Rattle.plain_orders.specs.declared.entry.Entry.{Entry}
use Rattle.plain_orders.specs.Entries.{last_epoch, closes}
use Rattle.plain_orders.specs.Sessions.{app_in}
use Rattle.ecp_messages.specs.declared.up.Up.{Up}
use Rattle.ecp_messages.specs.declared.up.Up.TheVariants as up
use Rattle.ecp_messages.specs.declared.up.UpFrame.{UpFrame}
use Rattle.ecp_messages.specs.declared.down.Down.{Down}
use Rattle.ecp_messages.specs.declared.down.Down.TheVariants as down
use Rattle.ecp_messages.specs.declared.down.DownFrame.{DownFrame}
use Rattle.ecp_messages.specs.declared.front.Front.{Front}
use Rattle.ecp_messages.specs.Ups.{up_frame_bytes}
use Rattle.ecp_messages.specs.Downs.{down_frame_bytes}
use Rattle.outer_link.specs.Told.{Told, ConnTold, is_of_pair}
use Rattle.outer_link.specs.Lines.{LineTold}
use Rattle.ecp_frames.specs.Reading.{frames_in}
use Rattle.app_rules.specs.Welcoming.{greatest}
use Rattle.plain_runs.specs.Plain.{Plain, order_at}
use Rattle.cluster_runs.specs.Written.{order_places, count_of}
use Rattle.cluster_runs.specs.Accounted.{head_in}
use Rattle.cluster_runs.specs.WireAnswers.{is_same_welcome}
use Rattle.cluster_runs.specs.Sent.{Sent, Lane, Place, Connection, Welcomed, connections_of}

-- the first list is the front of the second
abbrev pub IsFront : {X : Type 0} → List X → List X → Type 0
IsFront {X} xs ys = (rest : List X) × (ys ≡ xs ++ rest)

-- a frame's bytes with their length ahead
abbrev pub with_length : List ℕ → List ℕ
with_length body = u32_bytes (length body) ++ body

-- One direction: what was put is a front of the frames' bytes, and the frames that were taken are the first of those whose bytes were taken.
pub record IsDirection (line : LineTold) (bodies : List (List ℕ)) (taken : ℕ) : Type 0 where
  pub put : IsFront line.put (flat_map with_length bodies)
  pub took : IsFront (take taken bodies) (frames_in (take line.taken line.put))

-- A connection. All frames of an end are put where the connection isn't cut, this end hasn't left it, and the net holds nothing back.
pub record IsConnection (told : ConnTold) (c : Connection) (holds_back : Bool) : Type 0 where
  pub up : IsDirection told.lines.from_app (map up_frame_bytes c.ups) c.ups_taken
  pub down : IsDirection told.lines.from_server (map down_frame_bytes c.downs) c.downs_taken
  pub all_up : holds_back ≡ false → told.is_cut ≡ false → c.app_left ≡ false → told.lines.from_app.put ≡ flat_map with_length (map up_frame_bytes c.ups)
  pub all_down : holds_back ≡ false → told.is_cut ≡ false → c.data_left ≡ false → told.lines.from_server.put ≡ flat_map with_length (map down_frame_bytes c.downs)

-- the numbered messages among some frames, each at its first coming, so many having come before
abbrev pub ups_from : ℕ → List UpFrame → List Up
ups_from n [] = []
ups_from n (f ∷ fs) = if f.seq == n + 1 then f.message ∷ ups_from (n + 1) fs else ups_from n fs

-- the same downwards
abbrev pub downs_from : ℕ → List DownFrame → List Down
downs_from n [] = []
downs_from n (f ∷ fs) = if f.seq == n + 1 then f.message ∷ downs_from (n + 1) fs else downs_from n fs

-- it is of this session and order
abbrev pub is_place : ℕ → ℕ → Option Place → Bool
is_place session k None = false
is_place session k (Some x) = x.session == session && x.order == k

-- the connections that carry a lane's messages
abbrev pub carries : ℕ → ℕ → Option Connection → Bool
carries session k None = false
carries session k (Some c) = is_place session k c.its

-- the frames that were put upwards on a connection, if it was made
abbrev pub ups_put : Option Connection → List UpFrame
ups_put None = []
ups_put (Some c) = c.ups

-- those of them that were taken
abbrev pub ups_came : Option Connection → List UpFrame
ups_came None = []
ups_came (Some c) = take c.ups_taken c.ups

-- the frames that were put downwards on it
abbrev pub downs_put : Option Connection → List DownFrame
downs_put None = []
downs_put (Some c) = c.downs

-- those of them that were taken
abbrev pub downs_came : Option Connection → List DownFrame
downs_came None = []
downs_came (Some c) = take c.downs_taken c.downs

-- a message upwards is an acknowledgement by itself
abbrev pub says_bare_up : Up → Bool
says_bare_up up.Bare = true
says_bare_up m = false

-- a frame with one
abbrev pub is_bare_up : UpFrame → Bool
is_bare_up f = says_bare_up f.message

-- a message downwards is an acknowledgement by itself
abbrev pub says_bare_down : Down → Bool
says_bare_down down.Bare = true
says_bare_down m = false

-- a frame with one
abbrev pub is_bare_down : DownFrame → Bool
is_bare_down f = says_bare_down f.message

-- the front of a message, where it is a Welcome
abbrev pub front_said : Down → List Front
front_said (down.Welcome session epoch kept front taken) = front ∷ []
front_said m = []

-- the same of a frame
abbrev pub front_in : DownFrame → List Front
front_in f = front_said f.message

-- a frame upwards has a number
abbrev pub is_numbered_up : UpFrame → Bool
is_numbered_up f = nat_lt 0 f.seq

-- a frame downwards has a number
abbrev pub is_numbered_down : DownFrame → Bool
is_numbered_down f = nat_lt 0 f.seq

-- a frame with a number has the message that stands there in a list, the first being 1
abbrev pub IsUpOf : List Up → UpFrame → Type 0
IsUpOf ms f = is_numbered_up f ≡ true → slice_get ms (f.seq - 1) ≡ Some f.message

-- the same downwards
abbrev pub IsDownOf : List Down → DownFrame → Type 0
IsDownOf ms f = is_numbered_down f ≡ true → slice_get ms (f.seq - 1) ≡ Some f.message

-- a head's n is below the greatest u64
abbrev pub is_below : Option Front → Bool
is_below None = true
is_below (Some f) = nat_lt f.n greatest

-- a message downwards isn't stray for its n
abbrev pub may_be_taken : Down → Bool
may_be_taken m = is_below (head_in m)

-- the application end keeps the last of some connections
abbrev pub app_keeps_last : List (Option Connection) → Bool
app_keeps_last [] = false
app_keeps_last (None ∷ []) = false
app_keeps_last (Some c ∷ []) = not c.app_left
app_keeps_last (c ∷ d ∷ cs) = app_keeps_last (d ∷ cs)

-- the data end keeps it
abbrev pub data_keeps_last : List (Option Connection) → Bool
data_keeps_last [] = false
data_keeps_last (None ∷ []) = false
data_keeps_last (Some c ∷ []) = not c.data_left
data_keeps_last (c ∷ d ∷ cs) = data_keeps_last (d ∷ cs)

-- A lane over the connections that carry it, in their order: what was first put on them is a front of the lane's messages, all of them where
-- this end keeps the last connection, and each number has the lane's message, also where it is put again. What the application end took is what came, but for a message whose n is the greatest
-- u64. What the data end took is what came until a Close of the session, so all of it where the order has none.
pub record IsLane (order : List Entry) (session : ℕ) (x : Lane) (its : List (Option Connection)) : Type 0 where
  pub ups : IsFront (ups_from 0 (flat_map ups_put its)) x.up
  pub downs : IsFront (downs_from 0 (flat_map downs_put its)) x.down
  pub all_ups : app_keeps_last its ≡ true → ups_from 0 (flat_map ups_put its) ≡ x.up
  pub all_downs : data_keeps_last its ≡ true → downs_from 0 (flat_map downs_put its) ≡ x.down
  pub each_up : All (IsUpOf x.up) (flat_map ups_put its)
  pub each_down : All (IsDownOf x.down) (flat_map downs_put its)
  pub ups_taken : IsFront (take x.up_taken x.up) (ups_from 0 (flat_map ups_came its))
  pub all_ups_taken : list_any (closes session) order ≡ false → take x.up_taken x.up ≡ ups_from 0 (flat_map ups_came its)
  pub downs_taken : take x.down_taken x.down ≡ filter may_be_taken (downs_from 0 (flat_map downs_came its))
  pub within : (x.up_taken ≤ length x.up) × (x.down_taken ≤ length x.down)
  -- acknowledgements by themselves are counted
  pub up_bares : count_of is_bare_up (flat_map ups_put its) ≤ x.up_bares
  pub down_bares : count_of is_bare_down (flat_map downs_put its) ≤ x.down_bares
  -- what is put upwards comes after the Welcome that began it, whose front it has
  pub began : (x.up ≡ []) ⊎ (slice_get (flat_map front_in (flat_map downs_came its)) 0 ≡ Some x.front)

-- a message is a Welcome of this session and epoch
abbrev pub says_welcome : ℕ → ℕ → Down → Bool
says_welcome session epoch (down.Welcome s e kept front taken) = s == session && e == epoch
says_welcome session epoch m = false

-- a Welcome of this session and epoch
abbrev pub is_welcome_of : ℕ → ℕ → DownFrame → Bool
is_welcome_of session epoch f = says_welcome session epoch f.message

-- no numbered message was put on it
pub record IsUnnumbered (c : Connection) : Type 0 where
  pub ups : list_any is_numbered_up c.ups ≡ false
  pub downs : list_any is_numbered_down c.downs ≡ false

-- the first of some frames is a Welcome of this session and epoch
abbrev pub begins_with_welcome : ℕ → ℕ → List DownFrame → Bool
begins_with_welcome session epoch [] = false
begins_with_welcome session epoch (f ∷ fs) = is_welcome_of session epoch f

-- A connection carries the messages of the session and the epoch that its Welcome says, which is put before all else, and none without a
-- Welcome.
abbrev pub ItsIs : Plain → ℕ → Connection → Option Place → Type 0
ItsIs p server c None = IsUnnumbered c
ItsIs p server c (Some x) = begins_with_welcome x.session (last_epoch (order_at (p.server_at server) x.order)) c.downs ≡ true

-- the n-th connection that a net made between a pair
abbrev pub told_at : Told → ℕ → ℕ → ℕ → Option ConnTold
told_at net app server n = slice_get (filter (is_of_pair app server) net.conns) (n - 1)

-- the connection of this number is the net's
pub record IsNumbered (p : Plain) (net : Told) (holds_back : Bool) (app server n : ℕ) (c : Connection) : Type 0 where
  pub told : ConnTold
  pub there : told_at net app server n ≡ Some told
  pub carried : IsConnection told c holds_back
  pub its : ItsIs p server c c.its

-- the same, where the connection was made
abbrev pub IfNumbered : Plain → Told → Bool → ℕ → ℕ → ℕ → Option Connection → Type 0
IfNumbered p net holds_back app server n None = Unit {0}
IfNumbered p net holds_back app server n (Some c) = IsNumbered p net holds_back app server n c

-- the connections that carry a session's messages in an order
abbrev pub carriers : Sent → Option ℕ → ℕ → ℕ → ℕ → List (Option Connection)
carriers sent None server session k = []
carriers sent (Some app) server session k = filter (carries session k) (connections_of sent app server)

-- a message is a Hello
abbrev pub says_hello : Up → Bool
says_hello (up.Hello app dial) = true
says_hello m = false

-- a frame with a Hello
abbrev pub is_hello : UpFrame → Bool
is_hello f = says_hello f.message

-- the Hellos that were taken from an application server, in all orders
abbrev pub hellos_in : Sent → ℕ → ℕ → List ℕ → ℕ
hellos_in sent server app [] = 0
hellos_in sent server app (k ∷ ks) = sent.hellos_at server k app + hellos_in sent server app ks

-- what a message says, where it is a Welcome
abbrev pub welcome_said : Down → List Welcomed
welcome_said (down.Welcome session epoch kept front taken) = record { session = session; epoch = epoch; kept = kept } ∷ []
welcome_said m = []

-- the same of a frame
abbrev pub welcome_in : DownFrame → List Welcomed
welcome_in f = welcome_said f.message

-- What was put and taken is what the net's bytes tell. A net that holds nothing back has all that was put on a connection that both ends keep.
pub record IsCarried (p : Plain) (sent : Sent) (net : Told) (holds_back : Bool) : Type 0 where
  -- each connection that the net made between a pair is there, by its number
  pub all : (app server : ℕ) → sent.dials_at app server ≡ length (filter (is_of_pair app server) net.conns)
  pub each : (app server n : ℕ) → 1 ≤ n → n ≤ sent.dials_at app server → is_some (sent.connection_at app server n) ≡ true
  pub connections : (app server n : ℕ) → IfNumbered p net holds_back app server n (sent.connection_at app server n)
  pub lanes : (server session k : ℕ) → IsLane (order_at (p.server_at server) k) session (sent.lane_at server session k)
      (carriers sent (app_in (order_at (p.server_at server) k) session) server session k)
  pub hellos : (app server : ℕ) → hellos_in sent server app (order_places p server) ≤ count_of is_hello (flat_map ups_came (connections_of sent app server))
  pub welcomes : (app server : ℕ) (x : Welcomed)
      → count_of (is_same_welcome x) (sent.welcomes_at app server)
      ≤ count_of (is_same_welcome x) (flat_map welcome_in (flat_map downs_came (connections_of sent app server)))
