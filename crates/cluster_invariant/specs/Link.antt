-- What is on its way between the two ends of each session, in each of its orders.
use Rattle.std.specs.Prelude.{◌≡◌, ◌≢◌, ◌<◌, ◌≤◌, ◌⊎◌, ◌+◌, ⊤, ℕ, Bool, true, false, ◌==◌, ◌&&◌, List, [], ◌∷◌, ◌++◌, map, drop, take, length, nat_lt, Option, Some, None, is_some, IfSome, IsSomeAnd}
use Rattle.std.specs.List.{list_any, list_all, flat_map, AllByRecursion}
use Rattle.plain_orders.specs.declared.entry.Entry.{Entry}
use Rattle.plain_orders.specs.declared.entry.Entry.TheVariants.{Opened, Closed}
use Rattle.plain_orders.specs.Entries.{count, live, entry_at, last_epoch}
use Rattle.plain_orders.specs.Sessions.{place_of_epoch}
use Rattle.plain_runs.specs.Plain.{Server, current, order_at}
use Rattle.link_states.specs.declared.app_link.AppLink.{AppLink}
use Rattle.link_states.specs.declared.app_link.AppLink.TheVariants.{NotConnected, Normal as NormalLink, Trouble, Recovery}
use Rattle.ecp_messages.specs.declared.up.Up.{Up}
use Rattle.ecp_messages.specs.declared.up.UpFrame.{UpFrame}
use Rattle.ecp_messages.specs.declared.down.Down.{Down}
use Rattle.ecp_messages.specs.declared.down.Down.TheVariants.{Welcome, Reset, Block, Drop, Ack, Grant, Answer, Normal, Bare}
use Rattle.ecp_messages.specs.declared.down.DownFrame.{DownFrame}
use Rattle.ecp_messages.specs.declared.front.Front.{Front}
use Rattle.end_words.specs.Windows.{Window}
use Rattle.app_rules.specs.declared.line.Line.{Line}
use Rattle.app_rules.specs.declared.line.Line.TheVariants.{Apart, Trying, Greeting, Asking, Joined}
use Rattle.app_rules.specs.AppState.{AppEnd, Session}
use Rattle.app_rules.specs.Works.{is_joined}
use Rattle.data_rules.specs.DataState.{DataState, SessionWindow}
use Rattle.data_rules.specs.declared.rows.Role.TheVariants.{Bound, Closing}
use Rattle.data_rules.specs.Conns.{role_of}
use Rattle.data_rules.specs.Frames.{kind_of}
use Rattle.data_rules.specs.Places.{epoch_place}
use Rattle.data_rules.specs.Puts.{window_of}
use Rattle.cluster_runs.specs.CoresState.{Linked}
use Rattle.cluster_runs.specs.Sent.{Lane, Place, Connection}
use Rattle.cluster_runs.specs.Machine.{Site, End}
use Rattle.cluster_runs.specs.Connections.{link_of}
use Rattle.cluster_invariant.specs.Coherence.{IsHeader}
use Rattle.cluster_invariant.specs.Dials.{follows}
use Rattle.cluster_invariant.specs.Served.{NodeServes}
use Rattle.cluster_invariant.specs.Waiting.{ReplyWaits, conns_in}
use Rattle.cluster_invariant.specs.Words.{IsFront, ups_left, downs_left, numbered_ups, numbered_downs, numbered_behind, is_wire, is_number, is_normal_down, all_differ, stays_at}

-- the two windows of a session in an order

-- a number, and only what has one
abbrev pub fits_down : Down → ℕ → Bool
fits_down (Welcome session epoch kept front taken) seq = false
fits_down (Reset session at) seq = false
fits_down (Block front block) seq = nat_lt 0 seq
fits_down (Drop front lo hi) seq = nat_lt 0 seq
fits_down (Ack front) seq = nat_lt 0 seq
fits_down (Grant front ticket at) seq = nat_lt 0 seq
fits_down (Answer front about job number at sum) seq = nat_lt 0 seq
fits_down (Normal front) seq = nat_lt 0 seq
fits_down Bare seq = seq == 0

-- it has a number
abbrev pub is_numbered_down : Down → Bool
is_numbered_down m = fits_down m 1

-- likewise
abbrev pub is_numbered_up : Up → Bool
is_numbered_up m = follows (kind_of m) 1

-- What was taken was put, and is of those messages that have numbers; and of an order that the application server didn't learn of nothing
-- was put.
pub record LaneCounts (x : Lane) : Type 0 where
  pub up_taken : x.up_taken ≤ length x.up
  pub down_taken : x.down_taken ≤ length x.down
  pub no_up : x.began ≡ None → x.up ≡ []
  pub no_down : x.began ≡ None → x.down ≡ []
  pub ups : list_all is_numbered_up x.up ≡ true
  pub downs : list_all is_numbered_down x.down ≡ true

-- A window keeps what it was given behind what is acknowledged, which the other end took, and counts what was taken.
pub record WindowIs {M : Type 0} (w : Window M) (put : List M) (reached came : ℕ) : Type 0 where
  pub waiting : w.waiting ≡ drop w.acked put
  pub acked : w.acked ≤ reached
  pub taken : w.taken ≡ came

-- the session has a window in this epoch
abbrev pub is_window_of : ℕ → SessionWindow → Bool
is_window_of session w = w.session == session

-- whose a window is
abbrev pub whose : SessionWindow → ℕ
whose w = w.session

-- the windows of a running node
pub record NodeWindows (x : Site) (n : DataState) : Type 0 where
  -- each is of a live session
  pub differ : all_differ (map whose n.windows) ≡ true
  pub lives : (session : ℕ) → list_any (is_window_of session) n.windows ≡ true → live n.order session ≡ true
  -- a live session's is as its lane is
  pub each : (session : ℕ) → live n.order session ≡ true
      → WindowIs (window_of n session) (x.lane_at session x.past).down (x.lane_at session x.past).down_taken (x.lane_at session x.past).up_taken
  -- one without a window didn't learn of this order
  pub none : (session : ℕ) → live n.order session ≡ true → list_any (is_window_of session) n.windows ≡ false → (x.lane_at session x.past).began ≡ None

-- upwards

-- What is on its way upwards on the connection of a live session: the next messages, and all of them where the other end has this connection.
pub record UpWay (lane : Lane) (left : List UpFrame) (is_whole : Bool) : Type 0 where
  pub none : lane.began ≡ None → left ≡ []
  pub next : IsFront (numbered_ups left) (numbered_behind lane.up_taken lane.up)
  pub whole : is_whole ≡ true → numbered_ups left ≡ numbered_behind lane.up_taken lane.up
  pub acks : AllByRecursion (λ f. f.ack ≤ lane.down_taken) left

-- a living application end has this connection, its Welcome came, and it is the session's
abbrev pub is_joined_on : Bool → AppEnd → ℕ → ℕ → Bool
is_joined_on is_dead e number session = is_wire is_dead e number && is_joined e.line && is_number session e.session

-- on a connection that was made
abbrev pub UpWayOn : Lane → Bool → AppEnd → ℕ → ℕ → Connection → Type 0
UpWayOn lane is_dead e number session c = UpWay lane (ups_left c) (is_joined_on is_dead e number session)

-- on the connection that a data connection is linked to
abbrev pub UpWayBy : Site → (ℕ → Bool) → ℕ → Linked → Type 0
UpWayBy x is_dead session l =
    IfSome ((x.end_at l.app).connection_at l.dial) (UpWayOn (x.lane_at session x.past) (is_dead l.app) (x.end_at l.app).state l.dial session)

-- downwards

-- a frame of a session: a numbered message, or an acknowledgement by itself
abbrev pub is_of_session : DownFrame → Bool
is_of_session f = fits_down f.message f.seq

-- a frame with one
abbrev pub is_normal_frame : DownFrame → Bool
is_normal_frame f = is_normal_down f.message

-- a message is the Reset of a session whose Close stays in the order
abbrev pub ResetIs : List Entry → ℕ → ℕ → Down → Type 0
ResetIs es stays session (Reset s at) = (s ≡ session) × (at ≤ stays) × (entry_at es at ≡ Some (Closed session))
ResetIs es stays session m = ⊥

-- the application end would take a Reset
abbrev pub is_in_recovery : AppLink → Bool
is_in_recovery NotConnected = false
is_in_recovery NormalLink = false
is_in_recovery (Trouble broke try_at) = false
is_in_recovery Recovery = true

-- What ends the frames of a session: nothing, or its Reset, which comes while the end is in recovery.
abbrev pub EndsWith : Bool → List Entry → ℕ → ℕ → List DownFrame → Type 0
EndsWith may es stays session [] = ⊤
EndsWith may es stays session (f ∷ []) = (may ≡ true) × ResetIs es stays session f.message
EndsWith may es stays session (f ∷ g ∷ fs) = ⊥

-- The frames of a session in one order behind its Welcome: the next messages, and then a Reset or none.
pub record DownWay (es : List Entry) (stays session : ℕ) (lane : Lane) (may_reset : Bool) (left : List DownFrame) : Type 0 where
  pub its : List DownFrame
  pub ends : List DownFrame
  pub all : left ≡ its ++ ends
  pub kinds : list_all is_of_session its ≡ true
  pub next : IsFront (numbered_downs its) (numbered_behind lane.down_taken lane.down)
  pub acks : AllByRecursion (λ f. f.ack ≤ lane.up_taken) its
  pub reset : EndsWith may_reset es stays session ends
  -- no Normal comes before a Reset
  pub no_normal : ends ≢ [] → list_any is_normal_frame its ≡ false

-- Where the data end has the connection too, in the same order: a live session is bound to it, and all its messages are on their way, also
-- those of a session that was closed since.
pub record DownWhole (n : DataState) (session conn : ℕ) (lane : Lane) (left : List DownFrame) : Type 0 where
  pub bound : live n.order session ≡ true → role_of n conn ≡ Some (Bound session)
  pub whole : numbered_downs left ≡ numbered_behind lane.down_taken lane.down
  pub closed : live n.order session ≡ false → role_of n conn ≡ Some (Closing session)

-- the same, for the connection on which the first frame was taken, if the data server runs and has it
abbrev pub WholeIf : Site → ℕ → ℕ → Lane → Connection → List DownFrame → Type 0
WholeIf x session k lane c left =
    c.data_left ≡ false → k ≡ x.past → IfSome x.node (λ n. IsSomeAnd c.first (λ f. DownWhole n session f.conn lane left))

-- A Welcome that came.
pub record JoinedWay (v : Server) (x : Site) (e : AppEnd) (s : Session) (k : ℕ) (c : Connection) : Type 0 where
  pub its : c.its ≡ Some (record { session = s.number; order = k })
  pub way : DownWay (order_at v k) (stays_at v k) s.number (x.lane_at s.number k) (is_in_recovery e.link) (downs_left c)
  pub whole : WholeIf x s.number k (x.lane_at s.number k) c (downs_left c)

-- A Welcome in the epoch that was told.
pub record SameWelcome (v : Server) (x : Site) (s : Session) (k : ℕ) (c : Connection) (session epoch : ℕ) (front : Front) (taken : ℕ) (behind : List DownFrame) : Type 0 where
  pub its : c.its ≡ Some (record { session = s.number; order = k })
  pub number : session ≡ s.number
  pub epoch_told : epoch ≡ s.epoch
  pub counted : taken ≡ (x.lane_at session k).up_taken
  pub synced : front.s ≤ count (take (stays_at v k) (order_at v k)) session
  pub way : DownWay (order_at v k) (stays_at v k) session (x.lane_at session k) s.normal_due behind
  pub whole : WholeIf x session k (x.lane_at session k) c behind
  -- a Normal is behind it only where it is awaited
  pub awaited : s.normal_due ≡ false → list_any is_normal_frame behind ≡ false

-- What a Welcome of a new epoch says: the whole count, and the place where the old order was left.
pub record SaysEpoch (v : Server) (session k j epoch kept : ℕ) (front : Front) : Type 0 where
  pub later : k < j
  pub there : j ≤ current v
  pub its_epoch : epoch ≡ last_epoch (order_at v j)
  pub stays : epoch_place (order_at v j) ≤ stays_at v j
  -- no later order has that number
  pub only : (i : ℕ) → j < i → i ≤ current v → epoch < last_epoch (order_at v i)
  pub place : place_of_epoch (last_epoch (order_at v k)) 0 (order_at v j) ≡ Some kept
  pub kept_more : stays_at v k ≤ kept
  pub kept_less : kept + 1 ≤ front.n
  pub header : IsHeader (order_at v j) (stays_at v j) session front
  pub counted : front.w ≡ count (order_at v j) session

-- A Welcome of a new epoch.
pub record EpochWelcomeOn (v : Server) (x : Site) (s : Session) (k : ℕ) (c : Connection) (session epoch kept : ℕ) (front : Front) (taken : ℕ) (behind : List DownFrame) : Type 0 where
  pub order : ℕ
  pub its : c.its ≡ Some (record { session = s.number; order = order })
  pub number : session ≡ s.number
  pub told_before : s.epoch < epoch
  pub says : SaysEpoch v session k order epoch kept front
  pub none_taken : taken ≡ 0
  pub unlearnt : (x.lane_at session order).began ≡ None
  pub way : DownWay (order_at v order) (stays_at v order) session (x.lane_at session order) true behind
  pub whole : WholeIf x session order (x.lane_at session order) c behind

-- the order in which the first frame of a connection was taken
abbrev pub ResetOn : Server → ℕ → Connection → Down → Type 0
ResetOn v session c m = IsSomeAnd c.first (λ f. ResetIs (order_at v f.order) (stays_at v f.order) session m)

-- What an end that asked gets first: its Welcome, or its Reset alone.
abbrev pub AskedFirst : Server → Site → Session → ℕ → Connection → List DownFrame → Down → Type 0
AskedFirst v x s k c behind (Welcome session epoch kept front taken) =
    SameWelcome v x s k c session epoch front taken behind ⊎ EpochWelcomeOn v x s k c session epoch kept front taken behind
AskedFirst v x s k c behind (Reset session at) = ResetOn v s.number c (Reset session at) × (behind ≡ [])
AskedFirst v x s k c behind m = ⊥

-- nothing, and then no Welcome was put on it, or the first frame and what is behind it
abbrev pub AskedWay : Server → Site → Session → ℕ → Connection → List DownFrame → Type 0
AskedWay v x s k c [] = c.its ≡ None
AskedWay v x s k c (f ∷ fs) = (f.seq ≡ 0) × AskedFirst v x s k c fs f.message

-- What is known of a session that was entered for an application server that is greeting on this connection, and that it didn't meet yet.
pub record Unmet (v : Server) (x : Site) (app told session order : ℕ) : Type 0 where
  pub there : order ≤ current v
  pub above : told < session
  pub unmet : v.session_at session ≡ None
  pub entered : v.entered_at session ≡ Some (record { app = app; in_order = order; lost_since = false })
  pub opened : entry_at (order_at v order) session ≡ Some (Opened session app)
  pub behind : epoch_place (order_at v order) < session
  pub unused : count (order_at v order) session ≡ 0
  pub unlearnt : (x.lane_at session order).began ≡ None

-- The Welcome of a new session.
pub record NewWelcomeOn (v : Server) (x : Site) (app told : ℕ) (c : Connection) (session epoch kept : ℕ) (front : Front) (taken : ℕ) : Type 0 where
  pub order : ℕ
  pub its : c.its ≡ Some (record { session = session; order = order })
  pub unmet : Unmet v x app told session order
  pub synced : session ≤ stays_at v order
  pub its_epoch : epoch ≡ last_epoch (order_at v order)
  pub stays : epoch_place (order_at v order) ≤ stays_at v order
  pub from_open : session ≤ front.n
  pub within : front.n ≤ length (order_at v order)
  pub kept_all : kept ≡ front.n
  pub none_counted : front.w ≡ 0
  pub none_synced : front.s ≡ 0
  pub none_taken : taken ≡ 0
  pub whole : WholeIf x session order (x.lane_at session order) c []

-- what a greeting end gets first
abbrev pub GreetedFirst : Server → Site → ℕ → ℕ → Connection → Down → Type 0
GreetedFirst v x app told c (Welcome session epoch kept front taken) = NewWelcomeOn v x app told c session epoch kept front taken
GreetedFirst v x app told c m = ⊥

-- nothing, and then none was put on it, or the Welcome alone
abbrev pub GreetedWay : Server → Site → ℕ → ℕ → Connection → List DownFrame → Type 0
GreetedWay v x app told c [] = c.its ≡ None
GreetedWay v x app told c (f ∷ fs) = (f.seq ≡ 0) × GreetedFirst v x app told c f.message × (fs ≡ [])

-- it goes by the session that the end has and the order that it is told of
abbrev pub WithSession : Option Session → Option Place → (Session → ℕ → Type 0) → Type 0
WithSession None told P = ⊥
WithSession (Some s) None P = ⊥
WithSession (Some s) (Some p) P = P s p.order

-- What is on its way downwards on the connection that an application end has.
abbrev pub DownBy : Line → Server → Site → ℕ → End → Connection → Type 0
DownBy Apart v x app e c = ⊤
DownBy Trying v x app e c = ⊤
DownBy Greeting v x app e c = GreetedWay v x app e.state.told c (downs_left c)
DownBy Asking v x app e c = WithSession e.state.session e.told (λ s k. AskedWay v x s k c (downs_left c))
DownBy Joined v x app e c = WithSession e.state.session e.told (λ s k. JoinedWay v x e.state s k c)

-- The half of a living application end.
pub record AppWay (v : Server) (x : Site) (app : ℕ) (e : End) : Type 0 where
  -- its window is as the lane of its session in the order that it is told of
  pub window : IfSome e.state.session (λ s. IfSome e.told (λ p.
      WindowIs s.window (x.lane_at s.number p.order).up (x.lane_at s.number p.order).up_taken (x.lane_at s.number p.order).down_taken))
  -- it learnt of that order
  pub begun : IfSome e.state.session (λ s. IfSome e.told (λ p. is_some (x.lane_at s.number p.order).began ≡ true))
  pub down : IfSome (e.connection_at e.state.dial) (DownBy e.state.line v x app e)

-- the half of a running node

-- a session was entered for the application server that greets on the connection, as long as it does
abbrev pub GreetsOn : Server → Site → ℕ → ℕ → End → ℕ → Line → Type 0
GreetsOn v x session app e number Greeting = number ≡ e.state.dial → Unmet v x app e.state.told session x.past
GreetsOn v x session app e number line = ⊤

-- by the link of its data connection
abbrev pub GreetsBy : Server → Site → (ℕ → Bool) → ℕ → Linked → Type 0
GreetsBy v x is_dead session l = is_dead l.app ≡ false → GreetsOn v x session l.app (x.end_at l.app) l.dial (x.end_at l.app).state.line

-- by its sessions, and by what it has still to put
pub record NodeLink (v : Server) (x : Site) (is_dead : ℕ → Bool) (n : DataState) : Type 0 where
  pub windows : NodeWindows x n
  pub ups : (session conn : ℕ) → role_of n conn ≡ Some (Bound session) → IfSome (link_of x conn) (UpWayBy x is_dead session)
  pub greets : (session conn : ℕ) → role_of n conn ≡ Some (Bound session) → IfSome (link_of x conn) (GreetsBy v x is_dead session)
  pub replies : AllByRecursion (ReplyWaits v x n) n.replies
  -- at most one for each connection
  pub one_each : all_differ (flat_map conns_in n.replies) ≡ true
  pub serves : NodeServes x n

-- what is on its way at one data server
pub record LinkHolds (v : Server) (x : Site) (is_dead : ℕ → Bool) : Type 0 where
  pub lanes : (session k : ℕ) → LaneCounts (x.lane_at session k)
  pub node : IfSome x.node (NodeLink v x is_dead)
  pub apps : (app : ℕ) → is_dead app ≡ false → AppWay v x app (x.end_at app)
