-- The connections of each pair: what was put first on them, in which order, and which of them both ends still have.
use Rattle.std.specs.Prelude.{◌≡◌, ◌≢◌, ◌<◌, ◌≤◌, ⊤, ℕ, zero, suc, Bool, true, false, ◌==◌, not, List, [], ◌∷◌, map, drop, length, nat_lt, Option, Some, None, is_some, IfSome, IsSomeAnd}
use Rattle.std.specs.List.{list_any, list_all}
use Rattle.data_rules.specs.declared.limits.TheConstants.{APP_LIMIT}
use Rattle.plain_orders.specs.declared.entry.Entry.{Entry}
use Rattle.plain_orders.specs.Entries.{live, closes, last_epoch}
use Rattle.plain_orders.specs.Sessions.{app_in}
use Rattle.plain_runs.specs.Plain.{Server, current, order_at}
use Rattle.ecp_messages.specs.declared.up.Up.{Up}
use Rattle.ecp_messages.specs.declared.up.Up.TheVariants.{Hello, Recover}
use Rattle.ecp_messages.specs.declared.up.UpFrame.{UpFrame}
use Rattle.app_rules.specs.declared.line.Line.{Line}
use Rattle.app_rules.specs.declared.line.Line.TheVariants.{Apart, Trying, Greeting, Asking, Joined}
use Rattle.data_rules.specs.DataState.{DataState}
use Rattle.data_rules.specs.declared.rows.Role.{Role}
use Rattle.data_rules.specs.declared.rows.Role.TheVariants.{New, Waiting, Bound, Closing}
use Rattle.data_rules.specs.declared.rows.Kind.{Kind}
use Rattle.data_rules.specs.declared.rows.Kind.TheVariants.{Opening, Numbered, Unnumbered}
use Rattle.data_rules.specs.Frames.{kind_of}
use Rattle.data_rules.specs.Callers.{dial_of}
use Rattle.data_rules.specs.Conns.{role_of}
use Rattle.data_rules.specs.Places.{epoch_place}
use Rattle.data_rules.specs.Puts.{conn_of, number_of}
use Rattle.cluster_runs.specs.CoresState.{Linked}
use Rattle.cluster_runs.specs.Sent.{Connection, Knew, Mark, Place, FirstTaken}
use Rattle.cluster_runs.specs.Machine.{Site, End, DataConnection}
use Rattle.cluster_runs.specs.Connections.{link_of, knows}
use Rattle.cluster_invariant.specs.Words.{is_wire, is_begun, is_reset_frame, NoLess, all_differ, stays_at}

-- what goes up first on a connection, by what was known as it was made
abbrev pub first_message : Server → ℕ → ℕ → ℕ → Option Mark → Up
first_message v app dial session None = Hello app dial
first_message v app dial session (Some m) = Recover app session (last_epoch (order_at v m.order)) m.taken dial

-- how many messages it says were taken
abbrev pub taken_in : Option Mark → ℕ
taken_in None = 0
taken_in (Some m) = m.taken

-- the whole first frame
abbrev pub first_frame : Server → ℕ → ℕ → Knew → UpFrame
first_frame v app dial k = record { seq = 0; ack = taken_in k.mark; message = first_message v app dial k.session k.mark }

-- what may follow: numbered messages, and acknowledgements by themselves
abbrev pub follows : Kind → ℕ → Bool
follows Opening seq = false
follows Numbered seq = nat_lt 0 seq
follows Unnumbered seq = seq == 0

-- a frame that may follow the first
abbrev pub is_following : UpFrame → Bool
is_following f = follows (kind_of f.message) f.seq

-- the connection is kept at the data end
abbrev pub is_here : Option DataConnection → Bool
is_here None = false
is_here (Some c) = not c.left

-- the data end has left the connection on which it took the first frame
abbrev pub is_left_at : Site → Option FirstTaken → Bool
is_left_at x None = false
is_left_at x (Some f) = not (is_here (x.connection_at f.conn))

-- where a first frame was taken: in an order that was there, on a data connection that is linked to this one
pub record FirstIs (v : Server) (x : Site) (app number : ℕ) (f : FirstTaken) : Type 0 where
  pub there : f.order ≤ current v
  pub linked : link_of x f.conn ≡ Some (record { app = app; dial = number })

-- the plain session is this application server's, and was told of this order or of a later one
abbrev pub WasTold : Server → ℕ → ℕ → ℕ → Type 0
WasTold v app session k = IsSomeAnd (v.session_at session) (λ t. (t.app ≡ app) × (k ≤ t.told))

-- What was known of a session as a connection was made: it was told of that order, whose Epoch stays, and took so many messages in it.
pub record KnewIs (v : Server) (x : Site) (app session : ℕ) (m : Mark) : Type 0 where
  pub there : m.order ≤ current v
  pub told : WasTold v app session m.order
  pub begun : is_begun (x.lane_at session m.order) ≡ true
  pub taken : m.taken ≤ (x.lane_at session m.order).down_taken
  pub stays : epoch_place (order_at v m.order) ≤ stays_at v m.order

-- it carries the messages of a session that this application server has in the order in which the first frame was taken
pub record CarriesOf (v : Server) (app : ℕ) (first : Option FirstTaken) (p : Place) : Type 0 where
  pub order : IsSomeAnd first (λ f. f.order ≡ p.order)
  pub opened : app_in (order_at v p.order) p.session ≡ Some app

-- A connection that an application server made.
pub record ConnectionIs (v : Server) (x : Site) (app number : ℕ) (c : Connection) : Type 0 where
  -- its first frame says just what was known as it was made
  pub first : c.ups ≡ first_frame v app number c.knew ∷ drop 1 c.ups
  -- no Hello and no Recover follows
  pub behind : list_all is_following (drop 1 c.ups) ≡ true
  -- what was taken was put
  pub ups_taken : c.ups_taken ≤ length c.ups
  pub downs_taken : c.downs_taken ≤ length c.downs
  -- while nothing was taken of it there is nothing but the first frame
  pub alone : c.ups_taken ≡ 0 → drop 1 c.ups ≡ []
  pub silent : c.ups_taken ≡ 0 → c.downs ≡ []
  -- it is linked once its first frame was taken
  pub linked : c.linked ≡ nat_lt 0 c.ups_taken
  pub taken : is_some c.first ≡ c.linked
  pub where_taken : IfSome c.first (FirstIs v x app number)
  pub data_left : c.data_left ≡ is_left_at x c.first
  pub its : IfSome c.its (CarriesOf v app c.first)
  pub known : IfSome c.knew.mark (KnewIs v x app c.knew.session)

-- a connection of this number was made, the first being 1
abbrev pub is_made : ℕ → ℕ → Bool
is_made dial zero = false
is_made dial (suc number) = nat_lt number dial

-- what an end knows is what it knew as it made the connection that it has, while no Welcome came on it
abbrev pub KnowsStill : Line → Knew → Option Connection → Type 0
KnowsStill Apart knew c = ⊤
KnowsStill Trying knew c = ⊤
KnowsStill Greeting knew c = IsSomeAnd c (λ y. (y.knew ≡ knew) × (drop 1 y.ups ≡ []))
KnowsStill Asking knew c = IsSomeAnd c (λ y. (y.knew ≡ knew) × (drop 1 y.ups ≡ []))
KnowsStill Joined knew c = ⊤

-- The connections of a pair, by their numbers.
pub record PairDials (v : Server) (x : Site) (is_dead : Bool) (app : ℕ) (e : End) : Type 0 where
  -- they are numbered from 1
  pub made : (number : ℕ) → is_some (e.connection_at number) ≡ is_made e.state.dial number
  -- all but the one that the end has were left
  pub left : (number : ℕ) → IfSome (e.connection_at number) (λ c. c.app_left ≡ not (is_wire is_dead e.state number))
  pub each : (number : ℕ) → IfSome (e.connection_at number) (ConnectionIs v x app number)
  -- what was known never falls from one to a later one
  pub rising : (before number : ℕ) → before ≤ number
      → IfSome (e.connection_at before) (λ b. IfSome (e.connection_at number) (λ c. NoLess b.knew c.knew))
  -- and isn't more than what the end knows
  pub now : (number : ℕ) → IfSome (e.connection_at number) (λ c. NoLess c.knew (knows e))
  pub still : KnowsStill e.state.line (knows e) (e.connection_at e.state.dial)

-- what is known of a session as it learns of an order
abbrev pub as_it_learns : ℕ → ℕ → Knew
as_it_learns session k = record { session = session; mark = Some (record { order = k; taken = 0 }) }

-- A session that learnt of an order on a connection, and what its application server has known since.
pub record LearntOn (v : Server) (e : End) (app session k dial : ℕ) : Type 0 where
  -- the Welcome came on a connection of that number, which carries the session's messages in that order
  pub carries : IsSomeAnd (e.connection_at dial) (λ c. c.its ≡ Some (record { session = session; order = k }))
  pub there : k ≤ current v
  -- the plain session was told of it, whoever has the session now
  pub told : WasTold v app session k
  -- each later connection was made by an end that knew of that order
  pub later : (number : ℕ) → dial < number → IfSome (e.connection_at number) (λ c. NoLess (as_it_learns session k) c.knew)
  -- and the end knows no less now
  pub now : NoLess (as_it_learns session k) (knows e)

-- Of each session in each order that its application server learnt of: it has an Open there, and its connection is known.
abbrev pub LearntBy : Server → Site → ℕ → ℕ → Option ℕ → Option ℕ → Type 0
LearntBy v x session k None app = ⊤
LearntBy v x session k (Some dial) None = ⊥
LearntBy v x session k (Some dial) (Some app) = LearntOn v (x.end_at app) app session k dial

-- a first frame was taken in this order
abbrev pub is_taken_in : ℕ → Option FirstTaken → Bool
is_taken_in k None = false
is_taken_in k (Some f) = f.order == k

-- the first frame of a connection was taken in this order
abbrev pub is_connection_in : ℕ → Option Connection → Bool
is_connection_in k None = false
is_connection_in k (Some c) = is_taken_in k c.first

-- The greatest connection of an application server whose first frame was taken since the start.
pub record GreatestDial (k : ℕ) (e : End) (dial : ℕ) : Type 0 where
  pub taken : dial ≢ 0 → is_connection_in k (e.connection_at dial) ≡ true
  pub greatest : (number : ℕ) → is_connection_in k (e.connection_at number) ≡ true → number ≤ dial

-- a data connection is linked to one of this application server, whose first frame it took in this order
pub record LinkedTo (x : Site) (conn app : ℕ) (P : Connection → Type 0) : Type 0 where
  pub dial : ℕ
  pub link : link_of x conn ≡ Some (record { app = app; dial = dial })
  pub first : IsSomeAnd ((x.end_at app).connection_at dial) (λ c. c.first ≡ Some (record { order = x.past; conn = conn }))
  pub its : IsSomeAnd ((x.end_at app).connection_at dial) P

-- the messages that a connection carries are this session's, or it carries none
abbrev pub CarriesNoOther : ℕ → ℕ → Connection → Type 0
CarriesNoOther session k c = IfSome c.its (λ p. p ≡ record { session = session; order = k })

-- a Hello asked for the session, which was opened in this order, or a Recover named it
abbrev pub CameFor : List Entry → ℕ → Knew → Option Mark → Type 0
CameFor es session knew None = epoch_place es < session
CameFor es session knew (Some m) = knew.session ≡ session

-- the connection of a live session
pub record BoundTo (x : Site) (es : List Entry) (session : ℕ) (c : Connection) : Type 0 where
  pub carries : CarriesNoOther session x.past c
  pub came : CameFor es session c.knew c.knew.mark
  -- a session that learnt of the order was told so on it, and before that nothing is put on it
  pub told : is_begun (x.lane_at session x.past) ≡ true → c.its ≡ Some (record { session = session; order = x.past })
  pub silent : c.its ≡ None → c.downs ≡ []
  pub unreset : list_any is_reset_frame c.downs ≡ false

-- the connection that a Recover of a closed session came on, or of one that was closed since
pub record ClosedOn (x : Site) (session : ℕ) (c : Connection) : Type 0 where
  pub carries : CarriesNoOther session x.past c
  pub came : IsSomeAnd c.knew.mark (λ m. c.knew.session ≡ session)

-- the connections that carry a session's messages in an order are none later than this one
abbrev pub IsNewest : End → ℕ → ℕ → ℕ → Type 0
IsNewest e session k dial =
    (number : ℕ) → IfSome (e.connection_at number) (λ c. c.its ≡ Some (record { session = session; order = k }) → number ≤ dial)

-- the one of a live session
pub record BoundIs (x : Site) (n : DataState) (conn session : ℕ) : Type 0 where
  pub lives : live n.order session ≡ true
  pub its : conn_of n session ≡ Some conn
  pub app : ℕ
  pub opened : app_in n.order session ≡ Some app
  pub linked : LinkedTo x conn app (BoundTo x n.order session)
  pub newest : IfSome (link_of x conn) (λ l. IsNewest (x.end_at app) session x.past l.dial)

-- one whose session has a Close
pub record ClosingIs (x : Site) (n : DataState) (conn session : ℕ) : Type 0 where
  pub ended : list_any (closes session) n.order ≡ true
  pub app : ℕ
  pub opened : app_in n.order session ≡ Some app
  pub linked : LinkedTo x conn app (ClosedOn x session)

-- What a data connection is for.
abbrev pub RoleIs : Site → DataState → ℕ → Role → Type 0
RoleIs x n conn New = link_of x conn ≡ None
RoleIs x n conn Waiting = is_some (link_of x conn) ≡ true
RoleIs x n conn (Bound session) = BoundIs x n conn session
RoleIs x n conn (Closing session) = ClosingIs x n conn session

-- The connections of a running node.
pub record NodeDials (x : Site) (n : DataState) : Type 0 where
  pub places : length n.dials ≡ APP_LIMIT
  pub dials : (app : ℕ) → app < APP_LIMIT → GreatestDial x.past (x.end_at app) (dial_of n app)
  pub differ : all_differ (map number_of n.conns) ≡ true
  pub roles : (conn : ℕ) → IfSome (role_of n conn) (RoleIs x n conn)

-- a node has a connection, if it runs
abbrev pub has_conn : Option DataState → ℕ → Bool
has_conn None conn = false
has_conn (Some n) conn = is_some (role_of n conn)

-- a data connection is linked to the connection whose first frame was taken on it
abbrev pub IsLinkedBy : Site → ℕ → Linked → Type 0
IsLinkedBy x conn l = IsSomeAnd ((x.end_at l.app).connection_at l.dial) (λ c. IsSomeAnd c.first (λ f. f.conn ≡ conn))

-- all connections of a data server's pairs
pub record DialsAre (v : Server) (x : Site) (is_dead : ℕ → Bool) : Type 0 where
  pub pairs : (app : ℕ) → PairDials v x (is_dead app) app (x.end_at app)
  pub learnt : (session k : ℕ) → LearntBy v x session k (x.lane_at session k).began (app_in (order_at v k) session)
  pub links : (conn : ℕ) → IfSome (link_of x conn) (IsLinkedBy x conn)
  -- the node has just those that this end hasn't left
  pub here : (conn : ℕ) → is_here (x.connection_at conn) ≡ has_conn x.node conn
  pub node : IfSome x.node (NodeDials x)
