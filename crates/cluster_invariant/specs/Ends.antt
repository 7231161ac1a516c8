-- The two ends of each pair against the plain state.
use Rattle.std.specs.Prelude.{◌≡◌, ◌<◌, ◌≤◌, ⊤, ℕ, Bool, true, false, ◌==◌, not, [], length, map, drop, Option, Some, None, is_some, IfSome, IsSomeAnd}
use Rattle.std.specs.List.{filter, list_any, AllByRecursion}
use Rattle.std.specs.Option.{option_map}
use Rattle.data_rules.specs.declared.limits.TheConstants.{APP_LIMIT}
use Rattle.plain_orders.specs.Entries.{live_session, last_epoch}
use Rattle.plain_orders.specs.Sessions.{live_sessions}
use Rattle.plain_runs.specs.Plain.{Server, Pair, Session as PlainSession, current, order_at}
use Rattle.link_states.specs.declared.app_link.AppLink.{AppLink}
use Rattle.link_states.specs.declared.app_link.AppLink.TheVariants as client
use Rattle.link_states.specs.declared.data_link.DataLink.{DataLink}
use Rattle.link_states.specs.declared.data_link.DataLink.TheVariants as server
use Rattle.ecp_messages.specs.declared.up.Up.{Up}
use Rattle.ecp_messages.specs.declared.up.Up.TheVariants as up
use Rattle.app_rules.specs.declared.line.Line.{Line}
use Rattle.app_rules.specs.declared.line.Line.TheVariants.{Apart, Trying, Greeting, Asking, Joined}
use Rattle.app_rules.specs.AppState.{AppEnd, Session}
use Rattle.recovery_round.specs.RoundWords.{Round}
use Rattle.data_rules.specs.DataState.{DataState}
use Rattle.data_rules.specs.declared.rows.Caller.{Caller}
use Rattle.data_rules.specs.declared.rows.Role.TheVariants.{Waiting}
use Rattle.data_rules.specs.Conns.{link_of, role_of}
use Rattle.data_rules.specs.Opening.{is_round_over}
use Rattle.data_rules.specs.Places.{epoch_place}
use Rattle.data_rules.specs.Puts.{conn_of}
use Rattle.cluster_runs.specs.Sent.{Lane, Place, Connection, ups_taken}
use Rattle.cluster_runs.specs.Machine.{Site, End}
use Rattle.cluster_invariant.specs.Dials.{LinkedTo}
use Rattle.cluster_invariant.specs.Words.{stays_at, all_differ}

-- the application end

-- how far its connection may be in each state
abbrev pub stands : AppLink → Line → Bool
stands client.NotConnected Apart = true
stands client.NotConnected Trying = true
stands client.NotConnected Greeting = true
stands client.NotConnected Asking = false
stands client.NotConnected Joined = false
stands client.Normal Apart = false
stands client.Normal Trying = false
stands client.Normal Greeting = false
stands client.Normal Asking = false
stands client.Normal Joined = true
stands (client.Trouble broke try_at) Apart = true
stands (client.Trouble broke try_at) Trying = true
stands (client.Trouble broke try_at) Greeting = false
stands (client.Trouble broke try_at) Asking = false
stands (client.Trouble broke try_at) Joined = false
stands client.Recovery Apart = false
stands client.Recovery Trying = false
stands client.Recovery Greeting = false
stands client.Recovery Asking = true
stands client.Recovery Joined = true

-- Normal isn't awaited where it came, and is awaited where the session is in recovery on a connection whose Welcome came
abbrev pub due_stands : AppLink → Line → Bool → Bool
due_stands client.Normal line due = not due
due_stands client.Recovery Joined due = due
due_stands link line due = true

-- it has a session
abbrev pub has_session : AppLink → Bool
has_session client.NotConnected = false
has_session client.Normal = true
has_session (client.Trouble broke try_at) = true
has_session client.Recovery = true

-- when it broke
abbrev pub broke_in : AppLink → Option ℕ
broke_in client.NotConnected = None
broke_in client.Normal = None
broke_in (client.Trouble broke try_at) = Some broke
broke_in client.Recovery = None

-- the number of a session
abbrev pub number_of : Session → ℕ
number_of s = s.number

-- A living application end's tables, and its plain pair.
pub record AppTables (pair : Pair) (e : AppEnd) : Type 0 where
  -- its session is the pair's
  pub session : pair.session ≡ option_map number_of e.session
  -- it has none just where it isn't connected
  pub connected : has_session e.link ≡ is_some e.session
  -- it is broke just where it is in trouble
  pub broke : pair.broke ≡ broke_in e.link
  pub stands : stands e.link e.line ≡ true
  pub normal_due : IfSome e.session (λ s. due_stands e.link e.line s.normal_due ≡ true)

-- the session that was met, if it is this application server's, isn't above the greatest one that it was told
abbrev pub MetBelow : ℕ → ℕ → ℕ → Option PlainSession → Type 0
MetBelow app told number None = ⊤
MetBelow app told number (Some s) = s.app ≡ app → number ≤ told

-- A session that an application server has: the order that it is told of.
pub record ToldPlace (v : Server) (app : ℕ) (s : Session) (told : Option Place) : Type 0 where
  pub order : ℕ
  pub its : told ≡ Some (record { session = s.number; order = order })
  pub there : order ≤ current v
  -- the plain session is told of the same order
  pub met : IsSomeAnd (v.session_at s.number) (λ t. (t.app ≡ app) × (t.told ≡ order))
  -- its epoch is that order's last, which stays
  pub epoch : s.epoch ≡ last_epoch (order_at v order)
  pub stays : epoch_place (order_at v order) ≤ stays_at v order
  -- as does its Open
  pub within : s.number ≤ stays_at v order

-- What an application end was told.
pub record AppTold (v : Server) (app : ℕ) (e : End) : Type 0 where
  -- the greatest session that it was told is synced, and the session that it has is that one
  pub synced : e.state.told ≤ v.synced
  pub newest : IfSome e.state.session (λ s. s.number ≡ e.state.told)
  -- none of its sessions that were met is above it
  pub met : (number : ℕ) → MetBelow app e.state.told number (v.session_at number)
  -- it knows the order that its session is told of
  pub place : IfSome e.state.session (λ s. ToldPlace v app s e.told)

-- the data end

-- a running node is in no round, and the application server's live session has a connection or none
pub record BrokeAt (v : Server) (n : DataState) (app broke : ℕ) : Type 0 where
  pub out_of_round : n.round ≡ None
  pub apart : IsSomeAnd (live_session n.order app) (λ s. conn_of n s ≡ None)
  pub plain : v.end_at app ≡ Some broke

-- its end is in a round that is due then
pub record RecoversAt (n : DataState) (app due : ℕ) : Type 0 where
  pub in_round : IsSomeAnd n.round (λ r. r.due ≡ due)
  pub has_live : is_some (live_session n.order app) ≡ true

-- it has a live session with a connection, in no round
pub record ConnectedAt (n : DataState) (app : ℕ) : Type 0 where
  pub out_of_round : n.round ≡ None
  pub joined : IsSomeAnd (live_session n.order app) (λ s. is_some (conn_of n s) ≡ true)

-- The state of a data end: free without a live session, and else by the round and the session's connection.
abbrev pub LinkIs : Server → DataState → ℕ → DataLink → Type 0
LinkIs v n app server.Free = live_session n.order app ≡ None
LinkIs v n app server.Normal = ConnectedAt n app
LinkIs v n app (server.Trouble broke) = BrokeAt v n app broke
LinkIs v n app (server.Recovering due) = RecoversAt n app due

-- a message is a Done
abbrev pub is_done : Up → Bool
is_done up.Done = true
is_done m = false

-- no Done of the session was taken in the order
abbrev pub is_undone : (ℕ → Lane) → ℕ → Bool
is_undone lane_of session = not (list_any is_done (ups_taken (lane_of session)))

-- when a round is due
abbrev pub due_in : Round → ℕ
due_in r = r.due

-- The round of a running node, with what it has of each session in its order.
pub record RoundIs (v : Server) (n : DataState) (lane_of : ℕ → Lane) : Type 0 where
  -- the plain round is due at the same moment
  pub due : option_map due_in n.round ≡ v.due
  -- it awaits the live sessions of which no Done was taken, in the order of their Opens
  pub awaited : IfSome n.round (λ r. r.awaited ≡ filter (is_undone lane_of) (live_sessions n.order))
  -- it isn't over
  pub is_on : is_round_over n n.round ≡ false
  -- in it no data end is known to have broken
  pub unbroken : IfSome n.round (λ r. (app : ℕ) → v.end_at app ≡ None)

-- the Hello was put and taken on it, and nothing else either way, and it carries no session's messages
pub record HelloAlone (c : Connection) : Type 0 where
  pub hello : c.knew.mark ≡ None
  pub one : drop 1 c.ups ≡ []
  pub taken : c.ups_taken ≡ 1
  pub silent : c.downs ≡ []
  pub its : c.its ≡ None

-- a Hello that waits
pub record CallerIs (n : DataState) (x : Site) (c : Caller) : Type 0 where
  pub waits : role_of n c.conn ≡ Some Waiting
  pub free : live_session n.order c.app ≡ None
  pub linked : LinkedTo x c.conn c.app HelloAlone

-- the application server of a waiting Hello
abbrev pub app_of_caller : Caller → ℕ
app_of_caller c = c.app

-- the Hello came on this connection
abbrev pub is_caller_on : ℕ → Caller → Bool
is_caller_on conn c = c.conn == conn

-- Hellos wait only in a round, at most one of an application server, each on a connection of its own.
pub record CallersAre (n : DataState) (x : Site) : Type 0 where
  pub out_of_round : n.round ≡ None → n.callers ≡ []
  pub one_each : all_differ (map app_of_caller n.callers) ≡ true
  pub each : AllByRecursion (CallerIs n x) n.callers
  pub all : (conn : ℕ) → role_of n conn ≡ Some Waiting → list_any (is_caller_on conn) n.callers ≡ true

-- the data end of a running node
pub record NodeEnds (v : Server) (x : Site) (n : DataState) : Type 0 where
  pub places : length n.links ≡ APP_LIMIT
  pub links : (app : ℕ) → app < APP_LIMIT → LinkIs v n app (link_of n app)
  pub round : RoundIs v n (λ session. x.lane_at session x.past)
  pub callers : CallersAre n x

-- both ends of each pair
pub record EndsAre (v : Server) (x : Site) (is_dead : ℕ → Bool) : Type 0 where
  pub tables : (app : ℕ) → is_dead app ≡ false → AppTables (v.pair_at app) (x.end_at app).state
  pub told : (app : ℕ) → is_dead app ≡ false → AppTold v app (x.end_at app)
  pub node : IfSome x.node (NodeEnds v x)
  -- before the first start no data end broke
  pub unopened : v.opened ≡ false → (app : ℕ) → v.end_at app ≡ None
