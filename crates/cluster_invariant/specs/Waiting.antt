-- What a running node has still to put: the replies that wait until what they rest on is synced.
use Rattle.std.specs.Prelude.{◌≡◌, ◌<◌, ◌≤◌, ℕ, false, List, [], ◌∷◌, Some, None, IfSome, IsSomeAnd}
use Rattle.std.specs.List.{list_any}
use Rattle.plain_orders.specs.declared.entry.Entry.{Entry}
use Rattle.plain_orders.specs.declared.entry.Entry.TheVariants.{Closed}
use Rattle.plain_orders.specs.Entries.{entry_at, last_epoch}
use Rattle.plain_orders.specs.Sessions.{place_of_epoch}
use Rattle.plain_runs.specs.Plain.{Server, current, order_at}
use Rattle.data_rules.specs.DataState.{DataState}
use Rattle.data_rules.specs.declared.rows.Reply.{Reply}
use Rattle.data_rules.specs.declared.rows.Says.{Says}
use Rattle.data_rules.specs.declared.rows.Says.TheVariants.{NewWelcome, EpochWelcome, ResetOf, GrantOf, AnswerOf}
use Rattle.data_rules.specs.declared.rows.Role.TheVariants.{Bound, Closing}
use Rattle.data_rules.specs.Conns.{role_of}
use Rattle.data_rules.specs.Places.{epoch_place}
use Rattle.cluster_runs.specs.Sent.{Lane, Connection, Mark}
use Rattle.cluster_runs.specs.Machine.{Site}
use Rattle.cluster_runs.specs.Connections.{link_of}
use Rattle.cluster_invariant.specs.Served.{IsServed}
use Rattle.cluster_invariant.specs.Words.{is_normal_down, is_opened_in, is_reset_frame, stays_at}

-- of the connection that a data connection is linked to
abbrev pub OnLinked : Site → ℕ → (Connection → Type 0) → Type 0
OnLinked x conn P = IfSome (link_of x conn) (λ l. IfSome ((x.end_at l.app).connection_at l.dial) P)

-- nothing was put downwards on it, and so it carries no session's messages
pub record IsUntold (c : Connection) : Type 0 where
  pub its : c.its ≡ None
  pub silent : c.downs ≡ []

-- one that a Hello came on
pub record WaitsNewOn (c : Connection) : Type 0 where
  pub greeted : c.knew.mark ≡ None
  pub untold : IsUntold c

-- the Welcome of a new epoch that waits: what it says is known but for its header
pub record WaitsEpoch (v : Server) (n : DataState) (session kept : ℕ) (m : Mark) : Type 0 where
  pub later : m.order < current v
  pub place : place_of_epoch (last_epoch (order_at v m.order)) 0 n.order ≡ Some kept
  pub kept_more : stays_at v m.order ≤ kept

-- one that a Recover of the session came on, by what was known as it was made
pub record WaitsEpochOn (v : Server) (n : DataState) (session kept : ℕ) (c : Connection) : Type 0 where
  pub its : c.knew.session ≡ session
  pub says : IsSomeAnd c.knew.mark (WaitsEpoch v n session kept)
  pub untold : IsUntold c

-- a session that was told no Normal in this order, and was there before it
pub record IsUnended (es : List Entry) (session : ℕ) (lane : Lane) : Type 0 where
  pub before : is_opened_in es session ≡ false
  pub untold : list_any is_normal_down lane.down ≡ false

-- one whose session was closed: no Reset was put on it yet, and it carries messages only of a session that was closed in the round
pub record WaitsResetOn (es : List Entry) (session : ℕ) (lane : Lane) (c : Connection) : Type 0 where
  pub first : list_any is_reset_frame c.downs ≡ false
  pub silent : c.its ≡ None → c.downs ≡ []
  pub in_round : IfSome c.its (λ p. IsUnended es session lane)

-- the Welcome of a new session waits on the connection of that session, to which nothing was told
pub record NewWaits (x : Site) (n : DataState) (at conn session : ℕ) : Type 0 where
  pub place : at ≡ session
  pub bound : role_of n conn ≡ Some (Bound session)
  pub unlearnt : (x.lane_at session x.past).began ≡ None
  pub untold : OnLinked x conn WaitsNewOn

-- likewise the Welcome of a new epoch, until that Epoch is synced
pub record EpochWaits (v : Server) (x : Site) (n : DataState) (at conn session kept : ℕ) : Type 0 where
  pub place : at ≡ epoch_place n.order
  pub bound : role_of n conn ≡ Some (Bound session)
  pub unlearnt : (x.lane_at session x.past).began ≡ None
  pub says : OnLinked x conn (WaitsEpochOn v n session kept)

-- a Reset waits until the Close is synced
pub record ResetWaits (x : Site) (n : DataState) (at conn session place : ℕ) : Type 0 where
  pub until : at ≡ place
  pub closing : role_of n conn ≡ Some (Closing session)
  pub closed : entry_at n.order place ≡ Some (Closed session)
  pub follows : OnLinked x conn (WaitsResetOn n.order session (x.lane_at session x.past))

-- A reply that waits: to a connection, or to a session that may be told it.
abbrev pub WaitsFor : Server → Site → DataState → ℕ → Says → Type 0
WaitsFor v x n at (NewWelcome conn session) = NewWaits x n at conn session
WaitsFor v x n at (EpochWelcome conn session kept) = EpochWaits v x n at conn session kept
WaitsFor v x n at (ResetOf conn session place) = ResetWaits x n at conn session place
WaitsFor v x n at (GrantOf session ticket number) = IsServed x n session
WaitsFor v x n at (AnswerOf session about job number place sum) = IsServed x n session

-- a reply that waits
pub record ReplyWaits (v : Server) (x : Site) (n : DataState) (r : Reply) : Type 0 where
  pub unsynced : n.synced < r.at
  pub says : WaitsFor v x n r.at r.says

-- the connection that a reply is for
abbrev pub conns_of : Says → List ℕ
conns_of (NewWelcome conn session) = conn ∷ []
conns_of (EpochWelcome conn session kept) = conn ∷ []
conns_of (ResetOf conn session place) = conn ∷ []
conns_of (GrantOf session ticket number) = []
conns_of (AnswerOf session about job number place sum) = []

-- the same of a reply that waits
abbrev pub conns_in : Reply → List ℕ
conns_in r = conns_of r.says
