-- The first frame on a connection: a Hello or a Recover.
use Rattle.std.specs.Prelude.{◌≡◌, ◌⊎◌, ℕ, ◌<◌, ◌≤◌, Bool, true, false, ◌==◌, List, [], ◌∷◌, ◌++◌, length, Option, Some, None, is_some, get_or, set}
use Rattle.std.specs.List.{find}
use Rattle.std.specs.Option.{option_map}
use Rattle.plain_orders.specs.declared.causes.ShutCause.TheVariants as shuts
use Rattle.plain_orders.specs.Entries.{live, live_session, last_epoch}
use Rattle.plain_orders.specs.Sessions.{app_in, place_of_epoch}
use Rattle.link_states.specs.declared.link_event.LinkEvent.TheVariants.{Replaced, Resumed}
use Rattle.ecp_messages.specs.declared.down.Down.{Down}
use Rattle.ecp_messages.specs.declared.down.Down.TheVariants.{Welcome}
use Rattle.end_words.specs.Windows.{fresh, resent}
use Rattle.data_rules.specs.declared.rows.Caller.{Caller}
use Rattle.data_rules.specs.DataState.{DataState}
use Rattle.data_rules.specs.declared.rows.Role.TheVariants.{Waiting, Bound, Closing}
use Rattle.data_rules.specs.declared.rows.Says.TheVariants.{EpochWelcome, ResetOf}
use Rattle.data_rules.specs.Places.{close_place, epoch_place}
use Rattle.data_rules.specs.Puts.{Sofar, becomes, replies, tells, head_of, conn_of, window_of, with_window}
use Rattle.data_rules.specs.Conns.{with_role, with_event, drops_conn}
use Rattle.data_rules.specs.Closing.{closes}
use Rattle.data_rules.specs.Opening.{opens}

-- the greatest dial taken from an application server
abbrev pub dial_of : DataState → ℕ → ℕ
dial_of d app = get_or d.dials app 0

-- with this as the greatest dial taken from the application server
abbrev pub with_dial : ℕ → ℕ → DataState → DataState
with_dial app dial d = record d { dials = set d.dials app dial }

-- the session that the application server has is closed first
abbrev pub replaces : Option ℕ → ℕ → ℕ → Sofar → Sofar
replaces None app now b = b
replaces (Some session) app now b = becomes (with_event app now Replaced) (closes session shuts.Replaced b)

-- a Hello of the application server
abbrev pub is_caller : ℕ → Caller → Bool
is_caller app c = c.app == app

-- the connection of a Hello that waits
abbrev pub caller_conn : Caller → ℕ
caller_conn c = c.conn

-- the connection on which the application server's Hello waits
abbrev pub waiting_conn : DataState → ℕ → Option ℕ
waiting_conn d app = option_map caller_conn (find (is_caller app) d.callers)

-- a Hello that waits for the round's end
abbrev pub with_caller : ℕ → ℕ → DataState → DataState
with_caller app conn d = with_role conn Waiting (record d { callers = d.callers ++ record { conn = conn; app = app } ∷ [] })

-- in a round the Hello waits, in place of an older one of the application server; else its session opens
abbrev pub is_let_in : Bool → ℕ → ℕ → ℕ → Sofar → Sofar
is_let_in true app conn now b = becomes (with_caller app conn) (drops_conn (waiting_conn b.state app) b)
is_let_in false app conn now b = opens app conn now b

-- a Hello asks for a new session
abbrev pub calls : ℕ → ℕ → ℕ → ℕ → Sofar → Sofar
calls app dial conn now b =
    is_let_in (is_some b.state.round) app conn now
    (replaces (live_session b.state.order app) app now (becomes (with_dial app dial) b))

-- a Hello whose dial is no less than those taken before
pub record TakesHello (b : Sofar) (conn now app dial : ℕ) (c : Sofar) : Type 0 where
  pub later : dial_of b.state app ≤ dial
  pub after : c ≡ calls app dial conn now b

-- messages that the other end lacks, each with its number
abbrev pub sends_again : ℕ → ℕ → List (ℕ × Down) → Sofar → Sofar
sends_again session conn [] b = b
sends_again session conn (m ∷ ms) b = sends_again session conn ms (tells session conn m.0 m.1 b)

-- the Welcome in the epoch that the other end was told
abbrev pub old_welcome : DataState → ℕ → Down
old_welcome d session = Welcome session (last_epoch d.order) (length d.order) (head_of d session) (window_of d session).taken

-- the session goes on in the same epoch
abbrev pub goes_on : ℕ → ℕ → ℕ → Sofar → Sofar
goes_on session conn taken b =
    sends_again session conn (resent (window_of b.state session) taken) (tells session conn 0 (old_welcome b.state session) b)

-- the session takes a new connection in place of an older one
abbrev pub resumed : ℕ → ℕ → ℕ → ℕ → DataState → DataState
resumed app session conn now d = with_event app now Resumed (with_role conn (Bound session) d)

-- the dial counts, an older connection of the session is cut, and the session has the new one
abbrev pub resumes : ℕ → ℕ → ℕ → ℕ → ℕ → Sofar → Sofar
resumes app session dial conn now b =
    becomes (resumed app session conn now) (drops_conn (conn_of b.state session) (becomes (with_dial app dial) b))

-- a live session, in the epoch that the other end was told
pub record TakesResume (b : Sofar) (conn now app session epoch taken dial : ℕ) (c : Sofar) : Type 0 where
  pub its : app_in b.state.order session ≡ Some app
  pub later : dial_of b.state app ≤ dial
  pub is_live : live b.state.order session ≡ true
  pub same : epoch ≡ last_epoch b.state.order
  pub after : c ≡ goes_on session conn taken (resumes app session dial conn now b)

-- the session goes on in a new epoch: both ends number from 1 again, and the Welcome leaves once the Epoch is synced
abbrev pub comes_again : ℕ → ℕ → ℕ → Sofar → Sofar
comes_again session conn kept b = replies (epoch_place b.state.order) (EpochWelcome conn session kept) (becomes (with_window session fresh) b)

-- a live session, in an older epoch; so many entries stand before the first Epoch that its other end wasn't told
pub record TakesReturn (b : Sofar) (conn now app session epoch dial : ℕ) (c : Sofar) : Type 0 where
  pub its : app_in b.state.order session ≡ Some app
  pub later : dial_of b.state app ≤ dial
  pub is_live : live b.state.order session ≡ true
  pub older : epoch < last_epoch b.state.order
  pub kept : ℕ
  pub known : place_of_epoch epoch 0 b.state.order ≡ Some kept
  pub after : c ≡ comes_again session conn kept (resumes app session dial conn now b)

-- a closed session, in an epoch that is begun: it is answered once its Close is synced
pub record TakesGone (b : Sofar) (conn app session epoch dial : ℕ) (c : Sofar) : Type 0 where
  pub its : app_in b.state.order session ≡ Some app
  pub later : dial_of b.state app ≤ dial
  pub is_closed : live b.state.order session ≡ false
  pub begun : epoch ≤ last_epoch b.state.order
  pub at : ℕ
  pub closed : close_place b.state.order session ≡ Some at
  pub after : c ≡ replies at (ResetOf conn session at) (becomes (λ d. with_role conn (Closing session) (with_dial app dial d)) b)

-- a Recover
abbrev pub TakesRecover : Sofar → ℕ → ℕ → ℕ → ℕ → ℕ → ℕ → ℕ → Sofar → Type 0
TakesRecover b conn now app session epoch taken dial c =
    TakesResume b conn now app session epoch taken dial c ⊎ TakesReturn b conn now app session epoch dial c
    ⊎ TakesGone b conn app session epoch dial c

-- a Recover that is refused: it names no session of its application server, or its dial is old, or its epoch isn't begun
pub record IsNoRecover (d : DataState) (app session epoch dial : ℕ) : Type 0 where
  pub why : (app_in d.order session ≡ Some app → ⊥) ⊎ (dial < dial_of d app) ⊎ (last_epoch d.order < epoch)
