-- A new session, and the end of a recovery round.
use Rattle.std.specs.Prelude.{ℕ, Bool, true, false, ◌&&◌, ◌+◌, not, List, [], ◌∷◌, length, drop, Option, Some, None, is_some}
use Rattle.std.specs.List.{list_any, range_with_len}
use Rattle.plain_orders.specs.declared.entry.Entry.TheVariants.{Opened as OpenEntry}
use Rattle.plain_orders.specs.declared.act.Act.TheVariants.{Back, Broke}
use Rattle.plain_orders.specs.declared.causes.PairEnd.TheVariants as ends
use Rattle.plain_orders.specs.Entries.{live_session}
use Rattle.plain_orders.specs.Sessions.{is_close}
use Rattle.link_states.specs.declared.link_event.LinkEvent.TheVariants.{Opened, RoundOver}
use Rattle.ecp_messages.specs.declared.down.Down.TheVariants.{Normal}
use Rattle.end_words.specs.Windows.{fresh}
use Rattle.data_rules.specs.declared.limits.TheConstants.{APP_LIMIT}
use Rattle.data_rules.specs.declared.rows.Caller.{Caller}
use Rattle.data_rules.specs.declared.rows.LiveEnd.{LiveEnd}
use Rattle.plain_orders.specs.declared.entry.Entry.{Entry}
use Rattle.data_rules.specs.DataState.{DataState}
use Rattle.data_rules.specs.declared.rows.Role.TheVariants.{Bound}
use Rattle.data_rules.specs.declared.rows.Says.TheVariants.{NewWelcome}
use Rattle.recovery_round.specs.RoundWords.{Round, is_over}
use Rattle.data_rules.specs.Puts.{Sofar, becomes, writes, replies, puts, head_of, conn_of, with_window}
use Rattle.data_rules.specs.Entering.{enters}
use Rattle.data_rules.specs.Conns.{with_role, with_event}

-- a new session's end
abbrev pub bound : ℕ → ℕ → ℕ → ℕ → DataState → DataState
bound app session conn now d = with_event app now Opened (with_role conn (Bound session) (with_window session fresh d))

-- an Open enters for an application server, whose Welcome leaves on its connection once that is synced
abbrev pub opens : ℕ → ℕ → ℕ → Sofar → Sofar
opens app conn now b =
    replies (length b.state.order + 1) (NewWelcome conn (length b.state.order + 1))
    (becomes (bound app (length b.state.order + 1) conn now)
    (enters (OpenEntry (length b.state.order + 1) app) b))

-- the Hellos that waited, in the order in which they came
abbrev pub opens_all : List Caller → ℕ → Sofar → Sofar
opens_all [] now b = b
opens_all (c ∷ cs) now b = opens_all cs now (opens c.app c.conn now b)

-- the round is over for one end: it breaks where it has no connection
abbrev pub breaks_unless : Bool → ℕ → ℕ → Sofar → Sofar
breaks_unless true app now b = b
breaks_unless false app now b = writes (Broke app b.state.server ends.Server now) b

-- the round is over for one end, whose session is told
abbrev pub comes_back : ℕ → ℕ → ℕ → Sofar → Sofar
comes_back app session now b =
    puts session (Normal (head_of b.state session))
    (breaks_unless (is_some (conn_of b.state session)) app now
    (becomes (with_event app now (RoundOver (is_some (conn_of b.state session)))) b))

-- several, in this order
abbrev pub come_back : List LiveEnd → ℕ → Sofar → Sofar
come_back [] now b = b
come_back (x ∷ xs) now b = come_back xs now (comes_back x.app x.session now b)

-- the indexes that an application server may have
abbrev pub all_apps : List ℕ
all_apps = range_with_len 0 APP_LIMIT

-- an end more, where it has a live session
abbrev pub with_end : Option ℕ → ℕ → List LiveEnd → List LiveEnd
with_end None app xs = xs
with_end (Some session) app xs = record { app = app; session = session } ∷ xs

-- those of these ends that have a live session
abbrev pub ends_among : List ℕ → List Entry → List LiveEnd
ends_among [] es = []
ends_among (app ∷ apps) es = with_end (live_session es app) app (ends_among apps es)

-- the ends with a live session, by index
abbrev pub live_ends : List Entry → List LiveEnd
live_ends es = ends_among all_apps es

-- no round is on, and no Hello waits
abbrev pub without_round : DataState → DataState
without_round d = record d { round = None; callers = [] }

-- the round ends: the sessions go on, then the waiting Hellos are entered
abbrev pub round_ends : List Caller → ℕ → Sofar → Sofar
round_ends callers now b =
    opens_all callers now (come_back (live_ends b.state.order) now (writes (Back b.state.server) (becomes without_round b)))

-- no session is awaited, and each Close is synced
abbrev pub is_round_over : DataState → Option Round → Bool
is_round_over d None = false
is_round_over d (Some r) = is_over r && not (list_any is_close (drop d.synced d.order))

-- the round ends or goes on
abbrev pub round_ends_if : Bool → ℕ → Sofar → Sofar
round_ends_if true now b = round_ends b.state.callers now b
round_ends_if false now b = b

-- the round ends where it is over
abbrev pub rounds : ℕ → Sofar → Sofar
rounds now b = round_ends_if (is_round_over b.state b.state.round) now b
