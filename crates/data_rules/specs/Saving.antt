-- More of the order is synced, and the clock ticks.
use Rattle.std.specs.Prelude.{ℕ, Bool, true, false, List, [], ◌∷◌, length, take, drop, nat_lt}
use Rattle.std.specs.List.{filter, list_any}
use Rattle.plain_orders.specs.declared.entry.Entry.{Entry}
use Rattle.plain_orders.specs.declared.entry.Entry.TheVariants.{Epoch, Opened, Closed, Update, Commit, Rollback}
use Rattle.plain_orders.specs.declared.act.Act.TheVariants.{Synced, Release}
use Rattle.plain_orders.specs.declared.causes.ShutCause.{ShutCause}
use Rattle.plain_orders.specs.declared.causes.ShutCause.TheVariants as shuts
use Rattle.plain_orders.specs.ItemEntries.{is_item_of}
use Rattle.plain_orders.specs.Sessions.{live_sessions}
use Rattle.link_states.specs.declared.data_link.DataLink.{DataLink}
use Rattle.link_states.specs.declared.data_link.DataLink.TheVariants.{Free, Normal, Trouble, Recovering}
use Rattle.link_states.specs.declared.link_event.LinkEvent.TheVariants.{Ticked}
use Rattle.link_states.specs.Tables.{data_next}
use Rattle.ecp_messages.specs.declared.down.Down.TheVariants.{Ack}
use Rattle.data_rules.specs.declared.rows.LiveEnd.{LiveEnd}
use Rattle.data_rules.specs.DataState.{DataState}
use Rattle.lock_table.specs.LockWords.{without_session}
use Rattle.data_rules.specs.Puts.{Sofar, becomes, writes, puts, head_of}
use Rattle.data_rules.specs.Leaving.{flushed}
use Rattle.data_rules.specs.Granting.{locks_become}
use Rattle.data_rules.specs.Conns.{link_of, with_event}
use Rattle.data_rules.specs.Closing.{closes}
use Rattle.data_rules.specs.Opening.{live_ends, rounds}
use Rattle.data_rules.specs.Messages.{is_awaited}

-- the locks of a session go whose Close is synced
abbrev pub releases : ℕ → Sofar → Sofar
releases session b =
    locks_become (without_session b.state.locks session (length b.state.order)) (writes (Release b.state.server session) b)

-- the sessions of the Closes among some entries, in their order
abbrev pub closed_in : List Entry → List ℕ
closed_in [] = []
closed_in (Epoch number ∷ es) = closed_in es
closed_in (Opened session app ∷ es) = closed_in es
closed_in (Closed session ∷ es) = session ∷ closed_in es
closed_in (Update session w job txn op ∷ es) = closed_in es
closed_in (Commit session w job txn ∷ es) = closed_in es
closed_in (Rollback session w job txn ∷ es) = closed_in es

-- the locks of each of these sessions, in this order
abbrev pub releases_all : List ℕ → Sofar → Sofar
releases_all [] b = b
releases_all (session ∷ sessions) b = releases_all sessions (releases session b)

-- an item of the session stands among some entries
abbrev pub has_item_of : List Entry → ℕ → Bool
has_item_of part session = list_any (is_item_of session) part

-- an Ack to a session
abbrev pub acks_one : ℕ → Sofar → Sofar
acks_one session b = puts session (Ack (head_of b.state session)) b

-- an Ack to each of these sessions
abbrev pub acks : List ℕ → Sofar → Sofar
acks [] b = b
acks (session ∷ sessions) b = acks sessions (acks_one session b)

-- the live sessions of which an item stands among some entries
abbrev pub savers : List Entry → List Entry → List ℕ
savers order part = filter (has_item_of part) (live_sessions order)

-- the entries that a save covers
abbrev pub part_saved : DataState → ℕ → List Entry
part_saved d upto = drop d.synced (take upto d.order)

-- the act is written where the number rises
abbrev pub writes_synced : Bool → ℕ → Sofar → Sofar
writes_synced true upto b = writes (Synced b.state.server upto) b
writes_synced false upto b = b

-- a save: the sessions whose Close it covers, and those of which it covers an item
abbrev pub saves : List ℕ → List ℕ → ℕ → ℕ → Sofar → Sofar
saves closed acked upto now b =
    rounds now
    (acks acked
    (flushed
    (releases_all closed
    (becomes (λ d. record d { synced = upto })
    (writes_synced (nat_lt b.state.synced upto) upto b)))))

-- why a tick closes a session whose end is in this state
abbrev pub cause_of : DataLink → ℕ → ShutCause
cause_of Free now = shuts.Trouble now
cause_of Normal now = shuts.Trouble now
cause_of (Trouble broke) now = shuts.Trouble now
cause_of (Recovering due) now = shuts.Round now

-- the end has no session
abbrev pub is_free : DataLink → Bool
is_free Free = true
is_free Normal = false
is_free (Trouble broke) = false
is_free (Recovering due) = false

-- an end whose session is done isn't told of the tick
abbrev pub hears_tick : DataLink → Bool → Bool
hears_tick Free awaited = false
hears_tick Normal awaited = true
hears_tick (Trouble broke) awaited = true
hears_tick (Recovering due) awaited = awaited

-- the end becomes free, and its session is closed
abbrev pub closes_late : Bool → ℕ → ℕ → ShutCause → Sofar → Sofar
closes_late true session now cause b = closes session cause b
closes_late false session now cause b = b

-- a tick at an end, which the end is told of or not
abbrev pub ticks_end : Bool → ℕ → ℕ → ℕ → Sofar → Sofar
ticks_end true app session now b =
    becomes (with_event app now Ticked)
    (closes_late (is_free (data_next b.state.times now (link_of b.state app) Ticked)) session now (cause_of (link_of b.state app) now) b)
ticks_end false app session now b = b

-- a tick at the end of a live session
abbrev pub ticks_one : LiveEnd → ℕ → Sofar → Sofar
ticks_one x now b = ticks_end (hears_tick (link_of b.state x.app) (is_awaited b.state x.session)) x.app x.session now b

-- at several, in this order
abbrev pub ticks : List LiveEnd → ℕ → Sofar → Sofar
ticks [] now b = b
ticks (x ∷ xs) now b = ticks xs now (ticks_one x now b)

-- at all that have a live session, by index
abbrev pub ticks_all : ℕ → Sofar → Sofar
ticks_all now b = ticks (live_ends b.state.order) now b
