-- Connections of a data server come, change what they are for, and go.
use Rattle.std.specs.Prelude.{ℕ, Bool, true, false, ◌==◌, not, if◌then◌else◌, [], ◌∷◌, ◌++◌, Option, Some, None, get_or, set, map}
use Rattle.std.specs.List.{filter, find}
use Rattle.std.specs.Option.{option_map}
use Rattle.plain_orders.specs.declared.act.Act.TheVariants.{Broke}
use Rattle.plain_orders.specs.declared.causes.PairEnd.TheVariants as ends
use Rattle.link_states.specs.declared.data_link.DataLink.{DataLink}
use Rattle.link_states.specs.declared.data_link.DataLink.TheVariants.{Free, Normal, Trouble, Recovering}
use Rattle.link_states.specs.declared.link_event.LinkEvent.{LinkEvent}
use Rattle.link_states.specs.declared.link_event.LinkEvent.TheVariants.{Ended}
use Rattle.link_states.specs.Tables.{data_next}
use Rattle.plain_orders.specs.Sessions.{app_in}
use Rattle.data_rules.specs.declared.rows.Conn.{Conn}
use Rattle.data_rules.specs.declared.rows.Caller.{Caller}
use Rattle.data_rules.specs.declared.rows.Role.{Role}
use Rattle.data_rules.specs.DataState.{DataState}
use Rattle.data_rules.specs.declared.rows.Role.TheVariants.{New, Waiting, Bound, Closing}
use Rattle.data_rules.specs.Puts.{Sofar, becomes, writes, cuts, says_on, without_replies}

-- the connection has this number
abbrev pub is_conn : ℕ → Conn → Bool
is_conn number c = c.number == number

-- the connection has another number
abbrev pub is_other_conn : ℕ → Conn → Bool
is_other_conn number c = not (c.number == number)

-- what a connection is for
abbrev pub role_in : Conn → Role
role_in c = c.role

-- what a connection is for, if it is there
abbrev pub role_of : DataState → ℕ → Option Role
role_of d number = option_map role_in (find (is_conn number) d.conns)

-- the connection with this number is for this, others stay as they are
abbrev pub with_role_if : ℕ → Role → Conn → Conn
with_role_if number role c = if c.number == number then record c { role = role } else c

-- a connection is for this from now on
abbrev pub with_role : ℕ → Role → DataState → DataState
with_role number role d = record d { conns = map (with_role_if number role) d.conns }

-- a connection more, on which nothing was taken
abbrev pub with_conn : ℕ → DataState → DataState
with_conn number d = record d { conns = d.conns ++ record { number = number; role = New } ∷ [] }

-- the Hello came on another connection
abbrev pub is_other_caller : ℕ → Caller → Bool
is_other_caller number c = not (c.conn == number)

-- a connection goes, with its Hello and with what waits to be put on it
abbrev pub without_conn : ℕ → DataState → DataState
without_conn number d =
    without_replies (says_on number)
    (record d { conns = filter (is_other_conn number) d.conns; callers = filter (is_other_caller number) d.callers })

-- the state of an application server's end
abbrev pub link_of : DataState → ℕ → DataLink
link_of d app = get_or d.links app Free

-- an application server's end is in this state
abbrev pub with_link : ℕ → DataLink → DataState → DataState
with_link app link d = record d { links = set d.links app link }

-- an event at an end
abbrev pub with_event : ℕ → ℕ → LinkEvent → DataState → DataState
with_event app now event d = with_link app (data_next d.times now (link_of d app) event) d

-- the end is Normal
abbrev pub is_normal : DataLink → Bool
is_normal Free = false
is_normal Normal = true
is_normal (Trouble broke) = false
is_normal (Recovering due) = false

-- an end breaks where it was Normal
abbrev pub breaks_if : Bool → ℕ → ℕ → Sofar → Sofar
breaks_if true app now b = writes (Broke app b.state.server ends.Server now) b
breaks_if false app now b = b

-- an application server's end lost its connection
abbrev pub end_breaks : Option ℕ → ℕ → Sofar → Sofar
end_breaks None now b = b
end_breaks (Some app) now b = becomes (with_event app now Ended) (breaks_if (is_normal (link_of b.state app)) app now b)

-- the end of a live session lost its connection
abbrev pub loses_conn : Option Role → ℕ → Sofar → Sofar
loses_conn None now b = b
loses_conn (Some New) now b = b
loses_conn (Some Waiting) now b = b
loses_conn (Some (Bound session)) now b = end_breaks (app_in b.state.order session) now b
loses_conn (Some (Closing session)) now b = b

-- a connection ended
abbrev pub leaves_conn : ℕ → ℕ → Sofar → Sofar
leaves_conn number now b = loses_conn (role_of b.state number) now (becomes (without_conn number) b)

-- this end ends a connection
abbrev pub ends_conn : ℕ → ℕ → Sofar → Sofar
ends_conn number now b = cuts number (leaves_conn number now b)

-- a newer connection takes the place of this one, if there is one, and the state of its end stays
abbrev pub drops_conn : Option ℕ → Sofar → Sofar
drops_conn None b = b
drops_conn (Some number) b = cuts number (becomes (without_conn number) b)
