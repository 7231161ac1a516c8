-- What happens on the connections of a pair.
use Rattle.std.specs.Prelude.{ℕ, Bool, true, false, ◌==◌, ◌&&◌, ◌+◌, if◌then◌else◌, List, [], ◌∷◌, ◌++◌, map, drop, Option, Some, None}
use Rattle.std.specs.List.{filter, list_any}
use Rattle.std.specs.Option.{option_map}
use Rattle.ecp_messages.specs.declared.up.UpFrame.{UpFrame}
use Rattle.ecp_messages.specs.declared.down.Down.{Down}
use Rattle.ecp_messages.specs.declared.down.Down.TheVariants as down
use Rattle.ecp_messages.specs.declared.down.DownFrame.{DownFrame}
use Rattle.data_rules.specs.declared.down_frames.DownOut.{DownOut}
use Rattle.app_rules.specs.declared.up_frames.UpOut.{UpOut}
use Rattle.cluster_runs.specs.CoresState.{Dial, Linked}
use Rattle.app_rules.specs.AppState.{Session}
use Rattle.cluster_runs.specs.Sent.{Place, Connection, Knew, FirstTaken}
use Rattle.cluster_runs.specs.Machine.{End, Site, DataConnection}

-- what is known of a session that was told of an order, or without one
abbrev pub knows_of : Option Session → Option Place → ℕ → Knew
knows_of None told greatest = record { session = greatest; mark = None }
knows_of (Some s) None greatest = record { session = s.number; mark = None }
knows_of (Some s) (Some p) greatest = record { session = s.number; mark = Some (record { order = p.order; taken = s.window.taken }) }

-- what an application server knows of a pair
abbrev pub knows : End → Knew
knows e = knows_of e.state.session e.told e.state.told

-- a connection that was just made by one that knows this
abbrev pub fresh_connection : Knew → Connection
fresh_connection knew =
    record { ups = []; ups_taken = 0; downs = []; downs_taken = 0; linked = false; app_left = false; data_left = false; its = None; knew = knew; first = None }

-- where the first frame was taken, if it was before, else here
abbrev pub first_else : Option FirstTaken → FirstTaken → FirstTaken
first_else None here = here
first_else (Some x) here = x

-- the data end takes the next frame on its connection of this number, in the order with this place, and is linked from then on
abbrev pub up_taken : ℕ → ℕ → Connection → Connection
up_taken k conn c = record c {
  ups_taken = c.ups_taken + 1;
  linked = true;
  first = Some (first_else c.first (record { order = k; conn = conn }));
}

-- the application end takes the next frame
abbrev pub down_taken : Connection → Connection
down_taken c = record c { downs_taken = c.downs_taken + 1 }

-- the application end leaves
abbrev pub app_leaves : Connection → Connection
app_leaves c = record c { app_left = true }

-- the data end leaves
abbrev pub data_leaves : Connection → Connection
data_leaves c = record c { data_left = true }

-- What shows of it: what was put and not taken. What an end leaves is lost to it.
abbrev pub dial_of : ℕ → ℕ → ℕ → Connection → Dial
dial_of app server number c = record {
  app = app;
  server = server;
  number = number;
  up = if c.data_left then [] else drop c.ups_taken c.ups;
  down = if c.app_left then [] else drop c.downs_taken c.downs;
  linked = c.linked;
  app_left = c.app_left;
  data_left = c.data_left;
}

-- frames more upwards
abbrev pub with_ups : List UpFrame → Connection → Connection
with_ups fs c = record c { ups = c.ups ++ fs }

-- the session that a Welcome names
abbrev pub welcomed : ℕ → Option Place → Down → Option Place
welcomed k its (down.Welcome session epoch kept front taken) = Some (record { session = session; order = k })
welcomed k its (down.Reset session at) = its
welcomed k its (down.Block front block) = its
welcomed k its (down.Drop front lo hi) = its
welcomed k its (down.Ack front) = its
welcomed k its (down.Grant front ticket at) = its
welcomed k its (down.Answer front about job number at sum) = its
welcomed k its (down.Normal front) = its
welcomed k its down.Bare = its

-- frames more downwards, in the order with this place; a Welcome among them says whose messages follow
abbrev pub with_downs : ℕ → List DownFrame → Connection → Connection
with_downs k [] c = c
with_downs k (f ∷ fs) c = with_downs k fs (record c { downs = c.downs ++ f ∷ []; its = welcomed k c.its f.message })

-- an end's connection of this number, changed
abbrev pub at_number : ℕ → (Connection → Connection) → End → End
at_number number f e = record e { connection_at = λ n. if n == number then option_map f (e.connection_at n) else e.connection_at n }

-- it makes a connection
abbrev pub with_connection : ℕ → End → End
with_connection number e = record e { connection_at = λ n. if n == number then Some (fresh_connection (knows e)) else e.connection_at n }

-- all connections of a data server's pairs, each changed by its application server and its number
abbrev pub at_each : (ℕ → ℕ → Connection → Connection) → Site → Site
at_each f x = record x { end_at = λ a. record (x.end_at a) { connection_at = λ n. option_map (f a n) ((x.end_at a).connection_at n) } }

-- what a data connection is linked to, if it was accepted
abbrev pub link_in : Option DataConnection → Option Linked
link_in None = None
link_in (Some c) = c.link

-- what a data connection is linked to
abbrev pub link_of : Site → ℕ → Option Linked
link_of x conn = link_in (x.connection_at conn)

-- a link is to the application server's connection of this number
abbrev pub is_link : ℕ → ℕ → Option Linked → Bool
is_link app number None = false
is_link app number (Some l) = l.app == app && l.dial == number

-- the connection that a data connection is linked to, changed
abbrev pub at_link : Option Linked → (Connection → Connection) → Site → Site
at_link l f x = at_each (λ a n c. if is_link a n l then f c else c) x

-- a data connection, changed
abbrev pub at_conn : ℕ → (DataConnection → DataConnection) → Site → Site
at_conn conn f x = record x { connection_at = λ n. if n == conn then option_map f (x.connection_at n) else x.connection_at n }

-- a data connection is accepted
abbrev pub accepts : ℕ → Site → Site
accepts conn x = record x { connection_at = λ n. if n == conn then Some (record { link = None; left = false }) else x.connection_at n }

-- the first link, and the second where there is none
abbrev pub link_else : Option Linked → Option Linked → Option Linked
link_else None l = l
link_else (Some x) l = Some x

-- it is linked where it wasn't
abbrev pub linked_if : Option Linked → DataConnection → DataConnection
linked_if l c = record c { link = link_else c.link l }

-- the data end has left it
abbrev pub left : DataConnection → DataConnection
left c = record c { left = true }

-- the data end leaves a connection
abbrev pub leaves_conn : ℕ → Site → Site
leaves_conn conn x = at_conn conn left (at_link (link_of x conn) data_leaves x)

-- it leaves several, in this order
abbrev pub leaves_conns : List ℕ → Site → Site
leaves_conns [] x = x
leaves_conns (conn ∷ conns) x = leaves_conns conns (leaves_conn conn x)

-- it leaves one of which it took something
abbrev pub leaves_linked : Connection → Connection
leaves_linked c = record c { data_left = if c.linked then true else c.data_left }

-- it leaves all of them; one of which it took nothing may still come
abbrev pub leaves_all : Site → Site
leaves_all x = at_each (λ a n c. leaves_linked c) (record x { connection_at = λ n. option_map left (x.connection_at n) })

-- a frame is put on the connection that this one is linked to
abbrev pub is_out_on : Site → ℕ → ℕ → DownOut → Bool
is_out_on x app number f = is_link app number (link_of x f.conn)

-- the frame that is put
abbrev pub down_of : DownOut → DownFrame
down_of f = f.down

-- what a data server puts goes to each connection of its pairs
abbrev pub hears_downs : List DownOut → Site → Site
hears_downs frames x = at_each (λ a n c. with_downs x.past (map down_of (filter (is_out_on x a n) frames)) c) x

-- a frame is put to this data server
abbrev pub is_out_to : ℕ → UpOut → Bool
is_out_to server f = f.server == server

-- the frame that is put
abbrev pub up_of : UpOut → UpFrame
up_of f = f.up

-- what an application server puts to one data server
abbrev pub ups_to : ℕ → List UpOut → List UpFrame
ups_to server frames = map up_of (filter (is_out_to server) frames)

-- it is this data server
abbrev pub is_index : ℕ → ℕ → Bool
is_index server n = n == server

-- the application end leaves the connection that it has, where it is told to
abbrev pub leaves_if : Bool → Connection → Connection
leaves_if true c = app_leaves c
leaves_if false c = c

-- what its step puts goes to the connection that the end has after it, which it leaves then where the step cuts it
abbrev pub carries_up : ℕ → ℕ → List UpOut → List ℕ → End → End
carries_up server number frames cuts e =
    at_number number (λ c. leaves_if (list_any (is_index server) cuts) (with_ups (ups_to server frames) c)) e
