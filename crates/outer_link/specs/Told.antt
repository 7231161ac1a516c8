-- What stands on the connections of a net that tells.
use Rattle.std.specs.Prelude.{ℕ, List, [], ◌∷◌, ◌++◌, map, replicate, slice_get, slice_set, Bool, true, false, not, ◌&&◌, ◌||◌, ◌==◌, unwrap_or, if◌then◌else◌}
use Rattle.std.specs.Option.{option_map_or}
use Rattle.outer_link.specs.declared.end.End.{End}
use Rattle.outer_link.specs.Changed.{changed}
use Rattle.outer_link.specs.Lines.{LinesTold, fresh_lines, left, line_to, put_into, taken_from}

-- a connection: its two servers, whether it is cut, whether it was accepted, and its bytes
pub record ConnTold : Type 0 where
  pub app : ℕ
  pub server : ℕ
  pub is_cut : Bool
  pub accepted : Bool
  pub lines : LinesTold

-- a data server: whether it listens, and from which application servers it is kept apart
pub record ServerTold : Type 0 where
  pub listens : Bool
  pub parted : List Bool

-- the connections by number and the data servers by number
pub record Told : Type 0 where
  pub conns : List ConnTold
  pub servers : List ServerTold

-- a data server that doesn't listen, apart from none of so many application servers
abbrev pub fresh_reach : ℕ → ServerTold
fresh_reach apps = record { listens = false; parted = replicate apps false }

-- no connection was made, and no data server listens
abbrev pub fresh_told : ℕ → ℕ → Told
fresh_told apps servers = record { conns = []; servers = replicate servers (fresh_reach apps) }

-- the bytes to be taken at this end; a connection that is cut has lost them
abbrev pub coming : End → ConnTold → List ℕ
coming end c = if c.is_cut then [] else left (line_to c.lines end)

-- the same, of a connection by number
abbrev pub undelivered : Told → ℕ → End → List ℕ
undelivered t n end = option_map_or (coming end) (slice_get t.conns n) []

-- the connection of this number is cut
abbrev pub is_cut_at : Told → ℕ → Bool
is_cut_at t n = option_map_or (λ c. c.is_cut) (slice_get t.conns n) false

-- the connection waits to be accepted by this data server
abbrev pub is_waiting : ℕ → ConnTold → Bool
is_waiting server c = (c.server == server) && not (c.accepted || c.is_cut)

-- the pair is kept apart
abbrev pub is_parted : Told → ℕ → ℕ → Bool
is_parted t app server = option_map_or (λ s. unwrap_or (slice_get s.parted app) false) (slice_get t.servers server) false

-- the data server listens
abbrev pub is_listening : Told → ℕ → Bool
is_listening t server = option_map_or (λ s. s.listens) (slice_get t.servers server) false

-- the pair may connect
abbrev pub is_open : Told → ℕ → ℕ → Bool
is_open t app server = is_listening t server && not (is_parted t app server)

abbrev pub fresh_conn : ℕ → ℕ → ConnTold
fresh_conn app server = record { app = app; server = server; is_cut = false; accepted = false; lines = fresh_lines }

-- the connections that pass the test are cut
abbrev pub cut_where : (ConnTold → Bool) → ConnTold → ConnTold
cut_where test c = record c { is_cut = c.is_cut || test c }

abbrev pub is_of_server : ℕ → ConnTold → Bool
is_of_server server c = c.server == server

abbrev pub is_of_pair : ℕ → ℕ → ConnTold → Bool
is_of_pair app server c = (c.app == app) && (c.server == server)

abbrev pub with_listening : Bool → ServerTold → ServerTold
with_listening listens s = record s { listens = listens }

abbrev pub with_parted : ℕ → Bool → ServerTold → ServerTold
with_parted app parted s = record s { parted = slice_set s.parted app parted }

abbrev pub after_listen : Told → ℕ → Told
after_listen t server = record t { servers = changed (with_listening true) server t.servers }

abbrev pub after_shut : Told → ℕ → Told
after_shut t server = record {
  conns = map (cut_where (is_of_server server)) t.conns;
  servers = changed (with_listening false) server t.servers;
}

abbrev pub after_part : Told → ℕ → ℕ → Told
after_part t app server = record {
  conns = map (cut_where (is_of_pair app server)) t.conns;
  servers = changed (with_parted app true) server t.servers;
}

abbrev pub after_join : Told → ℕ → ℕ → Told
after_join t app server = record t { servers = changed (with_parted app false) server t.servers }

abbrev pub after_connect : Told → ℕ → ℕ → Told
after_connect t app server = record t { conns = t.conns ++ fresh_conn app server ∷ [] }

abbrev pub accepted_conn : ConnTold → ConnTold
accepted_conn c = record c { accepted = true }

abbrev pub after_accept : Told → ℕ → Told
after_accept t n = record t { conns = changed accepted_conn n t.conns }

-- bytes that are put on a connection that is cut are lost
abbrev pub conn_with : End → List ℕ → ConnTold → ConnTold
conn_with end bytes c = if c.is_cut then c else record c { lines = put_into c.lines end bytes }

abbrev pub after_put : Told → ℕ → End → List ℕ → Told
after_put t n end bytes = record t { conns = changed (conn_with end bytes) n t.conns }

abbrev pub conn_without : End → ℕ → ConnTold → ConnTold
conn_without end count c = record c { lines = taken_from c.lines end count }

abbrev pub after_take : Told → ℕ → End → ℕ → Told
after_take t n end count = record t { conns = changed (conn_without end count) n t.conns }

abbrev pub cut_conn : ConnTold → ConnTold
cut_conn c = record c { is_cut = true }

abbrev pub after_cut : Told → ℕ → Told
after_cut t n = record t { conns = changed cut_conn n t.conns }
