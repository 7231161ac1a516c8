-- The table of connections of the net in memory.
use Rattle.std.specs.Prelude.{ℕ, ◌≡◌, ◌<◌, ◌≤◌, ◌^◌, List, map, take, length, min, slice_get, All, Bool, false, Some, nat_lt, ◌||◌, if◌then◌else◌}
use Rattle.std.specs.Option.{option_map_or}
use Rattle.outer_link.specs.declared.connection.Connection.{Connection}
use Rattle.outer_link.specs.declared.end.End.{End}
use Rattle.outer_link.specs.declared.moved.Took.{Took}
use Rattle.outer_link.specs.declared.moved.Took.TheVariants.{Bytes, NotNow, Ended}
use Rattle.outer_link.specs.ServerState.{ServerState, reach_of, has_cut}
use Rattle.outer_link.specs.Told.{ConnTold, Told, is_cut_at, is_waiting, undelivered}

-- how many application servers there are, and what stands on the connections
pub record TableState : Type 0 where
  pub apps : ℕ
  pub told : Told

-- the connection was cut with its pair or its data server
abbrev pub is_cut_together : List ServerState → Connection → Bool
is_cut_together servers c = option_map_or (λ s. has_cut s c.app c.made) (slice_get servers c.server) false

-- what is told of a connection
abbrev pub conn_told : List ServerState → Connection → ConnTold
conn_told servers c = record {
  app = c.app;
  server = c.server;
  is_cut = c.is_cut || is_cut_together servers c;
  accepted = c.is_accepted;
  lines = c.lines;
}

abbrev pub told_of : List ServerState → List Connection → Told
told_of servers conns = record { conns = map (conn_told servers) conns; servers = map reach_of servers }

-- none of the connections waits for this data server
abbrev pub NoneWaits : ℕ → List ConnTold → Type 0
NoneWaits server conns = All (λ c. is_waiting server c ≡ false) conns

-- no count of made connections is above how many there are
abbrev pub CutsWithin : ℕ → ServerState → Type 0
CutsWithin made s = (s.cut_before ≤ made) × All (λ p. p.cut_before ≤ made) s.pairs

-- none of the connections that this data server has seen waits there
abbrev pub SeesNone : List ConnTold → ℕ → ServerState → Type 0
SeesNone conns server s = (s.seen ≤ length conns) × NoneWaits server (take s.seen conns)

-- what is true of the table's parts
pub record IsSound (apps : ℕ) (servers : List ServerState) (conns : List Connection) : Type 0 where
  pub pairs : All (λ s. length s.pairs ≡ apps) servers
  pub numbers : length conns ≤ 2 ^ 32
  pub made : All (λ c. c.made < length conns) conns
  pub cuts : All (CutsWithin (length conns)) servers
  pub seen : (n : ℕ) (s : ServerState) → slice_get servers n ≡ Some s → SeesNone (map (conn_told servers) conns) n s

-- what a take answers: a connection that is cut has ended, and else it gives as many bytes as there are and fit
abbrev pub answer_to_take : Told → ℕ → End → ℕ → Took
answer_to_take t n end room =
    if is_cut_at t n then Ended else
    (if nat_lt 0 (length (undelivered t n end)) then Bytes (min (length (undelivered t n end)) room) else NotNow)
