-- What the net in memory keeps of a data server.
use Rattle.std.specs.Prelude.{ℕ, List, map, slice_get, slice_set, Bool, true, false, ◌||◌, nat_lt, replicate}
use Rattle.std.specs.Option.{option_map_or}
use Rattle.outer_link.specs.declared.data_server.Pair.{Pair}
use Rattle.outer_link.specs.Changed.{changed}
use Rattle.outer_link.specs.Told.{ServerTold}

-- whether it listens, how many connections were made before all of its own were last cut, how many from the
-- front do not wait there, and its pairs by application server
pub record ServerState : Type 0 where
  pub listens : Bool
  pub cut_before : ℕ
  pub seen : ℕ
  pub pairs : List Pair

abbrev pub fresh_pair : Pair
fresh_pair = record { parted = false; cut_before = 0 }

abbrev pub fresh_server : ℕ → ServerState
fresh_server apps = record { listens = false; cut_before = 0; seen = 0; pairs = replicate apps fresh_pair }

-- what is told of it
abbrev pub reach_of : ServerState → ServerTold
reach_of s = record { listens = s.listens; parted = map (λ p. p.parted) s.pairs }

-- a connection from this application server, made after so many others, was cut with its pair or its data server
abbrev pub has_cut : ServerState → ℕ → ℕ → Bool
has_cut s app made = nat_lt made s.cut_before || option_map_or (λ p. nat_lt made p.cut_before) (slice_get s.pairs app) false

abbrev pub shut_server : ServerState → ℕ → ServerState
shut_server s made = record s { listens = false; cut_before = made }

abbrev pub parted_server : ServerState → ℕ → ℕ → ServerState
parted_server s app made = record s { pairs = slice_set s.pairs app (record { parted = true; cut_before = made }) }

abbrev pub joined_pair : Pair → Pair
joined_pair p = record p { parted = false }

abbrev pub joined_server : ServerState → ℕ → ServerState
joined_server s app = record s { pairs = changed joined_pair app s.pairs }
