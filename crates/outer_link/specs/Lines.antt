-- The two directions of a connection.
use Rattle.std.specs.Prelude.{ℕ, ◌+◌, List, [], ◌++◌, drop}
use Rattle.outer_link.specs.declared.end.End.{End}
use Rattle.outer_link.specs.declared.end.End.TheVariants.{App, Server}

-- one direction: the bytes that were put, and how many of them, from the front, were taken
pub record LineTold : Type 0 where
  pub put : List ℕ
  pub taken : ℕ

-- both directions, each named for the end where bytes are put
pub record LinesTold : Type 0 where
  pub from_app : LineTold
  pub from_server : LineTold

abbrev pub fresh_line : LineTold
fresh_line = record { put = []; taken = 0 }

abbrev pub fresh_lines : LinesTold
fresh_lines = record { from_app = fresh_line; from_server = fresh_line }

-- the bytes that were put and not taken
abbrev pub left : LineTold → List ℕ
left l = drop l.taken l.put

-- the direction whose bytes are taken at this end
abbrev pub line_to : LinesTold → End → LineTold
line_to l App = l.from_server
line_to l Server = l.from_app

abbrev pub line_with : LineTold → List ℕ → LineTold
line_with l bytes = record l { put = l.put ++ bytes }

-- the bytes were put at this end
abbrev pub put_into : LinesTold → End → List ℕ → LinesTold
put_into l App bytes = record l { from_app = line_with l.from_app bytes }
put_into l Server bytes = record l { from_server = line_with l.from_server bytes }

abbrev pub line_without : LineTold → ℕ → LineTold
line_without l count = record l { taken = l.taken + count }

-- so many bytes were taken at this end
abbrev pub taken_from : LinesTold → End → ℕ → LinesTold
taken_from l App count = record l { from_server = line_without l.from_server count }
taken_from l Server count = record l { from_app = line_without l.from_app count }
