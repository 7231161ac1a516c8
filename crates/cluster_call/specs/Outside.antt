-- What the outside told in one call.
use Rattle.std.specs.Prelude.{ℕ, List}
use Rattle.outer_io.specs.Told.{SourceTold, SinkTold}

-- the words of the command line, and what each object told
pub record Outside : Type 0 where
  pub words : List (List ℕ)
  pub source : SourceTold
  pub sink : SinkTold

-- these words, and what these objects told
abbrev pub outside : List (List ℕ) → SourceTold → SinkTold → Outside
outside words source sink = record { words = words; source = source; sink = sink }
