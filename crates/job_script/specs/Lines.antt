-- The lines of a text.
use Rattle.std.specs.Prelude.{ℕ, List, [], ◌∷◌, ◌++◌, ◌==◌, if◌then◌else◌}

-- LF ends a line
abbrev pub LF : ℕ
LF = 10

-- a CR that ends these bytes is dropped
abbrev pub without_cr : List ℕ → List ℕ
without_cr [] = []
without_cr (b ∷ []) = if b == 13 then [] else b ∷ []
without_cr (b ∷ c ∷ bytes) = b ∷ without_cr (c ∷ bytes)

-- the lines of a text after these bytes of a line: each without its LF and a CR before that. What stands after
-- the last LF is a line too, unless it is empty, and its CR stays.
abbrev pub lines_behind : List ℕ → List ℕ → List (List ℕ)
lines_behind [] [] = []
lines_behind (b ∷ front) [] = (b ∷ front) ∷ []
lines_behind front (b ∷ text) = if b == LF then without_cr front ∷ lines_behind [] text else lines_behind (front ++ b ∷ []) text

-- the lines of a text
abbrev pub script_lines : List ℕ → List (List ℕ)
script_lines text = lines_behind [] text
