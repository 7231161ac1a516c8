-- What a sink took of a piece, where it tells.
use Rattle.std.specs.Prelude.{ℕ, List, take, length, ◌≤◌, Option, Result, MatchResult}
use Rattle.std.specs.Io.KnownBytes.{Appends}

-- the sink holds some of the piece more, from its front
abbrev pub TookFront : Option (List ℕ) → Option (List ℕ) → List ℕ → Type 0
TookFront old new piece = (n : ℕ) × (n ≤ length piece) × Appends old new (take n piece)

-- at `Ok(n)` the first n bytes, and else some of the piece from its front
abbrev pub Took : {E : Type 0} → Option (List ℕ) → Option (List ℕ) → Result ℕ E → List ℕ → Type 0
Took old new result piece = MatchResult result (λ n. Appends old new (take n piece)) (λ _. TookFront old new piece)
