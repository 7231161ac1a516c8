-- How the entries of a part go into batches.
use Rattle.std.specs.Prelude.{◌≡◌, ℕ, ◌<◌, List, [], ◌∷◌, ◌++◌, length, take}
use Rattle.std.specs.List.{flat_map}
use Rattle.plain_orders.specs.declared.entry.Entry.{Entry}
use Rattle.journal_disk.specs.Batches.{body_length, FitsBatch}
use Rattle.journal_disk.specs.Stands.{Stands}

-- the entries of batches in a row
abbrev pub joined : List (List Entry) → List Entry
joined parts = flat_map (λ (p : List Entry). p) parts

-- the next entry would pass what a batch may have
abbrev pub IsFull : List Entry → List Entry → Type 0
IsFull entries [] = Unit {0}
IsFull entries (e ∷ es) = 16777216 < body_length (entries ++ e ∷ [])

-- each of these is a batch that is full where another follows
abbrev pub AreFilled : List (List Entry) → Type 0
AreFilled [] = Unit {0}
AreFilled (p ∷ parts) = FitsBatch p × IsFull p (joined parts) × AreFilled parts

-- the entries of a part in batches, in order
pub record IsSplit (part : List Entry) (parts : List (List Entry)) : Type 0 where
  pub whole : joined parts ≡ part
  pub filled : AreFilled parts

-- the entries of a part fill so many batches
abbrev pub IsInBatches : List Entry → ℕ → Type 0
IsInBatches part n = (parts : List (List Entry)) × IsSplit part parts × (length parts ≡ n)

-- bytes stand for a list with some of these batches from the front, each whole
abbrev pub StandsWithSome : List Entry → List (List Entry) → List ℕ → Type 0
StandsWithSome list parts bytes = (k : ℕ) × Stands bytes (list ++ joined (take k parts))
