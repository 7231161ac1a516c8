-- Batches that are to be written, as bytes.
use Rattle.std.specs.Prelude.{◌≡◌, ℕ, List, [], ◌∷◌, ◌++◌, length, map}
use Rattle.std.specs.List.{flat_map, AllByRecursion}
use Rattle.plain_orders.specs.declared.entry.Entry.{Entry}
use Rattle.journal_records.specs.Records.{IsRecord}
use Rattle.journal_disk.specs.Batches.{batch_bytes}
use Rattle.journal_disk.specs.Parts.{IsSplit}

-- a batch behind its gate, and the closed gate behind it
abbrev pub piece : List Entry → List ℕ
piece entries = batch_bytes entries ++ 0 ∷ []

-- the bytes of these batches in a row, and how many bytes each takes
pub record ArePieces (parts : List (List Entry)) (bytes sizes : List ℕ) : Type 0 where
  pub bytes_are : bytes ≡ flat_map piece parts
  pub sizes_are : sizes ≡ map (λ (p : List Entry). length (piece p)) parts

-- the batches of a part, as bytes
pub record IsStaged (part : List Entry) (bytes sizes : List ℕ) : Type 0 where
  pub parts : List (List Entry)
  pub split : IsSplit part parts
  pub have_records : AllByRecursion IsRecord part
  pub pieces : ArePieces parts bytes sizes
