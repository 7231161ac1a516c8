-- Batches of entries, as a journal has them.
use Rattle.std.specs.Prelude.{◌≢◌, ℕ, ◌+◌, ◌<◌, ◌≤◌, List, [], ◌∷◌, ◌++◌, length}
use Rattle.std.specs.List.{flat_map, AllByRecursion}
use Rattle.plain_orders.specs.declared.entry.Entry.{Entry}
use Rattle.plain_orders.specs.Ordered.{IsOrdered}
use Rattle.field_bytes.specs.Fields.{u32_bytes}
use Rattle.journal_records.specs.Records.{entry_bytes, IsRecord}

-- the records of entries in a row
abbrev pub records : List Entry → List ℕ
records entries = flat_map entry_bytes entries

-- how many bytes a batch has behind its length: the version byte and the records
abbrev pub body_length : List Entry → ℕ
body_length entries = 1 + length (records entries)

-- a batch behind its gate: its length, the version byte, and the records
abbrev pub batch_bytes : List Entry → List ℕ
batch_bytes entries = u32_bytes (body_length entries) ++ (1 ∷ records entries)

-- a batch behind an open gate, which may be any byte but 0
pub record Batch : Type 0 where
  pub gate : ℕ
  pub entries : List Entry

-- the bytes of batches in a row, each behind its gate
abbrev pub bytes_of : List Batch → List ℕ
bytes_of batches = flat_map (λ (b : Batch). b.gate ∷ batch_bytes b.entries) batches

-- their entries
abbrev pub entries_of : List Batch → List Entry
entries_of batches = flat_map (λ (b : Batch). b.entries) batches

-- at least one entry, and no more bytes than a batch may have
pub record FitsBatch (entries : List Entry) : Type 0 where
  pub some : 0 < length entries
  pub short : body_length entries ≤ 16777216

-- these entries are a batch that may stand behind those: each has a record, and they go on as an ordered list
pub record IsBatch (before entries : List Entry) : Type 0 where
  pub fits : FitsBatch entries
  pub have_records : AllByRecursion IsRecord entries
  pub ordered : IsOrdered (before ++ entries)

-- batches in a row behind these entries, each well formed and behind an open gate
abbrev pub AreBatches : List Entry → List Batch → Type 0
AreBatches before [] = Unit {0}
AreBatches before (b ∷ batches) = (b.gate ≢ 0) × IsBatch before b.entries × AreBatches (before ++ b.entries) batches
