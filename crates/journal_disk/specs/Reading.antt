-- What the steps of reading a journal find.
use Rattle.std.specs.Prelude.{◌≡◌, ◌≢◌, ◌⊎◌, ℕ, ◌+◌, ◌<◌, ◌≤◌, List, [], ◌∷◌, ◌++◌, length}
use Rattle.std.specs.List.{AllByRecursion}
use Rattle.plain_orders.specs.declared.entry.Entry.{Entry}
use Rattle.plain_orders.specs.Ordered.{IsOrdered}
use Rattle.field_bytes.specs.Fields.{u32_bytes}
use Rattle.journal_records.specs.Records.{entry_bytes, IsRecord}
use Rattle.journal_disk.specs.Batches.{Batch, records, batch_bytes, bytes_of, entries_of, IsBatch, AreBatches}
use Rattle.journal_disk.specs.Stands.{IsLow, AreLow}

-- an entry may be read behind these
abbrev pub MayBeRead : List Entry → Entry → Type 0
MayBeRead before e = IsOrdered (before ++ e ∷ []) × IsLow e

-- a record of such an entry stands in front of the bytes, and these follow it
pub record TakesRecord (before now : List Entry) (bytes rest : List ℕ) : Type 0 where
  pub entry : Entry
  pub is_record : IsRecord entry
  pub may : MayBeRead before entry
  pub split : bytes ≡ entry_bytes entry ++ rest
  pub added : now ≡ before ++ entry ∷ []

-- no record of such an entry stands in front of the bytes
abbrev pub NoRecordMay : List Entry → List ℕ → Type 0
NoRecordMay before bytes = (e : Entry) (rest : List ℕ) → IsRecord e → MayBeRead before e → bytes ≢ entry_bytes e ++ rest

-- the bytes are records of such entries in a row
pub record TakesRecords (before now : List Entry) (bytes : List ℕ) : Type 0 where
  pub entries : List Entry
  pub have_records : AllByRecursion IsRecord entries
  pub ordered : IsOrdered now
  pub low : AreLow entries
  pub all : bytes ≡ records entries
  pub added : now ≡ before ++ entries

-- the bytes are not records of such entries
abbrev pub NoRecordsMay : List Entry → List ℕ → Type 0
NoRecordsMay before bytes = (es : List Entry) → AllByRecursion IsRecord es → IsOrdered (before ++ es) → AreLow es → bytes ≢ records es

-- a batch's length, its version and these records stand in front of the bytes, and then another gate
pub record TakesBody (bytes body rest : List ℕ) : Type 0 where
  pub some : 0 < length body
  pub short : 1 + length body ≤ 16777216
  pub split : bytes ≡ u32_bytes (1 + length body) ++ ((1 ∷ body) ++ rest)
  pub gate : 0 < length rest

-- no such bytes stand there
abbrev pub NoBodyAhead : List ℕ → Type 0
NoBodyAhead bytes = (body : List ℕ) (next : ℕ) (more : List ℕ) → 0 < length body → 1 + length body ≤ 16777216
    → bytes ≢ u32_bytes (1 + length body) ++ ((1 ∷ body) ++ next ∷ more)

-- a batch stands in front of the bytes, and then another gate
pub record TakesBatch (before now : List Entry) (bytes rest : List ℕ) : Type 0 where
  pub entries : List Entry
  pub batch : IsBatch before entries
  pub low : AreLow entries
  pub split : bytes ≡ batch_bytes entries ++ rest
  pub added : now ≡ before ++ entries
  pub gate : 0 < length rest

-- no batch stands there
abbrev pub NoBatchAhead : List Entry → List ℕ → Type 0
NoBatchAhead before bytes = (entries : List Entry) (next : ℕ) (more : List ℕ) → IsBatch before entries → AreLow entries
    → bytes ≢ batch_bytes entries ++ next ∷ more

-- batches of a list and a closed gate at this place
pub record HasGate (bytes : List ℕ) (list : List Entry) (gate : ℕ) : Type 0 where
  pub batches : List Batch
  pub whole : AreBatches [] batches
  pub rest : List ℕ
  pub file : bytes ≡ bytes_of batches ++ 0 ∷ rest
  pub place : gate ≡ length (bytes_of batches)
  pub same : entries_of batches ≡ list

-- bytes stand for a list, and their closed gate is here, or has to be put here
abbrev pub IsRead : List ℕ → List Entry → ℕ → Type 0
IsRead bytes list gate = ((length bytes ≤ 1) × (list ≡ []) × (gate ≡ 0)) ⊎ HasGate bytes list gate
