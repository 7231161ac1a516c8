-- What the bytes of a journal stand for, and where they are not a journal.
use Rattle.std.specs.Prelude.{◌≡◌, ◌≢◌, ◌⊎◌, ℕ, ◌<◌, ◌≤◌, List, [], ◌∷◌, ◌++◌, length}
use Rattle.std.specs.List.{AllByRecursion}
use Rattle.plain_orders.specs.declared.limits.TheConstants.{START_EPOCH_LIMIT}
use Rattle.plain_orders.specs.declared.entry.Entry.{Entry}
use Rattle.plain_orders.specs.declared.entry.Entry.TheVariants.{Epoch, Opened, Closed, Update, Commit, Rollback}
use Rattle.journal_disk.specs.Batches.{Batch, batch_bytes, bytes_of, entries_of, IsBatch, AreBatches}

-- batches in a row and then a closed gate; what follows it doesn't matter
pub record HasBatches (bytes : List ℕ) (list : List Entry) : Type 0 where
  pub batches : List Batch
  pub whole : AreBatches [] batches
  pub rest : List ℕ
  pub file : bytes ≡ bytes_of batches ++ 0 ∷ rest
  pub same : entries_of batches ≡ list

-- bytes stand for a list of entries: at most one byte for the empty list, else batches up to a closed gate
abbrev pub Stands : List ℕ → List Entry → Type 0
Stands bytes list = ((length bytes ≤ 1) × (list ≡ [])) ⊎ HasBatches bytes list

-- bytes stand for the list that others stand for, if those stand for one
abbrev pub StandsAs : List ℕ → List ℕ → Type 0
StandsAs old new = (list : List Entry) → Stands old list → Stands new list

-- an entry is no Epoch above the limit of a list that a data server starts from
abbrev pub IsLow : Entry → Type 0
IsLow (Epoch number) = number ≤ START_EPOCH_LIMIT
IsLow (Opened session app) = Unit {0}
IsLow (Closed session) = Unit {0}
IsLow (Update session w job txn op) = Unit {0}
IsLow (Commit session w job txn) = Unit {0}
IsLow (Rollback session w job txn) = Unit {0}

-- none of these entries is an Epoch above that limit
abbrev pub AreLow : List Entry → Type 0
AreLow entries = AllByRecursion IsLow entries

-- the first bad gate is at this place: well formed batches up to it, with no Epoch above that limit, and there an
-- open gate behind which no such batch and its next gate stand
pub record HasBadGate (bytes : List ℕ) (place : ℕ) : Type 0 where
  pub long : 1 < length bytes
  pub batches : List Batch
  pub whole : AreBatches [] batches
  pub low : AreLow (entries_of batches)
  pub gate : ℕ
  pub rest : List ℕ
  pub file : bytes ≡ bytes_of batches ++ gate ∷ rest
  pub here : place ≡ length (bytes_of batches)
  pub is_open : gate ≢ 0
  pub bad : (entries : List Entry) (next : ℕ) (more : List ℕ) → IsBatch (entries_of batches) entries → AreLow entries
      → rest ≢ batch_bytes entries ++ next ∷ more
