-- What a journal needs of its disk before it appends.
use Rattle.std.specs.Prelude.{◌≡◌, ℕ, List, [], ◌∷◌, ◌++◌, length, Bool, Option}
use Rattle.std.specs.Option.{ForSome}
use Rattle.plain_orders.specs.declared.entry.Entry.{Entry}
use Rattle.plain_orders.specs.Ordered.{IsOrdered}
use Rattle.outer_disk.specs.Disk.{Only}
use Rattle.journal_disk.specs.Batches.{Batch, bytes_of, entries_of, AreBatches}
use Rattle.journal_disk.specs.Stands.{Stands}

-- a journal: the place of its closed gate, and whether it has to be started anew
pub record JournalState : Type 0 where
  pub gate : ℕ
  pub needs_start : Bool

-- bytes are batches of a list and a closed gate at this place, with nothing behind it
pub record IsResting (bytes : List ℕ) (gate : ℕ) (list : List Entry) : Type 0 where
  pub batches : List Batch
  pub whole : AreBatches [] batches
  pub file : bytes ≡ bytes_of batches ++ 0 ∷ []
  pub place : gate ≡ length (bytes_of batches)
  pub same : entries_of batches ≡ list

-- where a disk tells its bytes, they rest so, and a crash leaves nothing else
abbrev pub IsSettled : Option (List ℕ) → (List ℕ → Type 0) → ℕ → List Entry → Type 0
IsSettled told may_leave gate list = ForSome told (λ bytes. IsResting bytes gate list × Only bytes may_leave)

-- where a disk tells its bytes, they and all that a crash may leave stand for the list
abbrev pub EachStands : Option (List ℕ) → (List ℕ → Type 0) → List Entry → Type 0
EachStands told may_leave list = ForSome told (λ bytes. Stands bytes list × ((c : List ℕ) → may_leave c → Stands c list))

-- a part may be appended where a journal's disk is settled for a list that the part continues as an ordered list
abbrev pub MayAppend : Option (List ℕ) → (List ℕ → Type 0) → ℕ → List Entry → List Entry → Type 0
MayAppend told may_leave gate list part = IsSettled told may_leave gate list × IsOrdered (list ++ part)
