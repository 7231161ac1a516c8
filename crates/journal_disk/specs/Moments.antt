-- What a crash at each moment of a call leaves.
use Rattle.std.specs.Prelude.{◌≡◌, ◌⊎◌, ℕ, ◌≤◌, List, Option}
use Rattle.std.specs.Option.{ForSome}
use Rattle.plain_orders.specs.declared.entry.Entry.{Entry}
use Rattle.outer_disk.specs.Disk.{LeavesOnly}
use Rattle.journal_disk.specs.Parts.{IsSplit, StandsWithSome}

-- from some moment of the call on a crash leaves what has P; one at an earlier moment leaves what it might have left as
-- the call began, or what has P
pub record HasSynced {D : Type 0} (moment : D → ℕ) (left_since : D → ℕ → List ℕ → Type 0) (may_leave : D → List ℕ → Type 0) (old new : D) (P : List ℕ → Type 0) : Type 0 where
  pub synced : ℕ
  pub from : moment old ≤ synced
  pub to : synced ≤ moment new
  pub before : (c : List ℕ) → left_since new (moment old) c → may_leave old c ⊎ P c
  pub each : (c : List ℕ) → left_since new synced c → P c

-- the same, or a crash at any moment of the call leaves only what it might have left as the call began
abbrev pub OnceSynced : {D : Type 0} → (D → ℕ) → (D → ℕ → List ℕ → Type 0) → (D → List ℕ → Type 0) → D → D → (List ℕ → Type 0) → Type 0
OnceSynced moment left_since may_leave old new P = LeavesOnly moment left_since old new (may_leave old) ⊎ HasSynced moment left_since may_leave old new P

-- a call changes nothing: a read gives the same after it, and a crash at any moment of it leaves only what it might
-- have left before
pub record IsKept {D : Type 0} (moment : D → ℕ) (left_since : D → ℕ → List ℕ → Type 0) (may_leave : D → List ℕ → Type 0) (told : D → Option (List ℕ)) (old new : D) : Type 0 where
  pub read : told new ≡ told old
  pub moments : LeavesOnly moment left_since old new (may_leave old)

-- a part goes onto the disk in batches, in order: what a read gives after the call, and what a crash at any moment
-- of it leaves, stands for the list with some of them, each whole
pub record AppendsWhole {D : Type 0} (moment : D → ℕ) (left_since : D → ℕ → List ℕ → Type 0) (told : D → Option (List ℕ)) (old new : D) (list part : List Entry) : Type 0 where
  pub parts : List (List Entry)
  pub split : IsSplit part parts
  pub read : ForSome (told new) (StandsWithSome list parts)
  pub moments : LeavesOnly moment left_since old new (StandsWithSome list parts)
