-- A set of 16 disks, each in its place or taken.
use Rattle.std.specs.Prelude.{◌≡◌, ◌≢◌, ℕ, ◌-◌, ◌≤◌, List, [], ◌++◌, length, map, replicate, Option, None, Some, IfSome, is_some}
use Rattle.std.specs.List.{slice_index_or}
use Rattle.outer_disk.specs.Counts.{Counts}
use Rattle.outer_disk.specs.Disk.{IsSynced}
use Rattle.outer_disk.specs.Crash.{IsImage}
use Rattle.outer_disk.specs.Faults.{fresh_faults, after_crash}
use Rattle.outer_disk.specs.MemDisk.{DiskState, held}

-- what stands in each place stays
abbrev pub AllStay : {D : Type 0} → (ℕ → Option D) → (ℕ → Option D) → Type 0
AllStay old new = (place : ℕ) → new place ≡ old place

-- the same of each place but one
abbrev pub OthersStay : {D : Type 0} → ℕ → (ℕ → Option D) → (ℕ → Option D) → Type 0
OthersStay server old new = (place : ℕ) → place ≢ server → new place ≡ old place

-- what a crash makes of a disk: where it tells, bytes that a crash might leave, all of them on the disk
pub record Crashes {D : Type 0} (told : D → Option (List ℕ)) (may_leave : D → List ℕ → Type 0) (counts : D → Counts) (old new : D) : Type 0 where
  pub image : IfSome (told new) (λ bytes. may_leave old bytes)
  pub synced : IsSynced (told new) (may_leave new)
  pub telling : is_some (told new) ≡ is_some (told old)
  pub later : (counts old).faults ≤ (counts new).faults

-- what a crash makes of a disk in memory: the image of this pick, all of it on the disk; a stop ends
pub record IsCrashed (pick : ℕ) (old new : DiskState) : Type 0 where
  pub image : IsImage pick old.first old.calls (held new)
  pub synced : new.calls ≡ []
  pub faults : new.faults ≡ after_crash old.faults
  pub out_of_memory : new.out_of_memory ≡ old.out_of_memory

-- a disk that was just made, with no bytes and no faults to come
abbrev pub empty_disk : DiskState
empty_disk = record { first = []; calls = []; faults = fresh_faults [] None; out_of_memory = 0 }

-- these disks in the first places, and empty ones in the others
abbrev pub filled : List DiskState → List (Option DiskState)
filled disks = map (λ d. Some d) disks ++ replicate (16 - length disks) (Some empty_disk)

-- what stands in a place
abbrev pub place_of : {D : Type 0} → List (Option D) → ℕ → Option D
place_of disks place = slice_index_or disks place None
