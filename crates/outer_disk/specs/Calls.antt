-- The calls that a disk in memory has taken, what they did, and what a crash after them may leave.
use Rattle.std.specs.Prelude.{◌≡◌, ℕ, ◌≤◌, ⊤, List, [], ◌∷◌, length, take}
use Rattle.outer_disk.specs.Disk.{written, Torn, Cut}
use Rattle.outer_disk.specs.declared.disk_call.DiskCall.{DiskCall}
use Rattle.outer_disk.specs.declared.disk_call.DiskCall.TheVariants.{Write, Cut as CutTo, Sync}

-- the bytes after a call
abbrev pub after : List ℕ → DiskCall → List ℕ
after bytes (Write at part) = written bytes at part
after bytes (CutTo to) = take to bytes
after bytes Sync = bytes

-- the bytes after calls, the oldest first
abbrev pub bytes_after : List ℕ → List DiskCall → List ℕ
bytes_after bytes [] = bytes
bytes_after bytes (call ∷ calls) = bytes_after (after bytes call) calls

-- a write begins at most at the length, and a cut goes to at most the length
abbrev pub IsWithin : List ℕ → DiskCall → Type 0
IsWithin bytes (Write at part) = at ≤ length bytes
IsWithin bytes (CutTo to) = to ≤ length bytes
IsWithin bytes Sync = ⊤

-- the same of each call, where it came
abbrev pub AreWithin : List ℕ → List DiskCall → Type 0
AreWithin bytes [] = ⊤
AreWithin bytes (call ∷ calls) = IsWithin bytes call × AreWithin (after bytes call) calls

-- what a crash after a call may leave, by the bytes and by what one might have left before it
abbrev pub LeavesAfter : List ℕ → (List ℕ → Type 0) → DiskCall → List ℕ → Type 0
LeavesAfter bytes old (Write at part) c = (d : List ℕ) × old d × Torn at (length part) d c
LeavesAfter bytes old (CutTo to) c = (d : List ℕ) × old d × Cut to d c
LeavesAfter bytes old Sync c = c ≡ bytes

-- the same after several calls
abbrev pub LeavesFrom : List ℕ → (List ℕ → Type 0) → List DiskCall → List ℕ → Type 0
LeavesFrom bytes old [] c = old c
LeavesFrom bytes old (call ∷ calls) c = LeavesFrom (after bytes call) (LeavesAfter bytes old call) calls c

-- what a crash may leave of a disk that had these first bytes, on the disk, and took these calls
abbrev pub MayLeave : List ℕ → List DiskCall → List ℕ → Type 0
MayLeave first calls c = LeavesFrom first (λ d. d ≡ first) calls c

-- what a crash after t of the calls, or more, might have left
abbrev pub LeftSince : List ℕ → List DiskCall → ℕ → List ℕ → Type 0
LeftSince first calls t c = (k : ℕ) × (t ≤ k) × (k ≤ length calls) × MayLeave first (take k calls) c
