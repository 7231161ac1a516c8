-- What a disk in memory tells.
use Rattle.std.specs.Prelude.{◌≡◌, ℕ, List, [], ◌∷◌, length}
use Rattle.outer_io.specs.Plan.{one_more}
use Rattle.outer_io.specs.declared.stops.Stop.{Stop}
use Rattle.outer_io.specs.declared.stops.Stop.TheVariants.{Failed, Memory}
use Rattle.outer_disk.specs.Calls.{bytes_after, AreWithin, MayLeave, LeftSince}
use Rattle.outer_disk.specs.Counts.{Counts}
use Rattle.outer_disk.specs.Faults.{Faults, fault_count}
use Rattle.outer_disk.specs.declared.disk_call.DiskCall.{DiskCall}

-- the bytes that were on the disk at first, the calls that it has taken since, its faults, and how often it has
-- run out of memory
pub record DiskState : Type 0 where
  pub first : List ℕ
  pub calls : List DiskCall
  pub faults : Faults
  pub out_of_memory : ℕ

-- the bytes that a read gives
abbrev pub held : DiskState → List ℕ
held d = bytes_after d.first d.calls

-- what it counts
abbrev pub counts_of : DiskState → Counts
counts_of d = record { faults = fault_count d.faults; out_of_memory = d.out_of_memory; calls = d.faults.plan.calls }

-- what a crash may leave
abbrev pub MayLeaveOf : DiskState → List ℕ → Type 0
MayLeaveOf d = MayLeave d.first d.calls

-- the moment is the number of calls that it has taken
abbrev pub moment_of : DiskState → ℕ
moment_of d = length d.calls

-- what a crash at a moment from t on might have left
abbrev pub LeftSinceOf : DiskState → ℕ → List ℕ → Type 0
LeftSinceOf d = LeftSince d.first d.calls

-- how often it has run out of memory after a call that was stopped so
abbrev pub out_of_memory_with : Stop → ℕ → ℕ
out_of_memory_with Failed out_of_memory = out_of_memory
out_of_memory_with Memory out_of_memory = one_more out_of_memory

-- the first bytes, where those that stand there are kept apart from the first call on
abbrev pub first_of : List DiskCall → List ℕ → List ℕ → List ℕ
first_of [] kept bytes = bytes
first_of (call ∷ calls) kept bytes = kept

-- the bytes are those that the calls leave of the first ones, and each call was within the bytes when it came
pub record IsReplay (calls : List DiskCall) (kept bytes : List ℕ) : Type 0 where
  pub same : bytes ≡ bytes_after (first_of calls kept bytes) calls
  pub within : AreWithin (first_of calls kept bytes) calls
