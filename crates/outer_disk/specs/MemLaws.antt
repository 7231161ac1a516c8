-- Proofs of the laws of a disk, for one in memory. They stand here since an implementation cites no proofs of its own crate.
-- Nobody has to believe them.
use Rattle.std.specs.Prelude.{◌≡◌, ℕ, ◌≤◌, List, length, take}
use Rattle.std.proofs.Common.{sym, subst, arith}
use Rattle.std.proofs.Math.Seq.{take-length}
use Rattle.outer_disk.specs.Calls.{MayLeave}
use Rattle.outer_disk.specs.MemDisk.{DiskState, MayLeaveOf, LeftSinceOf, moment_of}
use Rattle.outer_disk.specs.declared.disk_call.DiskCall.{DiskCall}

-- what a crash may leave now it might have left since earlier
pub counts_now_of : (d : DiskState) (t : ℕ) (c : List ℕ) → t ≤ moment_of d → MayLeaveOf d c → LeftSinceOf d t c
counts_now_of d t c le now = (length d.calls, le, omega arith, subst (λ (cs : List DiskCall). MayLeave d.first cs c) (sym (take-length d.calls)) now)

-- since this moment it may leave only what it may leave now
pub only_now_of : (d : DiskState) (c : List ℕ) → LeftSinceOf d (moment_of d) c → MayLeaveOf d c
only_now_of d c (k, from, to, left) =
    let all : k ≡ length d.calls = omega arith in
    subst (λ (cs : List DiskCall). MayLeave d.first cs c) (take-length d.calls) (subst (λ n. MayLeave d.first (take n d.calls) c) all left)
