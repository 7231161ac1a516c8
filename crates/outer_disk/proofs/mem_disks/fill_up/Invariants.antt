use Rattle.std.proofs.Common.{◌≡◌, ◌-◌, ◌≤◌, ◌++◌, Some}
use Rattle.std.specs.Prelude.{replicate, vec_len}
use Rattle.outer_disk.specs.DiskSet.{empty_disk}
use Rattle.outer_disk.proofs.mem_disks.fill_up.Given as goal

abbrev pub invariant-loop-place : goal.invariant-loop-place
invariant-loop-place l = (l.places.items ≡ l.initial.places.items ++ replicate (l._place - vec_len l.initial.places) (Some empty_disk)) × (l._place ≤ 16)
