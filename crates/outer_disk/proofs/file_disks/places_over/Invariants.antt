use Rattle.std.proofs.Common.{◌≡◌, Some}
use Rattle.std.specs.Prelude.{replicate}
use Rattle.outer_disk.specs.FileDisk.{no_calls}
use Rattle.outer_disk.proofs.file_disks.places_over.Given as goal

abbrev pub invariant-loop-place : goal.invariant-loop-place
invariant-loop-place g l = l.places.items ≡ replicate l._place (Some no_calls)
