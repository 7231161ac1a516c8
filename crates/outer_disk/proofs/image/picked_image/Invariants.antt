use Rattle.std.proofs.Common.{false}
use Rattle.std.specs.List.{slice_index_or}
use Rattle.outer_disk.proofs.Picks.{IsPicking}
use Rattle.outer_disk.proofs.image.picked_image.Given as goal

abbrev pub invariant-loop-place : goal.invariant-loop-place
invariant-loop-place l = IsPicking l.pick (λ place. slice_index_or l.marks place false) l.bytes l.synced l.image.items l.number l.place
