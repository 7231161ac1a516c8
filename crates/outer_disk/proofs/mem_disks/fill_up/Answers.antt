use Rattle.std.proofs.Common.{rules, arith, Some, vec_len}
use Rattle.outer_disk.specs.DiskSet.{empty_disk}
use Rattle.outer_disk.proofs.Places.{filled_more}
use Rattle.outer_disk.proofs.mem_disks.fill_up.Goals as goal

pub loop-place-preserved : goal.loop-place-preserved
loop-place-preserved c = (
  filled_more c.args.places.now.items c.loop-place.places.items c.push.new.self.items (Some empty_disk) (vec_len c.args.places.now) c.loop-place._place (omega arith)
      c.loop-place.invariant.0 (search rules),
  omega arith,
)
