use Rattle.std.proofs.Common.{rules, false}
use Rattle.std.specs.List.{slice_index_or}
use Rattle.outer_disk.proofs.Picks.{picking_step}
use Rattle.outer_disk.proofs.image.picked_image.Goals as goal

pub loop-place-preserved : goal.loop-place-preserved
loop-place-preserved c =
    picking_step c.args.pick (λ place. slice_index_or c.args.marks.now place false) c.args.bytes.now c.args.synced.now c.loop-place.image.items c.push.new.self.items
    c.loop-place.number c.loop-place.place c.picked_byte-next.result.0 c.picked_byte-next.result.1 c.loop-place.invariant c.picked_byte-next.ensures.number (cc) (search rules)
