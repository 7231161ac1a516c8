use Rattle.std.proofs.Common.{rules}
use Rattle.outer_disk.proofs.Replays.{replay_push}
use Rattle.outer_disk.specs.declared.disk_call.DiskCall.TheVariants.{Write}
use Rattle.outer_disk.proofs.mem_disk.MemDisk.take_write.Goals as goal

pub invariant_of-self-2 : goal.invariant_of-self-2
invariant_of-self-2 c =
    let s = c.self.inside in
    replay_push s.calls.items c.push.new.self.items (Write c.args.at c.args.part.now) s.first.items s.bytes.items c.keep_first.new.first.items c.write_into.new.bytes.items
    c.self.invariant (search rules) (search rules) (search rules) (search rules)
