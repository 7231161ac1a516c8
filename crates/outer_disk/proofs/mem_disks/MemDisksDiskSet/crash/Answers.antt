use Rattle.std.proofs.Common.{None, arith, sym, ◌∙◌}
use Rattle.std.proofs.lemmas.List.{get_or_read}
use Rattle.outer_disk.proofs.Places.{put_back}
use Rattle.outer_disk.proofs.mem_disks.MemDisksDiskSet.crash.Goals as goal

pub returns-clause-err : goal.returns-clause-err
returns-clause-err c =
    let disks = c.self.inside.places.items in
    put_back c.crash.result c.args.self.now disks c.from.result c.in-Some.disk c.crash.new.self c.self.view_is
    (sym (get_or_read disks c.from.result _ (omega (arith, c.self.inside.places.ok.0, c.self.invariant)) c.index_mut.ensures.value None) ∙ c.in-Some.is) c.crash.ensures.err
