use Rattle.std.proofs.Common.{rules, subst}
use Rattle.outer_disk.specs.Calls.{AreWithin}
use Rattle.outer_disk.specs.MemDisk.{DiskState}
use Rattle.outer_disk.proofs.Replays.{took_held, took_elapses, synced_leaves, synced_follows}
use Rattle.outer_disk.specs.declared.disk_call.DiskCall.TheVariants.{Sync}
use Rattle.outer_disk.proofs.mem_disk.MemDiskDisk.sync.Goals as goal

pub returns-in-Ok-clause-ok : goal.returns-in-Ok-clause-ok
returns-in-Ok-clause-ok c d left = synced_leaves c.args.self.now c.take_sync.new.self d (search rules, search rules) left

pub returns-in-Ok-clause-same : goal.returns-in-Ok-clause-same
returns-in-Ok-clause-same c = took_held c.args.self.now c.take_sync.new.self Sync (search rules, search rules)

pub returns-in-Ok-clause-crash : goal.returns-in-Ok-clause-crash
returns-in-Ok-clause-crash c d left =
    synced_follows c.args.self.now c.take_sync.new.self d
    (subst (λ (s : DiskState). AreWithin s.first s.calls) c.self.view_is c.self.invariant.within) (search rules, search rules) left

pub returns-in-Ok-clause-time : goal.returns-in-Ok-clause-time
returns-in-Ok-clause-time c = took_elapses c.args.self.now c.take_sync.new.self Sync (search rules, search rules)
